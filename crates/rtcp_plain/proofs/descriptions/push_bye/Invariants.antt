use Rattle.std.proofs.Common.{◌≡◌, ◌++◌}
use Rattle.std.specs.List.{flat_map}
use Rattle.rtcp_plain.specs.Plain.{source_text}
use Rattle.rtcp_plain.proofs.descriptions.push_bye.Given as goal

-- what is written, and then the texts of the identifiers that are left
abbrev pub invariant-loop-id : goal.invariant-loop-id
invariant-loop-id l =
    l.out.items ++ flat_map source_text l.id-iterator ≡ l.initial.out.items ++ flat_map source_text
    l.initial.id-iterator
