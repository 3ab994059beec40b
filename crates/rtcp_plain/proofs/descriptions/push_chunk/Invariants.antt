use Rattle.std.proofs.Common.{◌≡◌, ◌++◌}
use Rattle.std.specs.List.{flat_map}
use Rattle.rtcp_plain.specs.Plain.{item_text}
use Rattle.rtcp_plain.proofs.descriptions.push_chunk.Given as goal

-- what is written, and then the texts of the items that are left
abbrev pub invariant-loop-item : goal.invariant-loop-item
invariant-loop-item l =
    l.out.items ++ flat_map item_text l.item-iterator ≡ l.initial.out.items ++ flat_map item_text
    l.initial.item-iterator
