use Rattle.std.proofs.Common.{◌≡◌, ◌++◌}
use Rattle.std.specs.List.{flat_map}
use Rattle.rtcp_plain.specs.Plain.{chunk_text}
use Rattle.rtcp_plain.proofs.descriptions.push_description.Given as goal

-- what is written, and then the texts of the chunks that are left
abbrev pub invariant-loop-chunk : goal.invariant-loop-chunk
invariant-loop-chunk l =
    l.out.items ++ flat_map chunk_text l.chunk-iterator ≡ l.initial.out.items ++ flat_map chunk_text
    l.initial.chunk-iterator
