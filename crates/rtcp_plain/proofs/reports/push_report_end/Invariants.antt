use Rattle.std.proofs.Common.{◌≡◌, ◌++◌}
use Rattle.std.specs.List.{flat_map}
use Rattle.rtcp_plain.specs.Plain.{block_text}
use Rattle.rtcp_plain.proofs.reports.push_report_end.Given as goal

-- what is written, and then the texts of the blocks that are left
abbrev pub invariant-loop-block : goal.invariant-loop-block
invariant-loop-block l =
    l.out.items ++ flat_map (block_text l.rate) l.block-iterator
    ≡ l.fn.out.items ++ flat_map (block_text l.rate) l.fn.blocks
