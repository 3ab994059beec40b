use Rattle.std.proofs.Common.{◌≡◌, ◌++◌, drop}
use Rattle.std.specs.List.{flat_map}
use Rattle.rtcp_report.specs.Reports.{item_value}
use Rattle.rtcp_command.specs.ReplayCommand.{item_text}
use Rattle.rtcp_command.proofs.replay_command.push_items.Given as goal

-- what is written, and then the options of the items that are left
abbrev pub invariant-loop-item : goal.invariant-loop-item
invariant-loop-item l =
    l.out.items ++ flat_map (λ item. item_text (item_value item)) (drop l.item-index l.items)
    ≡ l.fn.out.items ++ flat_map (λ item. item_text (item_value item)) l.items
