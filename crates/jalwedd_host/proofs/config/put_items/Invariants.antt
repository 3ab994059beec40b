use Rattle.std.proofs.Common.{◌≡◌, ◌≤◌, map, length, take}
use Rattle.rtcp_report.specs.Reports.{item_value}
use Rattle.jalwedd_host.specs.Configs.{item_given}
use Rattle.jalwedd_host.proofs.config.put_items.Given as goal

-- The items so far are there, and no more of them than come.
abbrev pub invariant-items : goal.invariant-items
invariant-items l =
    (map item_value l.extras.items ≡ map item_given (take l.item-index l.items))
    × (length l.extras.items ≡ l.item-index)
    × (length l.items ≤ 7)
