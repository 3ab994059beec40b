use Rattle.std.proofs.Common.{◌≡◌, map, drop}
use Rattle.std.specs.List.{list_all}
use Rattle.rtcp_report.specs.Reports.{item_value}
use Rattle.rtcp_engine.specs.answers.Setups.{is_extra_item}
use Rattle.rtcp_engine.proofs.config.are_extras.Given as goal

-- those that are left decide
abbrev pub invariant-items : goal.invariant-items
invariant-items l = list_all is_extra_item (map item_value (drop l.item-index l.items)) ≡ list_all is_extra_item
    (map item_value l.items)
