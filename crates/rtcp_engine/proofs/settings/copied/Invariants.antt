use Rattle.std.proofs.Common.{◌≡◌, map, take, length}
use Rattle.rtcp_report.specs.Reports.{item_value}
use Rattle.rtcp_engine.proofs.settings.copied.Given as goal

-- the items so far
abbrev pub invariant-loop-item : goal.invariant-loop-item
invariant-loop-item l = record {
  count : length l.copies.items ≡ l.item-index;
  copied : map item_value l.copies.items ≡ map item_value (take l.item-index l.items.items);
}
