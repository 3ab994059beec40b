use Rattle.std.proofs.Common.{◌≡◌, length, map, take}
use Rattle.std.specs.Prelude.{min}
use Rattle.std.specs.List.{flat_map}
use Rattle.rtcp_wire.specs.WriterViews.{item_ref_of}
use Rattle.rtcp_wire.specs.Writing.{written_item}
use Rattle.rtcp_wire.proofs.writer.size.items_size.Given as goal

abbrev pub invariant-loop-item : goal.invariant-loop-item
invariant-loop-item l = l.size ≡ min (length (flat_map written_item (map item_ref_of (take l.item-index l.items))))
    262145
