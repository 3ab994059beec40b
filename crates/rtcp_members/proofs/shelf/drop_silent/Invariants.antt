-- The entries of the ranks so far are dropped or changed.
use Rattle.std.proofs.Common.{◌≡◌, length}
use Rattle.rtcp_members.specs.Traces.{horizons_at}
use Rattle.rtcp_members.specs.storage.Heaps.{in_order, entries_in, IsHeap}
use Rattle.rtcp_members.proofs.lists.Dropping.{IsDropping}
use Rattle.rtcp_members.proofs.shelf.drop_silent.Given as goal

abbrev pub invariant-ranks : goal.invariant-ranks
invariant-ranks l =
    record {
      heap : IsHeap (entries_in l.cells) l.slots l.used;
      dropping : IsDropping (horizons_at l.silent l.idle l.gone) (in_order l.fn.cells l.fn.slots l.used)
          (in_order l.cells l.slots l.used)
          l.kept l.at l.counts l.bounds;
      as_many : length l.cells ≡ length l.fn.cells;
      as_many_slots : length l.slots ≡ length l.fn.slots;
    }
