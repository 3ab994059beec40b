-- The slot of a rank has the SSRC of its entry.
use Rattle.std.proofs.Common.{arith, Ok, sym, ap}
use Rattle.rtcp_members.specs.declared.cells.Slot.{Slot}
use Rattle.rtcp_members.proofs.shelf.Shelf.ssrc_at.Goals as goal

pub returns : goal.returns
returns g c = c.in_use.ensures.found c.slot_at.result.ssrc (Ok c.args.at)
    (omega (arith, c.requires, c.in_use.ensures.as_many), sym (ap (λ (s : Slot). s.ssrc) c.slot_at.ensures))
