use Rattle.std.proofs.Common.{ap}
use Rattle.rtcp_members.specs.declared.cells.Slot.{Slot}
use Rattle.rtcp_members.proofs.storage.Quartering.{passes_as, quarters_passed}
use Rattle.rtcp_members.proofs.index.quarters_before.Goals as goal

pub returns-clause-halved : goal.returns-clause-halved
returns-clause-halved c = λ count so all.
    let first = c.if_before-first.ensures in
    let second = c.if_before-second.ensures in
    let third = c.if_before-third.ensures in
    quarters_passed c.args.ssrc c.args.slots.now c.requires.rising c.args.at c.args.quarter count so c.requires.some
    all c.requires.within _ _ _
    (passes_as _ _ (ap (λ (s : Slot). s.ssrc) c.slot_at.ensures) first.before first.after)
    (passes_as _ _ (ap (λ (s : Slot). s.ssrc) c.slot_at-2.ensures) second.before second.after)
    (passes_as _ _ (ap (λ (s : Slot). s.ssrc) c.slot_at-3.ensures) third.before third.after)
