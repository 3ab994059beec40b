use Rattle.std.proofs.Common.{◌∙◌, map, ap, sym}
use Rattle.rtcp_engine.specs.declared.changes.IdentifierChange.{IdentifierChange}
use Rattle.rtcp_engine.specs.declared.refusal.Refusal.TheVariants.{OwnSsrc}
use Rattle.rtcp_engine.specs.answers.Acts.{arrived}
use Rattle.rtcp_engine.specs.answers.Changes.{may_change}
use Rattle.rtcp_engine.specs.state.States.{ParticipantValue}
use Rattle.rtcp_engine.specs.state.Views.{datagram_of}
use Rattle.rtcp_engine.proofs.ActLemmas.{refuses}
use Rattle.rtcp_engine.proofs.Arriving.{is_own, may_is, refused_as_own}
use Rattle.rtcp_engine.proofs.participant.Participant.arrive_as_own.Goals as goal

pub returns-then-not-allows-clause-takes : goal.returns-then-not-allows-clause-takes
returns-then-not-allows-clause-takes g c =
    let p = c.args.self.now in
    let arrival = c.args.arrival in
    let listed = sym (ap (λ (x : ParticipantValue). may_change
    (map (λ (change : IdentifierChange). change.peer) x.changes)
    c.args.peer) c.self.view_is) ∙ sym c.allows.ensures.exact ∙ c.if-not-allows.true in
    refuses p (arrived c.args.now c.args.peer c.args.w (datagram_of arrival)) OwnSsrc
    (λ h stands. refused_as_own p h c.args.now c.args.peer c.args.w arrival stands c.requires.admitted
    (is_own p h (datagram_of arrival) stands c.requires.own) (sym (may_is p h c.args.peer stands) ∙ listed))
