use Rattle.std.proofs.Common.{◌∙◌, map, ap, sym}
use Rattle.rtcp_engine.specs.declared.changes.IdentifierChange.{IdentifierChange}
use Rattle.rtcp_engine.specs.declared.refusal.Refusal.TheVariants.{OwnSsrc}
use Rattle.rtcp_engine.specs.answers.Acts.{arrived}
use Rattle.rtcp_engine.specs.answers.Changes.{may_change}
use Rattle.rtcp_engine.specs.state.States.{ParticipantValue}
use Rattle.rtcp_engine.specs.state.Views.{datagram_of}
use Rattle.std.specs.Prelude.{Some}
use Rattle.rtcp_engine.proofs.Arriving.{changing, is_own, may_is, refused_as_own}
use Rattle.rtcp_engine.proofs.Inspecting.{told_refusal, told_ssrc}
use Rattle.rtcp_engine.proofs.LifeLemmas.{is_there}
use Rattle.rtcp_engine.proofs.participant.Participant.ssrc_for_own.Goals as goal

pub returns-then-not-allows : goal.returns-then-not-allows
returns-then-not-allows g c moment h none stands =
    let p = c.args.self.now in
    let arrival = c.args.arrival.now in
    let listed = sym (ap (λ (x : ParticipantValue). may_change
    (map (λ (change : IdentifierChange). change.peer) x.changes)
    c.args.peer) c.self.view_is) ∙ sym c.allows.ensures.exact ∙ c.if-not-allows.true in
    told_refusal h (arrived moment c.args.peer c.args.w (datagram_of arrival)) OwnSsrc
    (refused_as_own p h moment c.args.peer c.args.w arrival stands none
    (is_own p h (datagram_of arrival) stands c.requires.own) (sym (may_is p h c.args.peer stands) ∙ listed))

pub returns : goal.returns
returns g c moment h none stands =
    let p = c.args.self.now in
    let arrival = c.args.arrival.now in
    let unlisted = sym (ap (λ (x : ParticipantValue). may_change
    (map (λ (change : IdentifierChange). change.peer) x.changes)
    c.args.peer) c.self.view_is) ∙ sym c.allows.ensures.exact ∙ c.if-not-allows.false in
    told_ssrc h (arrived moment c.args.peer c.args.w (datagram_of arrival))
    (Some (record { peer = c.args.peer; ssrc = c.free_ssrc.result }))
    (changing p h moment c.args.peer c.args.w c.free_ssrc.result arrival stands none
    (is_own p h (datagram_of arrival) stands c.requires.own) (sym (may_is p h c.args.peer stands) ∙ unlisted)
    (c.free_ssrc.ensures h stands (is_there moment p none)))
