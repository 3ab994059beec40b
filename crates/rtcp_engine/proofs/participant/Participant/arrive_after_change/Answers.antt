use Rattle.std.proofs.Common.{◌∙◌, Option, Some, None, ap, sym, subst}
use Rattle.rtcp_engine.specs.answers.Acts.{arrived, OutValue}
use Rattle.rtcp_engine.specs.answers.Changes.{NewIdentifier, changed_by}
use Rattle.rtcp_engine.specs.answers.Histories.{History, session_at, with_act}
use Rattle.rtcp_engine.specs.answers.Lives.{step_into}
use Rattle.rtcp_engine.specs.state.States.{Acts, IsIn, ParticipantValue, StandsAt}
use Rattle.rtcp_engine.specs.state.Views.{datagram_of, out_in, written_step_value}
use Rattle.rtcp_engine.proofs.ActLemmas.{IsTaken, acted_stands, acted_step, answered, promised}
use Rattle.rtcp_engine.proofs.Arriving.{changing, is_own, may_is}
use Rattle.rtcp_engine.proofs.Changing.{or_none}
use Rattle.rtcp_engine.proofs.LifeLemmas.{is_there}
use Rattle.rtcp_engine.proofs.AnswerLemmas.{taken_history}
use Rattle.rtcp_engine.proofs.participant.Participant.arrive_after_change.Goals as goal

pub free_ssrc-ssrc-requires : goal.free_ssrc-ssrc-requires
free_ssrc-ssrc-requires g c = record { few = c.requires.few }

pub returns-clause-takes : goal.returns-clause-takes
returns-clause-takes g c =
    let p = c.args.self.now in
    let mid = c.change-out.new.self in
    let q = c.take_datagram-others_changed.new.self in
    let arrival = c.args.arrival in
    let act = arrived c.args.now c.args.peer c.args.w (datagram_of arrival) in
    let new : NewIdentifier = record { peer = c.args.peer; ssrc = c.free_ssrc-ssrc.result } in
    let octets = c.change-out.new.octets in
    let bye = out_in octets c.change-out.result in
    let changes : (h : History) → StandsAt p h → IsTaken h act (Some new) = λ h stands.
    changing p h c.args.now c.args.peer c.args.w new.ssrc arrival stands c.requires.admitted
    (is_own p h (datagram_of arrival) stands c.requires.own) (sym (may_is p h c.args.peer stands) ∙ c.requires.allowed)
    (c.free_ssrc-ssrc.ensures h stands (is_there c.args.now p c.requires.admitted)) in
    let there : (h : History) → StandsAt p h → IsIn mid (changed_by (Some new) (session_at h)) =
    λ h stands. c.change-out.ensures.new (session_at h) stands.session in
    let acts = subst (λ (x : ParticipantValue). Acts x q act None c.take_datagram-others_changed.result)
    c.take_call.ensures.new (c.take_datagram-others_changed.ensures.new c.args.peer c.args.w) in
    let after : (h : History) → StandsAt p h → StandsAt q (with_act h act) = λ h stands. acted_stands h
    (Some new) stands (changes h stands) c.ranges.w.fits (there h stands) c.change-out.ensures.calls acts in
    promised (λ h stands. answered h act _ (changes h stands).taken
    (acted_step h (Some new) bye (written_step_value octets c.written_step-told.result) (changes h stands)
    (there h stands) acts
    (after h stands) (c.change-out.ensures.out (session_at h) stands.session)
    (λ life at. c.written_step-told.ensures.exact octets life at
    ∙ ap (λ (out : Option OutValue). step_into q.presence.setup out c.take_datagram-others_changed.result
    life) (sym (or_none bye)))))
    (λ h stands. subst (StandsAt q) (taken_history h act (changes h stands).taken) (after h stands))
