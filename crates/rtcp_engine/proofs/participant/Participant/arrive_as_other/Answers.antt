use Rattle.std.proofs.Common.{◌∙◌, None, ap, sym, subst}
use Rattle.rtcp_engine.specs.answers.Acts.{arrived}
use Rattle.rtcp_engine.specs.answers.Changes.{is_about}
use Rattle.rtcp_engine.specs.answers.Setups.{Setup}
use Rattle.rtcp_engine.specs.state.States.{Acts, ParticipantValue}
use Rattle.rtcp_engine.specs.state.Views.{datagram_of}
use Rattle.rtcp_engine.proofs.ActLemmas.{takes}
use Rattle.rtcp_engine.proofs.Arriving.{plain}
use Rattle.rtcp_engine.proofs.participant.Participant.arrive_as_other.Goals as goal

pub returns-clause-takes : goal.returns-clause-takes
returns-clause-takes g c peer w room fits =
    let p = c.args.self.now in
    let arrival = c.args.arrival.now in
    let datagram = datagram_of arrival in
    let act = arrived c.args.now peer w datagram in
    takes _ (λ history h. plain p history c.args.now peer w arrival h c.requires.admitted
    (sym (ap (λ (s : Setup). is_about s.ssrc datagram) h.session.setup) ∙ c.requires.other))
    (subst (λ (x : ParticipantValue). Acts x c.take_datagram-others_changed.new.self act None
    c.take_datagram-others_changed.result) c.take_call.ensures.new
    (c.take_datagram-others_changed.ensures.new peer w)) (c.written_step.ensures.exact room) fits

pub returns-in-Present-clause-takes : goal.returns-in-Present-clause-takes
returns-in-Present-clause-takes g c peer w room fits =
    let p = c.args.self.now in
    let arrival = c.args.arrival.now in
    let datagram = datagram_of arrival in
    let act = arrived c.args.now peer w datagram in
    takes _ (λ history h. plain p history c.args.now peer w arrival h c.requires.admitted
    (sym (ap (λ (s : Setup). is_about s.ssrc datagram) h.session.setup) ∙ c.requires.other))
    (subst (λ (x : ParticipantValue). Acts x c.take_in_session-others_changed.new.self act None
    c.take_in_session-others_changed.result) c.take_call.ensures.new
    (c.take_in_session-others_changed.ensures.new peer w)) (c.written_step_in_session.ensures.exact room) fits
