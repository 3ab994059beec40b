use Rattle.std.proofs.Common.{◌∙◌, None, Ok, Err, refl, ap, sym}
use Rattle.rtcp_engine.specs.declared.arrival.Arrival.TheVariants.{Rtp}
use Rattle.rtcp_engine.specs.answers.Acts.{moment_of, rtp, rtp_arrived, rtp_came}
use Rattle.rtcp_engine.specs.answers.Setups.{Setup}
use Rattle.rtcp_engine.specs.state.States.{ParticipantValue}
use Rattle.rtcp_engine.proofs.Arriving.{plain}
use Rattle.rtcp_engine.proofs.Inspecting.{call_foretold, fault_foretold, is_other, is_same, of_packet, told_ssrc}
use Rattle.rtcp_engine.proofs.participant.Participant.inspect_rtp.Goals as goal

pub returns-in-Some-clause-foretold : goal.returns-in-Some-clause-foretold
returns-in-Some-clause-foretold g c =
    call_foretold (rtp_arrived c.args.now c.args.peer c.args.w c.args.bytes.now) (λ act is. ap moment_of is)
    (sym c.refusal.ensures.exact ∙ c.in-Some.is)

pub returns-in-Err-clause-foretold : goal.returns-in-Err-clause-foretold
returns-in-Err-clause-foretold g c =
    let fault = c.in-Err.fault in
    of_packet c.args.bytes.now (Err fault) (c.in-Err.ensures.refused fault refl)
    (fault_foretold c.args.now c.args.peer c.args.w (rtp (Err fault))
    (sym c.refusal.ensures.exact ∙ c.in_default.is) refl)

pub returns-then-ssrc-present-clause-foretold : goal.returns-then-ssrc-present-clause-foretold
returns-then-ssrc-present-clause-foretold g c =
    let p = c.args.self.now in
    let head = c.in-Ok.head in
    let present = c.ssrc-present.ensures ∙ ap (λ (x : ParticipantValue). x.presence.setup.ssrc) c.self.view_is in
    of_packet c.args.bytes.now (Ok head) c.in-Ok.ensures.accepted (λ h stands.
    let own = present ∙ ap (λ (s : Setup). s.ssrc) stands.session.setup in
    ap Ok own ∙ told_ssrc h (rtp_came c.args.now c.args.peer c.args.w (Ok head)) None
    (plain p h c.args.now c.args.peer c.args.w (Rtp head) stands (sym c.refusal.ensures.exact ∙ c.in_default.is)
    (is_other head.ssrc _ (λ same. c.if-ssrc-present.true (c.ssrc.ensures ∙ same ∙ sym own)))))

pub ssrc_for_own-requires-clause-own : goal.ssrc_for_own-requires-clause-own
ssrc_for_own-requires-clause-own g c =
    is_same c.in-Ok.head.ssrc _ (sym c.ssrc.ensures ∙ c.if-ssrc-present.false ∙ c.ssrc-present.ensures
    ∙ ap (λ (x : ParticipantValue). x.presence.setup.ssrc) c.self.view_is)

pub returns-in-Err-ssrc_for_own-clause-foretold : goal.returns-in-Err-ssrc_for_own-clause-foretold
returns-in-Err-ssrc_for_own-clause-foretold g c =
    of_packet c.args.bytes.now (Ok c.in-Ok.head) c.in-Ok.ensures.accepted
    (λ h stands. c.in-Err-ssrc_for_own.ensures c.args.now h (sym c.refusal.ensures.exact ∙ c.in_default.is) stands)

pub returns-in-Ok-read-clause-foretold : goal.returns-in-Ok-read-clause-foretold
returns-in-Ok-read-clause-foretold g c =
    of_packet c.args.bytes.now (Ok c.in-Ok.head) c.in-Ok.ensures.accepted
    (λ h stands. c.in-Ok-ssrc_for_own.ensures c.args.now h (sym c.refusal.ensures.exact ∙ c.in_default.is) stands)

pub returns-in-Err-read-clause-foretold : goal.returns-in-Err-read-clause-foretold
returns-in-Err-read-clause-foretold g c = absurd (c.in-Err-read.ensures.reads c.in-Ok.head c.in-Ok.ensures.accepted)
