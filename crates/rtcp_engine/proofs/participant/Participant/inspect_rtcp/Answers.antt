use Rattle.std.proofs.Common.{◌∙◌, length, None, Ok, Err, refl, ap, sym}
use Rattle.rtcp_engine.specs.declared.arrival.Arrival.TheVariants.{Rtcp}
use Rattle.rtcp_engine.specs.answers.Acts.{moment_of, rtcp, rtcp_arrived, rtcp_came}
use Rattle.rtcp_engine.specs.answers.Changes.{is_about}
use Rattle.rtcp_engine.specs.answers.Setups.{Setup}
use Rattle.rtcp_engine.specs.state.States.{ParticipantValue}
use Rattle.rtcp_engine.proofs.Arriving.{plain}
use Rattle.rtcp_engine.proofs.Following.{few_named}
use Rattle.rtcp_engine.proofs.Inspecting.{call_foretold, fault_foretold, of_compound, told_ssrc}
use Rattle.rtcp_engine.proofs.participant.Participant.inspect_rtcp.Goals as goal

pub returns-in-Some-clause-foretold : goal.returns-in-Some-clause-foretold
returns-in-Some-clause-foretold g c =
    call_foretold (rtcp_arrived c.args.now c.args.peer c.args.w c.args.bytes.now) (λ act is. ap moment_of is)
    (sym c.refusal.ensures.exact ∙ c.in-Some.is)

pub returns-in-Err-clause-foretold : goal.returns-in-Err-clause-foretold
returns-in-Err-clause-foretold g c =
    let fault = c.in-Err.fault in
    of_compound c.args.bytes.now (Err fault) (c.in-Err.ensures.refused fault refl)
    (fault_foretold c.args.now c.args.peer c.args.w (rtcp (length c.args.bytes.now) (Err fault))
    (sym c.refusal.ensures.exact ∙ c.in_default.is) refl)

pub returns-then-not-tells_of-clause-foretold : goal.returns-then-not-tells_of-clause-foretold
returns-then-not-tells_of-clause-foretold g c =
    let p = c.args.self.now in
    let read = Rtcp c.in-Ok.compound (length c.args.bytes.now) in
    let present = c.ssrc-present.ensures ∙ ap (λ (x : ParticipantValue). x.presence.setup.ssrc) c.self.view_is in
    of_compound c.args.bytes.now (Ok c.in-Ok.compound) c.in-Ok.ensures.accepted (λ h stands.
    let own = present ∙ ap (λ (s : Setup). s.ssrc) stands.session.setup in
    ap Ok own ∙ told_ssrc h (rtcp_came c.args.now c.args.peer c.args.w c.args.bytes.now (Ok c.in-Ok.compound)) None
    (plain p h c.args.now c.args.peer c.args.w read stands (sym c.refusal.ensures.exact ∙ c.in_default.is)
    (sym (ap (λ ssrc. is_about ssrc (rtcp (length c.args.bytes.now) (Ok c.in-Ok.compound))) own)
    ∙ sym c.tells_of.ensures ∙ c.if-not-tells_of.true)))

pub ssrc_for_own-requires-clause-few : goal.ssrc_for_own-requires-clause-few
ssrc_for_own-requires-clause-few g c = few_named c.args.bytes.now c.in-Ok.compound c.in-Ok.ensures.accepted

pub ssrc_for_own-requires-clause-own : goal.ssrc_for_own-requires-clause-own
ssrc_for_own-requires-clause-own g c =
    sym (ap (λ ssrc. is_about ssrc (rtcp (length c.args.bytes.now) (Ok c.in-Ok.compound)))
    (c.ssrc-present.ensures ∙ ap (λ (x : ParticipantValue). x.presence.setup.ssrc) c.self.view_is))
    ∙ sym c.tells_of.ensures ∙ c.if-not-tells_of.false

pub returns-in-Err-ssrc_for_own-clause-foretold : goal.returns-in-Err-ssrc_for_own-clause-foretold
returns-in-Err-ssrc_for_own-clause-foretold g c =
    of_compound c.args.bytes.now (Ok c.in-Ok.compound) c.in-Ok.ensures.accepted
    (λ h stands. c.in-Err-ssrc_for_own.ensures c.args.now h (sym c.refusal.ensures.exact ∙ c.in_default.is) stands)

pub returns-in-Ok-read-clause-foretold : goal.returns-in-Ok-read-clause-foretold
returns-in-Ok-read-clause-foretold g c =
    of_compound c.args.bytes.now (Ok c.in-Ok.compound) c.in-Ok.ensures.accepted
    (λ h stands. c.in-Ok-ssrc_for_own.ensures c.args.now h (sym c.refusal.ensures.exact ∙ c.in_default.is) stands)

pub returns-in-Err-read-clause-foretold : goal.returns-in-Err-read-clause-foretold
returns-in-Err-read-clause-foretold g c = absurd (c.in-Err-read.ensures.reads c.in-Ok.compound c.in-Ok.ensures.accepted)
