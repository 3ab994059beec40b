-- The compound of an answer is the call that comes next, if there is one.
use Rattle.std.proofs.Common.{◌≡◌, true, false, option_map, refl, sym, ap, ◌∙◌, if◌then◌else◌}
use Rattle.rtcp_engine.specs.state.Views.{out_value}
use Rattle.rtcp_guarded.specs.Views.{guarded_value}
use Rattle.rtcp_serve.specs.declared.serving.Cause.TheVariants.{Limit}
use Rattle.rtcp_serve.specs.Tallies.{ends_session}
use Rattle.rtcp_serve.specs.Serving.{ended, sending, stage_to_send, stage_after_step}
use Rattle.rtcp_serve.specs.Sessions.{keeps_served, led_to}
use Rattle.rtcp_serve.proofs.LinkCalls.{sent_over, walks_nowhere, walks_to}
use Rattle.rtcp_serve.proofs.serving.turns.hand_over.Goals as goal

pub returns-in-Some-clause-leads : goal.returns-in-Some-clause-leads
returns-in-Some-clause-leads g c = λ run next refused kept words s holds stage.
    let walk = sent_over run next _ _ _ _ _ s _ (keeps_served _ kept words _) _ _ holds (stage
    ∙ ap (λ answer. stage_to_send next refused (guarded_value answer)) c.in-Ok.is
    ∙ ap (λ out. stage_after_step next c.in-Ok.step.changed (option_map out_value out)) c.in-Some.is
    ∙ ap (λ out. sending (out_value out) c.in-Ok.step.changed next) (sym c.in-Some.out-is))
    c.as_slice.ensures.value c.send-sent.ensures.called refl refl c.sent.ensures c.send.ensures.moved
    c.is_err-failed.ensures.value in
    walks_to walk (walk.ends ∙ sym (ap (λ answer. led_to next refused (guarded_value answer)) c.in-Ok.is))

pub returns-in-None-clause-leads : goal.returns-in-None-clause-leads
returns-in-None-clause-leads g c = λ run next refused kept words s holds stage.
    walks_nowhere _ run s _ _ _ holds (stage
    ∙ ap (λ answer. stage_to_send next refused (guarded_value answer)) c.in-Ok.is
    ∙ ap (λ out. stage_after_step next c.in-Ok.step.changed (option_map out_value out)) c.in-None.is
    ∙ sym (ap (λ answer. led_to next refused (guarded_value answer)) c.in-Ok.is))

pub returns-in-Err-clause-leads : goal.returns-in-Err-clause-leads
returns-in-Err-clause-leads g c = λ run next refused kept words s holds stage.
    let known : ends_session c.in-Err.untaken ≡ true = cc (c.ends_session.ensures, c.if-ends_session.true) in
    walks_nowhere _ run s _ _ _ holds (stage
    ∙ ap (λ answer. stage_to_send next refused (guarded_value answer)) c.in-Err.is
    ∙ ap (λ b. if b then ended Limit else refused) known)

pub returns-in-Err-2-clause-leads : goal.returns-in-Err-2-clause-leads
returns-in-Err-2-clause-leads g c = λ run next refused kept words s holds stage.
    let known : ends_session c.in-Err-2.field-0 ≡ false =
    cc (c.ends_session.ensures, c.if-ends_session.false, c.in-Err.is, c.in-Err-2.is) in
    walks_nowhere _ run s _ _ _ holds (stage
    ∙ ap (λ answer. stage_to_send next refused (guarded_value answer)) c.in-Err-2.is
    ∙ ap (λ b. if b then ended Limit else refused) known
    ∙ sym (ap (λ answer. led_to next refused (guarded_value answer)) c.in-Err-2.is))
