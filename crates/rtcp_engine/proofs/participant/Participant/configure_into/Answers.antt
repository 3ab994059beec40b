use Rattle.std.proofs.Common.{◌∙◌, refl, ap, sym, option_map}
use Rattle.rtcp_engine.specs.declared.refusal.Refusal.TheVariants.{Settings}
use Rattle.rtcp_engine.specs.answers.Acts.{configured, moment_of, settings_value}
use Rattle.rtcp_engine.specs.state.States.{ParticipantValue}
use Rattle.rtcp_engine.proofs.ActLemmas.{alone, call_refused, content_refused, leaves_all, outside_at, plain_call, refused, replied, takes}
use Rattle.rtcp_engine.proofs.participant.Participant.configure_into.Goals as goal

pub returns-in-Some-clause-replies : goal.returns-in-Some-clause-replies
returns-in-Some-clause-replies g c =
    call_refused (λ act is. ap moment_of is) (sym c.refusal.ensures.exact ∙ c.in-Some.is) c.refusal.ensures.within

pub returns-in-Some-error-clause-replies : goal.returns-in-Some-error-clause-replies
returns-in-Some-error-clause-replies g c =
    let settings = settings_value c.args.settings.now in
    refused (alone (content_refused c.args.self.now (configured c.args.now settings) (Settings c.in-Some-error.error)
    (sym c.refusal.ensures.exact ∙ c.in_default.is)
    (λ session. ap (option_map Settings) (sym c.error.ensures ∙ c.in-Some-error.is)))) c.refusal.ensures.within

pub returns-clause-replies : goal.returns-clause-replies
returns-clause-replies g c =
    let act = configured c.args.now (settings_value c.args.settings.now) in
    replied (alone (takes _ (plain_call c.args.self.now act (sym c.refusal.ensures.exact ∙ c.in_default.is)
    (λ session. ap (option_map Settings) (sym c.error.ensures ∙ c.in_default-error.is)) (λ session. refl))
    (outside_at (λ (p : ParticipantValue). configured p.presence.latest (settings_value c.args.settings.now))
    c.take_call.ensures.new c.take_settings.ensures.new) (c.written_step-told.ensures.exact c.args.octets.now) tt))
    c.take_settings.ensures.within c.written_step-told.ensures.standing c.written_step-told.ensures.out leaves_all
