-- A call that a handle is not opened for.
use Rattle.std.proofs.Common.{◌≡◌, ◌<◌, ℕ, Option, Some, None, refl, sym, subst, ◌∙◌, arith}
use Rattle.rtcp_engine.specs.answers.Histories.{History, life_at}
use Rattle.jalwedd_host.specs.declared.session.HostSession.{HostSession}
use Rattle.jalwedd_host.specs.declared.step.HostStep.{HostStep}
use Rattle.jalwedd_host.specs.Answers.{HandsNothing, IsBlank, Shows, early_refusal, status_of_refusal}
use Rattle.jalwedd_host.specs.Handles.{KeepsWithin, Leads, LeadsTo}
use Rattle.jalwedd_host.specs.Promises.{TurnsBack}
use Rattle.rtcp_guarded.specs.Guarded.{passed_at}
use Rattle.jalwedd_host.proofs.Held.{guarded_of, nobody_guarded, session_of}

nobody_leads : {held : Option HostSession} (start : ℕ) (history : History) → held ≡ None →
    LeadsTo held start history → ⊥
nobody_leads {held} start history none leads =
    subst (λ (h : Option HostSession). LeadsTo h start history) none leads

-- There is no session.
pub none_turned : {before after : Option HostSession} {step : HostStep} {now : ℕ} → before ≡ None → after ≡ None →
    IsBlank step → TurnsBack now before after 20 step
none_turned {before} {after} none empty blank = record {
  tells = λ event octets. record {
    serves = λ start moment history act leads. absurd (nobody_leads start history none leads);
    early = λ start history leads. absurd (nobody_leads start history none leads);
  };
  guarded = λ event octets. record {
    serves = λ start moment history act leads. absurd (nobody_guarded start history none leads);
    early = λ start history leads. absurd (nobody_guarded start history none leads);
  };
  spares = λ octets. record {
    within = λ keeps. subst KeepsWithin (sym empty) tt;
    refused = λ other. empty ∙ sym none;
    empty = λ same. (refl, blank, refl);
  };
  nothing = blank.5;
  kept = empty ∙ sym none;
}

-- The call comes before the start, and the session is put back.
pub early_turned : {before after : Option HostSession} {session : HostSession} {status : ℕ} {step : HostStep}
    {now : ℕ} → before ≡ Some session → after ≡ Some session → now < session.start →
    ((start : ℕ) (history : History) → Leads session start history →
    status ≡ status_of_refusal (early_refusal (life_at history))) → HandsNothing step →
    ((start : ℕ) (history : History) → Leads session start history → Shows start step history) →
    TurnsBack now before after status step
early_turned {before} {after} {session} {status} {step} {now} is after_is low reason nothing shown = record {
  tells = λ event octets. record {
    serves = λ start moment history act leads told.
        absurd (omega (arith, low, told, (session_of before session start history is leads).counts));
    early = λ start history leads late.
        let holds = session_of before session start history is leads in
        record {
          status = reason start history holds;
          nothing = nothing;
          octets_kept = refl;
          shows = shown start history holds;
          kept = after_is ∙ sym is;
        };
  };
  guarded = λ event octets. record {
    serves = λ start moment history act leads told.
        absurd (omega (arith, low, told, (guarded_of before session start history is leads).passed.counts));
    early = λ start history leads late.
        let holds = (guarded_of before session start history is leads).passed in
        record {
          status = reason start (passed_at history) holds;
          nothing = nothing;
          octets_kept = refl;
          shows = shown start (passed_at history) holds;
          kept = after_is ∙ sym is;
        };
  };
  spares = λ octets. record {
    within = λ keeps. subst KeepsWithin (is ∙ sym after_is) keeps;
    refused = λ other. after_is ∙ sym is;
    empty = λ none. absurd (cc (is, none));
  };
  nothing = nothing.0;
  kept = after_is ∙ sym is;
}
