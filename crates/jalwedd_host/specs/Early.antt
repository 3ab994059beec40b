-- What a call that comes before the start promises to a host in C.
use Rattle.std.specs.Prelude.{ℕ, ◌≡◌, List, Option}
use Rattle.rtcp_engine.specs.answers.Histories.{History, life_at}
use Rattle.jalwedd_host.specs.declared.session.HostSession.{HostSession}
use Rattle.jalwedd_host.specs.declared.step.HostStep.{HostStep}
use Rattle.jalwedd_host.specs.Answers.{HandsNothing, Shows, early_refusal, status_of_refusal}

-- A call came before the start. It is refused as one that comes before moment 0, or after the end, and hands nothing
-- out. The step shows the history, and what is held is as it was.
pub record RefusesEarly
    (start : ℕ) (history : History) (before after : Option HostSession) (result : ℕ) (step : HostStep)
    (was octets : List ℕ)
    : Type 0 where
  pub status : result ≡ status_of_refusal (early_refusal (life_at history))
  pub nothing : HandsNothing step
  pub octets_kept : octets ≡ was
  pub shows : Shows start step history
  pub kept : after ≡ before
