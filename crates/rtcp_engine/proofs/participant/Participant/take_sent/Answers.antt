use Rattle.std.proofs.Common.{refl, ap}
use Rattle.rtcp_engine.specs.state.Views.{phase_value}
use Rattle.rtcp_engine.proofs.ActLemmas.{acts_present, acts_passing, acts_gone, outside}
use Rattle.rtcp_engine.proofs.RolesChanged.{none_since}
use Rattle.rtcp_engine.proofs.participant.Participant.take_sent.Goals as goal

pub returns-in-Present-clause-new : goal.returns-in-Present-clause-new
returns-in-Present-clause-new g c =
    let phase = ap phase_value c.in-Present.is in
    outside c.self.view_is (acts_present (λ settings. refl) phase phase refl c.take_sent.ensures (λ setup outcome. refl)
    (λ outcome agrees. refl) (λ outcome agrees. none_since _ outcome.trace))

pub returns-in-BackingOff-clause-new : goal.returns-in-BackingOff-clause-new
returns-in-BackingOff-clause-new g c =
    acts_passing (λ settings. refl) _ c.self.view_is (ap phase_value c.in-BackingOff.is)
    (λ setup outcome backoff. refl) (λ setup outcome backoff. refl)

pub returns-in-Finished-clause-new : goal.returns-in-Finished-clause-new
returns-in-Finished-clause-new g c =
    acts_gone (λ settings. refl) c.self.view_is (ap phase_value c.in-Finished.is)
