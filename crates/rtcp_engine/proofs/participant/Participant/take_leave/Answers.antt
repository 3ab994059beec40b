use Rattle.std.proofs.Common.{subst, refl, ap}
use Rattle.rtcp_engine.specs.state.States.{HasOthers, ParticipantValue}
use Rattle.rtcp_engine.specs.state.Views.{phase_value}
use Rattle.rtcp_engine.proofs.ActLemmas.{acts_passing, acts_gone}
use Rattle.rtcp_engine.proofs.participant.Participant.take_leave.Goals as goal

pub returns-in-BackingOff-clause-new : goal.returns-in-BackingOff-clause-new
returns-in-BackingOff-clause-new g c =
    acts_passing (λ settings. refl) _ c.self.view_is (ap phase_value c.in-BackingOff.is)
    (λ setup outcome backoff. refl) (λ setup outcome backoff. refl)

pub returns-in-Finished-clause-new : goal.returns-in-Finished-clause-new
returns-in-Finished-clause-new g c =
    acts_gone (λ settings. refl) c.self.view_is (ap phase_value c.in-Finished.is)

pub returns-in-Present-clause-new : goal.returns-in-Present-clause-new
returns-in-Present-clause-new g c =
    c.depart.ensures.new _ (subst (λ (p : ParticipantValue). HasOthers p.presence c.has_others-others_changed.result)
    c.self.view_is c.has_others-others_changed.ensures)
