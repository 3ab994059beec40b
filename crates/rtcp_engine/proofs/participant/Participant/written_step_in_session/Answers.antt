use Rattle.std.proofs.Common.{None, ap}
use Rattle.rtcp_engine.specs.declared.step.Standing.{Standing}
use Rattle.rtcp_engine.specs.state.Views.{written_step_value}
use Rattle.rtcp_engine.proofs.participant.Participant.written_step_in_session.Goals as goal

pub returns-clause-exact : goal.returns-clause-exact
returns-clause-exact g c octets life at =
    ap (λ (standing : Standing). written_step_value octets (record {
      standing = standing;
      changed = None;
      others_changed = c.args.others_changed;
      out = None;
    })) (c.standing_in_session.ensures.in_life life at)
