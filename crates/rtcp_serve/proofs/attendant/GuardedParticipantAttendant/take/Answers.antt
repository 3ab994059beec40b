use Rattle.std.proofs.Common.{◌≡◌}
use Rattle.rtcp_guarded.specs.Views.{guarded_value}
use Rattle.rtcp_serve.specs.Served.{StandsServed, alone, answer_for, behind_guard, followed_for, guarded}
use Rattle.rtcp_serve.proofs.attendant.GuardedParticipantAttendant.take.Goals as goal

pub returns : goal.returns
returns g c = record {
  takes = λ act is.
      let takes = c.tell.ensures.takes act is in
      record {
        answer = λ history. elim history as (λ h. StandsServed (behind_guard c.args.self.now) h →
            guarded_value c.tell.result ≡ answer_for h act) [
              | alone history ↦ λ at. absurd at
              | guarded history ↦ λ at. takes.answer history at
            ];
        stands = λ history. elim history as (λ h. StandsServed (behind_guard c.args.self.now) h →
            StandsServed (behind_guard c.tell.new.self) (followed_for h act)) [
              | alone history ↦ λ at. absurd at
              | guarded history ↦ λ at. takes.stands history at
            ];
      };
}
