use Rattle.std.proofs.Common.{◌≡◌, ap, ◌∙◌}
use Rattle.rtcp_guarded.specs.Views.{guarded_value}
use Rattle.rtcp_serve.specs.Served.{StandsServed, alone, answer_for, as_guarded, by_itself, followed_for, guarded}
use Rattle.rtcp_serve.proofs.attendant.ParticipantAttendant.take.Goals as goal

pub returns : goal.returns
returns g c = record {
  takes = λ act is.
      let takes = c.tell.ensures.takes act is in
      record {
        answer = λ history. elim history as (λ h. StandsServed (by_itself c.args.self.now) h →
            guarded_value c.as_untaken.result ≡ answer_for h act) [
              | alone history ↦ λ at. c.as_untaken.ensures ∙ ap as_guarded (takes.answer history at)
              | guarded history ↦ λ at. absurd at
            ];
        stands = λ history. elim history as (λ h. StandsServed (by_itself c.args.self.now) h →
            StandsServed (by_itself c.tell.new.self) (followed_for h act)) [
              | alone history ↦ λ at. takes.stands history at
              | guarded history ↦ λ at. absurd at
            ];
      };
}
