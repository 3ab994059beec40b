use Rattle.std.proofs.Common.{◌≡◌, ◌∙◌, Some, ap}
use Rattle.rtcp_timer.specs.Schedules.{Timing}
use Rattle.rtcp_engine.specs.declared.step.Standing.{Standing}
use Rattle.rtcp_engine.specs.answers.Histories.{life_at}
use Rattle.rtcp_engine.specs.answers.Lives.{standing_in_life}
use Rattle.rtcp_engine.specs.answers.Setups.{Setup}
use Rattle.rtcp_engine.specs.state.States.{ParticipantValue}
use Rattle.rtcp_engine.proofs.ActLemmas.{said_at}
use Rattle.rtcp_engine.proofs.Agreeing.{entries_agree}
use Rattle.rtcp_engine.proofs.participant.Participant.standing_in_session.Goals as goal

pub returns-clause-in_life : goal.returns-clause-in_life
returns-clause-in_life g c life at =
    let standing : Standing = record {
      members = c.member_count.result;
      senders = c.sender_count.result;
      entries = c.entries.result;
      ssrc = c.ssrc.result;
      next = Some c.next_moment.result;
    } in
    said_at c.self.view_is (ap (λ (p : ParticipantValue). p.phase) c.self.view_is ∙ c.requires)
    (λ setup life. standing ≡ standing_in_life setup life)
    (λ outcome agrees i. record {
      members = c.member_count.ensures.exact outcome agrees i;
      senders = c.sender_count.ensures outcome agrees i;
      entries = (c.entries.ensures ∙ entries_agree _ outcome agrees) i;
      ssrc = c.ssrc.ensures i;
      next = Some ((c.next_moment.ensures.exact ∙ ap (λ (timing : Timing). timing.next) agrees.timing) i);
    }) life at

pub returns-clause-says : goal.returns-clause-says
returns-clause-says g c = record {
  exact = λ history stands. returns-clause-in_life g c (life_at history) stands.session.life
      ∙ ap (λ (setup : Setup). standing_in_life setup (life_at history)) stands.session.setup;
  bounded = c.next_moment.ensures.bounded;
}
