-- The event of the line is one act, and the participant answers that.
use Rattle.rtcp_engine.specs.answers.Answers.{answer_of}
use Rattle.rtcp_engine.specs.state.Views.{event_value}
use Rattle.rtcp_text.proofs.ReplayLemmas.{act_exists}
use Rattle.rtcp_json.proofs.ReplayJsonLemmas.{answer_shown}
use Rattle.rtcp_json.proofs.player.JsonPlayerAnswerer.compose.Goals as goal

pub returns-in-Ok-push_answer_json : goal.returns-in-Ok-push_answer_json
returns-in-Ok-push_answer_json g c =
    let event = c.in-Ok.event in
    let found = act_exists (event_value event) in
    let takes = c.tell_into-reply.ensures.takes found.0 found.1 in (
      event_value event,
      found.0,
      c.in-Ok.ensures.event,
      found.1,
      λ history stands. (
        answer_shown _ _ _ (answer_of history found.0) c.in-Ok-push_answer_json.ensures c.requires.empty
            (takes.answer history stands),
        takes.stands history stands,
      ),
    )
