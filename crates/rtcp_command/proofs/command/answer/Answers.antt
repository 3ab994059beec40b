-- What a check or a replay promises, the run of its order does.
use Rattle.std.proofs.Common.{Ok, Err}
use Rattle.rtcp_command.specs.Status.{text_fault, replay_fault}
use Rattle.rtcp_command.proofs.StatusLemmas.{at_exit, check_answers, check_blocks_answers, check_json_answers, check_plain_answers, replay_answers, replay_guarded_answers, replay_guarded_json_answers, replay_json_answers}
use Rattle.rtcp_command.proofs.command.answer.Goals as goal

pub returns-in_err-check_up_to-in-Check-clause-answers : goal.returns-in_err-check_up_to-in-Check-clause-answers
returns-in_err-check_up_to-in-Check-clause-answers g c =
    let found = c.in_err-check_up_to-in-Check.field-0.0 in
    at_exit _ _ (text_fault found) c.from_residual.ensures.1
    (check_answers _ _ c.in-Check.is (Err found) c.in_err-check_up_to-in-Check.ensures.checks)

pub returns-in_ok-check_up_to-in-Check-clause-answers : goal.returns-in_ok-check_up_to-in-Check-clause-answers
returns-in_ok-check_up_to-in-Check-clause-answers g c =
    check_answers _ _ c.in-Check.is (Ok _) c.in_ok-check_up_to-in-Check.ensures.checks

pub returns-in_err-check_plain-in-CheckPlain-clause-answers :
    goal.returns-in_err-check_plain-in-CheckPlain-clause-answers
returns-in_err-check_plain-in-CheckPlain-clause-answers g c =
    let found = c.in_err-check_plain-in-CheckPlain.field-0.0 in
    at_exit _ _ (text_fault found) c.from_residual-in_err-check_plain-in-CheckPlain.ensures.1
    (check_plain_answers _ _ c.in-CheckPlain.is (Err found) c.in_err-check_plain-in-CheckPlain.ensures.checks)

pub returns-in_ok-check_plain-in-CheckPlain-clause-answers : goal.returns-in_ok-check_plain-in-CheckPlain-clause-answers
returns-in_ok-check_plain-in-CheckPlain-clause-answers g c =
    check_plain_answers _ _ c.in-CheckPlain.is (Ok _) c.in_ok-check_plain-in-CheckPlain.ensures.checks

pub returns-in_err-check_blocks-in-CheckBlocks-clause-answers :
    goal.returns-in_err-check_blocks-in-CheckBlocks-clause-answers
returns-in_err-check_blocks-in-CheckBlocks-clause-answers g c =
    let found = c.in_err-check_blocks-in-CheckBlocks.field-0.0 in
    at_exit _ _ (text_fault found) c.from_residual-in_err-check_blocks-in-CheckBlocks.ensures.1
    (check_blocks_answers _ _ c.in-CheckBlocks.is (Err found) c.in_err-check_blocks-in-CheckBlocks.ensures.checks)

pub returns-in_ok-check_blocks-in-CheckBlocks-clause-answers :
    goal.returns-in_ok-check_blocks-in-CheckBlocks-clause-answers
returns-in_ok-check_blocks-in-CheckBlocks-clause-answers g c =
    check_blocks_answers _ _ c.in-CheckBlocks.is (Ok _) c.in_ok-check_blocks-in-CheckBlocks.ensures.checks

pub returns-in_err-check_json-in-CheckJson-clause-answers : goal.returns-in_err-check_json-in-CheckJson-clause-answers
returns-in_err-check_json-in-CheckJson-clause-answers g c =
    let found = c.in_err-check_json-in-CheckJson.field-0.0 in
    at_exit _ _ (text_fault found) c.from_residual-in_err-check_json-in-CheckJson.ensures.1
    (check_json_answers _ _ c.in-CheckJson.is (Err found) c.in_err-check_json-in-CheckJson.ensures.checks)

pub returns-in_ok-check_json-in-CheckJson-clause-answers : goal.returns-in_ok-check_json-in-CheckJson-clause-answers
returns-in_ok-check_json-in-CheckJson-clause-answers g c =
    check_json_answers _ _ c.in-CheckJson.is (Ok _) c.in_ok-check_json-in-CheckJson.ensures.checks

pub returns-in_err-replay_up_to-in-Replay-clause-answers : goal.returns-in_err-replay_up_to-in-Replay-clause-answers
returns-in_err-replay_up_to-in-Replay-clause-answers g c =
    let found = c.in_err-replay_up_to-in-Replay.field-0.0 in
    at_exit _ _ (replay_fault found) c.from_residual-in_err-replay_up_to-in-Replay.ensures.1
    (replay_answers _ _ _ _ c.in-Replay.is (Err found) c.in_err-replay_up_to-in-Replay.ensures.config
    c.in_err-replay_up_to-in-Replay.ensures.replays)

pub returns-in_ok-replay_up_to-in-Replay-clause-answers : goal.returns-in_ok-replay_up_to-in-Replay-clause-answers
returns-in_ok-replay_up_to-in-Replay-clause-answers g c =
    replay_answers _ _ _ _ c.in-Replay.is (Ok _) c.in_ok-replay_up_to-in-Replay.ensures.config
    c.in_ok-replay_up_to-in-Replay.ensures.replays

pub returns-in_err-replay_guarded-in-ReplayGuarded-clause-answers :
    goal.returns-in_err-replay_guarded-in-ReplayGuarded-clause-answers
returns-in_err-replay_guarded-in-ReplayGuarded-clause-answers g c =
    let found = c.in_err-replay_guarded-in-ReplayGuarded.field-0.0 in
    at_exit _ _ (replay_fault found) c.from_residual-in_err-replay_guarded-in-ReplayGuarded.ensures.1
    (replay_guarded_answers _ _ _ _ _ c.in-ReplayGuarded.is (Err found)
    c.in_err-replay_guarded-in-ReplayGuarded.ensures.config c.in_err-replay_guarded-in-ReplayGuarded.ensures.replays)

pub returns-in_ok-replay_guarded-in-ReplayGuarded-clause-answers :
    goal.returns-in_ok-replay_guarded-in-ReplayGuarded-clause-answers
returns-in_ok-replay_guarded-in-ReplayGuarded-clause-answers g c =
    replay_guarded_answers _ _ _ _ _ c.in-ReplayGuarded.is (Ok _)
    c.in_ok-replay_guarded-in-ReplayGuarded.ensures.config c.in_ok-replay_guarded-in-ReplayGuarded.ensures.replays

pub returns-in_err-replay_json-in-ReplayJson-clause-answers :
    goal.returns-in_err-replay_json-in-ReplayJson-clause-answers
returns-in_err-replay_json-in-ReplayJson-clause-answers g c =
    let found = c.in_err-replay_json-in-ReplayJson.field-0.0 in
    at_exit _ _ (replay_fault found) c.from_residual-in_err-replay_json-in-ReplayJson.ensures.1
    (replay_json_answers _ _ _ _ c.in-ReplayJson.is (Err found) c.in_err-replay_json-in-ReplayJson.ensures.config
    c.in_err-replay_json-in-ReplayJson.ensures.replays)

pub returns-in_ok-replay_json-in-ReplayJson-clause-answers : goal.returns-in_ok-replay_json-in-ReplayJson-clause-answers
returns-in_ok-replay_json-in-ReplayJson-clause-answers g c =
    replay_json_answers _ _ _ _ c.in-ReplayJson.is (Ok _) c.in_ok-replay_json-in-ReplayJson.ensures.config
    c.in_ok-replay_json-in-ReplayJson.ensures.replays

pub returns-in_err-replay_guarded_json-in-ReplayGuardedJson-clause-answers :
    goal.returns-in_err-replay_guarded_json-in-ReplayGuardedJson-clause-answers
returns-in_err-replay_guarded_json-in-ReplayGuardedJson-clause-answers g c =
    let found = c.in_err-replay_guarded_json-in-ReplayGuardedJson.field-0.0 in
    at_exit _ _ (replay_fault found) c.from_residual-in_err-replay_guarded_json-in-ReplayGuardedJson.ensures.1
    (replay_guarded_json_answers _ _ _ _ _ c.in-ReplayGuardedJson.is (Err found)
    c.in_err-replay_guarded_json-in-ReplayGuardedJson.ensures.config
    c.in_err-replay_guarded_json-in-ReplayGuardedJson.ensures.replays)

pub returns-in_ok-replay_guarded_json-in-ReplayGuardedJson-clause-answers :
    goal.returns-in_ok-replay_guarded_json-in-ReplayGuardedJson-clause-answers
returns-in_ok-replay_guarded_json-in-ReplayGuardedJson-clause-answers g c =
    replay_guarded_json_answers _ _ _ _ _ c.in-ReplayGuardedJson.is (Ok _)
    c.in_ok-replay_guarded_json-in-ReplayGuardedJson.ensures.config
    c.in_ok-replay_guarded_json-in-ReplayGuardedJson.ensures.replays
