-- The flush keeps what is written.
use Rattle.rtcp_command.proofs.StatusLemmas.{answers_kept, answers_unwritten, at_exit}
use Rattle.rtcp_command.proofs.command.run.Goals as goal

pub returns-in_err-flush-clause-answers : goal.returns-in_err-flush-clause-answers
returns-in_err-flush-clause-answers g c =
    at_exit _ _ c.in_err-flush.field-0.0 c.from_residual.ensures.1
    (answers_unwritten _ _ c.in_err-flush.ensures.failed.0)

pub returns-clause-answers : goal.returns-clause-answers
returns-clause-answers g c = answers_kept _ _ c.flush.ensures.kept c.answer-outcome.ensures.answers
