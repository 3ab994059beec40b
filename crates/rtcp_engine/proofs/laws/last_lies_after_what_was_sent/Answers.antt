use Rattle.rtcp_engine.proofs.LawLemmas.{last_lies_after_what_was_sent-present, last_lies_after_what_was_sent-backing_off}
use Rattle.rtcp_engine.proofs.laws.last_lies_after_what_was_sent.Goals as goal

pub returns-clause-present : goal.returns-clause-present
returns-clause-present c = last_lies_after_what_was_sent-present

pub returns-clause-backing_off : goal.returns-clause-backing_off
returns-clause-backing_off c = last_lies_after_what_was_sent-backing_off
