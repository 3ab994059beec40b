use Rattle.std.proofs.Common.{lit≤}
use Rattle.rtcp_json.proofs.AnswerLemmas.{held_back_fit, refusal_fit, start_fit, step_fit}
use Rattle.rtcp_json.proofs.FitLemmas.{valid}
use Rattle.rtcp_json.proofs.laws.answers_are_json.Goals as goal

pub returns-clause-started : goal.returns-clause-started
returns-clause-started c next small = valid _ (lit≤ tt) (start_fit next small)

pub returns-clause-taken : goal.returns-clause-taken
returns-clause-taken c step small = valid _ (lit≤ tt) (step_fit step small)

pub returns-clause-refused : goal.returns-clause-refused
returns-clause-refused c refusal small = valid _ (lit≤ tt) (refusal_fit refusal small)

pub returns-clause-held_back : goal.returns-clause-held_back
returns-clause-held_back c reason = valid _ (lit≤ tt) (held_back_fit reason)
