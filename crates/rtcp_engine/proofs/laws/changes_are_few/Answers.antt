use Rattle.rtcp_engine.proofs.NewIdentifiers.{few_listed, apart_listed}
use Rattle.rtcp_engine.proofs.laws.changes_are_few.Goals as goal

pub returns-clause-few : goal.returns-clause-few
returns-clause-few c history is = few_listed history.setup history.word history.acts is.taken

pub returns-clause-apart : goal.returns-clause-apart
returns-clause-apart c history is = apart_listed history.setup history.word history.acts is.taken
