use Rattle.rtcp_source.proofs.LawLemmas as law
use Rattle.rtcp_source.proofs.laws.summary_suffices.Goals as goal

pub returns-clause-taken : goal.returns-clause-taken
returns-clause-taken c = law.summary_suffices-taken

pub returns-clause-counted : goal.returns-clause-counted
returns-clause-counted c = law.summary_suffices-counted

pub returns-clause-news : goal.returns-clause-news
returns-clause-news c = law.summary_suffices-news

pub returns-clause-block : goal.returns-clause-block
returns-clause-block c = law.summary_suffices-block

pub returns-clause-reception : goal.returns-clause-reception
returns-clause-reception c = law.summary_suffices-reception
