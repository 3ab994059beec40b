use Rattle.rtcp_engine.proofs.Past.{listed_after}
use Rattle.rtcp_engine.proofs.LawLemmas as law
use Rattle.rtcp_engine.proofs.laws.listed_moments_have_passed.Goals as goal

pub returns-clause-heard : goal.returns-clause-heard
returns-clause-heard c history is after state tells = (listed_after history is after state tells).heard

pub returns-clause-left : goal.returns-clause-left
returns-clause-left c = law.listed_moments_have_passed-left

pub returns-clause-last_report : goal.returns-clause-last_report
returns-clause-last_report c = law.listed_moments_have_passed-last_report

pub returns-clause-all : goal.returns-clause-all
returns-clause-all c = law.listed_moments_have_passed-all

pub returns-clause-range : goal.returns-clause-range
returns-clause-range c = law.listed_moments_have_passed-range
