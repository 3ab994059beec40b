use Rattle.rtcp_report.proofs.LawLemmas.{compounds_are_small-report, compounds_are_small-empty, compounds_are_small-bye}
use Rattle.rtcp_report.proofs.laws.compounds_are_small.Goals as goal

pub returns-clause-report : goal.returns-clause-report
returns-clause-report c = compounds_are_small-report

pub returns-clause-empty : goal.returns-clause-empty
returns-clause-empty c = compounds_are_small-empty

pub returns-clause-bye : goal.returns-clause-bye
returns-clause-bye c = compounds_are_small-bye
