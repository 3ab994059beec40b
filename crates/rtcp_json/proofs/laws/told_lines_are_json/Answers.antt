use Rattle.std.proofs.Common.{lit≤}
use Rattle.rtcp_json.proofs.FitLemmas.{valid}
use Rattle.rtcp_json.proofs.SourceLemmas.{dated_fit}
use Rattle.rtcp_json.proofs.ToldLemmas.{end_fit, told_fit, unsent_fit}
use Rattle.rtcp_json.proofs.laws.told_lines_are_json.Goals as goal

pub returns-clause-told : goal.returns-clause-told
returns-clause-told c event datagram answer ranges shown small =
    valid _ (lit≤ tt) (told_fit event datagram answer ranges shown small)

pub returns-clause-listed : goal.returns-clause-listed
returns-clause-listed c moment listing small ranges = valid _ (lit≤ tt) (dated_fit moment listing small ranges)

pub returns-clause-unsent : goal.returns-clause-unsent
returns-clause-unsent c moment small = valid _ (lit≤ tt) (unsent_fit moment small)

pub returns-clause-ended : goal.returns-clause-ended
returns-clause-ended c ended small = valid _ (lit≤ tt) (end_fit ended small)
