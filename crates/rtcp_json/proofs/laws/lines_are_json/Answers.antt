use Rattle.std.proofs.Common.{lit≤}
use Rattle.rtcp_json.proofs.FitLemmas.{valid}
use Rattle.rtcp_json.proofs.ToldLemmas.{accepted_fit, refused_fit}
use Rattle.rtcp_json.proofs.laws.lines_are_json.Goals as goal

pub returns-clause-accepted : goal.returns-clause-accepted
returns-clause-accepted c octets packets all accepted = valid _ (lit≤ tt) (accepted_fit octets packets all accepted)

pub returns-clause-refused : goal.returns-clause-refused
returns-clause-refused c octets fault first = valid _ (lit≤ tt) (refused_fit octets fault first)
