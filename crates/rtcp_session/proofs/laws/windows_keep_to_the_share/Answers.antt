use Rattle.rtcp_session.proofs.Sharing.{shares_fit, total_shares_fit}
use Rattle.rtcp_session.proofs.laws.windows_keep_to_the_share.Goals as goal

pub returns-clause-one : goal.returns-clause-one
returns-clause-one c = shares_fit

pub returns-clause-all : goal.returns-clause-all
returns-clause-all c = total_shares_fit
