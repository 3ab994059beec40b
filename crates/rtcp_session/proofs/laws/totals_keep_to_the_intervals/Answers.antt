use Rattle.rtcp_session.proofs.Crowding.{totals_paced}
use Rattle.rtcp_session.proofs.laws.totals_keep_to_the_intervals.Goals as goal

pub returns : goal.returns
returns c = totals_paced
