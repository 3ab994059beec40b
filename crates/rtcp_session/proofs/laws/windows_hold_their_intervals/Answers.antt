use Rattle.rtcp_session.proofs.Pacing.{own_intervals_fit}
use Rattle.rtcp_session.proofs.laws.windows_hold_their_intervals.Goals as goal

pub returns : goal.returns
returns c = own_intervals_fit
