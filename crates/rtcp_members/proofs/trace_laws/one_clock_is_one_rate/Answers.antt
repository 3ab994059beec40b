use Rattle.rtcp_members.proofs.stays.OneClock.{one_rate_each}
use Rattle.rtcp_members.proofs.trace_laws.one_clock_is_one_rate.Goals as goal

pub returns : goal.returns
returns c = one_rate_each
