use Rattle.rtcp_members.proofs.stays.StayLaws.{stay_is_prefix, prefix_is_stay}
use Rattle.rtcp_members.proofs.trace_laws.stays_are_prefixes.Goals as goal

pub returns : goal.returns
returns c = λ capacity trace ssrc stay. (
  stay_is_prefix capacity trace ssrc stay,
  prefix_is_stay capacity trace ssrc stay,
)
