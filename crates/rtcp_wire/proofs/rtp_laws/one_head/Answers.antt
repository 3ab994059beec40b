use Rattle.rtcp_wire.proofs.LawLemmas.{one_head}
use Rattle.rtcp_wire.proofs.rtp_laws.one_head.Goals as goal

pub returns : goal.returns
returns c = one_head
