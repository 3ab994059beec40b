-- The answer is the reply, with the compound of the room.
use Rattle.rtcp_engine.proofs.ActLemmas.{with_compound}
use Rattle.rtcp_engine.proofs.participant.Participant.arrive_rtp.Goals as goal

pub returns : goal.returns
returns g c = with_compound _ _ c.answer_with.ensures c.arrive_rtp_into-reply.ensures
