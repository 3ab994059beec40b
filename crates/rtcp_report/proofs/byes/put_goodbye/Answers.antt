use Rattle.rtcp_wire.proofs.Putting.{put_after}
use Rattle.rtcp_report.proofs.byes.put_goodbye.Goals as goal

pub returns : goal.returns
returns c = put_after c.put_header-end.ensures c.put_word.ensures.put
