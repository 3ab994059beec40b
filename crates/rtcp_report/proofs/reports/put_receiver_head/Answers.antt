use Rattle.rtcp_wire.proofs.Putting.{put_after}
use Rattle.rtcp_report.proofs.reports.put_receiver_head.Goals as goal

pub returns-clause-put : goal.returns-clause-put
returns-clause-put c = put_after c.put_header-end.ensures c.put_word.ensures.put
