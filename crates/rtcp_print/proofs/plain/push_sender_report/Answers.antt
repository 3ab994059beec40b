use Rattle.rtcp_print.proofs.PageLemmas.{both}
use Rattle.rtcp_print.proofs.plain.push_sender_report.Goals as goal

pub returns-clause-adds : goal.returns-clause-adds
returns-clause-adds c = both c.push_sender.ensures.adds (rw c.blocks-2.ensures at c.push_report_end.ensures.adds)
