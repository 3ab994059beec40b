use Rattle.rtcp_print.proofs.PageLemmas.{both}
use Rattle.rtcp_print.proofs.brief.push_receiver_report.Goals as goal

pub returns-clause-adds : goal.returns-clause-adds
returns-clause-adds c =
    both (both (both (both c.push.ensures.adds c.push_word.ensures.adds)
    c.push-2.ensures.adds)
    (rw c.blocks-2.ensures at c.push_report_end.ensures.adds))
    c.push-3.ensures.adds
