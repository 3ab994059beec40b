use Rattle.rtcp_print.proofs.PageLemmas.{both}
use Rattle.rtcp_print.proofs.plain.BlockTold.push_words.Goals as goal

pub returns-clause-adds : goal.returns-clause-adds
returns-clause-adds c =
    both (both c.push.ensures.adds c.push_word.ensures.adds)
    (both (both (both c.push_reception.ensures.adds c.push_last_report.ensures.adds) c.push-2.ensures.adds)
    (rw c.middle_time.ensures at c.push_seconds.ensures.adds))
