use Rattle.rtcp_print.proofs.PageLemmas.{both}
use Rattle.rtcp_print.proofs.brief.push_application.Goals as goal

pub returns-clause-adds : goal.returns-clause-adds
returns-clause-adds c =
    both (both (both (both (both (both
    (both (both c.push.ensures.adds (rw c.from.ensures at c.push_decimal.ensures.adds))
    c.push-2.ensures.adds)
    c.push_word.ensures.adds)
    c.push-3.ensures.adds)
    c.push_hex.ensures.adds)
    c.push-4.ensures.adds)
    c.push_decimal-2.ensures.adds)
    c.push-5.ensures.adds
