use Rattle.std.proofs.Common.{rules, w32}
use Rattle.std.proofs.lemmas.Int.{to_z-of_z}
use Rattle.rtcp_print.proofs.PageLemmas.{both}
use Rattle.rtcp_print.proofs.brief.BlockShown.push_text.Goals as goal

pub returns-clause-adds : goal.returns-clause-adds
returns-clause-adds c =
    both (both (both (both (both (both (both (both (both (both (both (both c.push_word.ensures.adds c.push.ensures.adds)
    (rw c.from.ensures at c.push_decimal.ensures.adds))
    c.push-2.ensures.adds)
    (rw (to_z-of_z w32 c.args.self.now.lost (search rules)) at c.push_signed.ensures.adds))
    c.push-3.ensures.adds)
    (rw c.from-2.ensures at c.push_decimal-2.ensures.adds))
    c.push-4.ensures.adds)
    (rw c.from-3.ensures at c.push_decimal-3.ensures.adds))
    c.push-5.ensures.adds)
    c.push_word-2.ensures.adds)
    c.push-6.ensures.adds)
    c.push_word-3.ensures.adds
