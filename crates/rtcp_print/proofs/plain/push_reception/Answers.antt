use Rattle.std.proofs.Common.{rules, w32}
use Rattle.std.proofs.lemmas.Int.{to_z-of_z}
use Rattle.rtcp_print.proofs.PageLemmas.{both}
use Rattle.rtcp_print.proofs.plain.push_reception.Goals as goal

pub returns-clause-adds : goal.returns-clause-adds
returns-clause-adds c =
    both (both (both (both (both c.push_loss.ensures.adds c.push.ensures.adds)
    (rw (to_z-of_z w32 c.args.block.now.lost (search rules)) at c.push_signed.ensures.adds))
    c.push-2.ensures.adds)
    (rw c.from.ensures at c.push_decimal.ensures.adds))
    c.push_jitter.ensures.adds
