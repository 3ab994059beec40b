use Rattle.std.proofs.Common.{sym}
use Rattle.rtcp_print.proofs.PageLemmas.{nothing_added}
use Rattle.rtcp_print.proofs.plain.push_extension.Goals as goal

pub returns-then-is_empty-clause-adds : goal.returns-then-is_empty-clause-adds
returns-then-is_empty-clause-adds c = rw (sym c.if-is_empty.ensures) (nothing_added c.args.page.now)

pub returns-clause-adds : goal.returns-clause-adds
returns-clause-adds c = rw (sym c.if-is_empty.ensures) c.push_number.ensures.adds
