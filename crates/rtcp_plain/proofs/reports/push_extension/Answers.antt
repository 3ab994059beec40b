use Rattle.std.proofs.Common.{append_assoc, codes, sym}
use Rattle.rtcp_plain.proofs.reports.push_extension.Goals as goal

pub returns : goal.returns
returns c =
    rw (sym c.if-is_empty.ensures, c.in_ok-push_number.ensures)
    (append_assoc c.args.out.now.items (codes " extension=") _)
