-- What was cut off is the line that began here, cut.
use Rattle.std.proofs.Common.{arith}
use Rattle.std.proofs.lemmas.Bool.Decides.{nat_tests}
use Rattle.rtcp_show.proofs.CutLemmas.{cut_off}
use Rattle.rtcp_show.proofs.short_rows.cut_line.Goals as goal

pub returns : goal.returns
returns c =
    cut_off c.args.start _ c.args.out.now.items c.truncate.new.self.items c.extend_from_slice.new.self.items
    c.truncate.ensures.items (omega arith) (omega arith) (grind (arith, nat_tests))
    c.in_ok-extend_from_slice.ensures.items
