-- The block of the next pending source is written after the others.
use Rattle.std.proofs.Common.{arith}
use Rattle.rtcp_wire.proofs.Putting.{nothing_put}
use Rattle.rtcp_report.proofs.TakenInTurn.{none_taken, one_more}
use Rattle.rtcp_report.proofs.reports.put_blocks.Goals as goal

pub sources-init : goal.sources-init
sources-init g c = record {
  taken = none_taken c.args.t c.args.cursor.now (g.T.MemberTable.content c.args.table.now) c.args.at
      c.args.octets.now (nothing_put c.args.octets.now c.args.at (omega arith));
  within = omega arith;
}

pub sources-preserved : goal.sources-preserved
sources-preserved g c = record {
  taken = one_more c.sources.invariant.taken c.in-Some.ensures.source (record {
    made = c.in-Some.ensures.block;
    moved = c.in-Some.ensures.content;
    can = c.in-Some.ensures.writable;
    fits = c.put_block.ensures.in_range;
    put = c.put_block.ensures.put;
  });
  within = omega arith;
}
