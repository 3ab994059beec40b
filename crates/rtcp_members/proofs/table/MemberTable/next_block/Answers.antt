-- The next source with news is due, and its block is that of the first pending row.
use Rattle.rtcp_wire.specs.Views.{block_value}
use Rattle.rtcp_members.specs.Pending.{pending}
use Rattle.rtcp_members.proofs.turns.NextBlock.{next_block_made}
use Rattle.rtcp_members.proofs.turns.NextDue.{next_is_due}
use Rattle.rtcp_members.proofs.table.MemberTable.next_block.Goals as goal

pub block_of-requires : goal.block_of-requires
block_of-requires g c =
    next_is_due c.args.after (g.Self.MemberTable.content c.args.self.now) c.in_ok-ssrc.ssrc c.in_ok-ssrc.ensures

pub returns : goal.returns
returns g c =
    let table = g.Self.MemberTable.content c.args.self.now in
    let so = next_block_made c.in_ok-ssrc.ssrc c.args.t (pending c.args.after table) table
    (g.Self.MemberTable.content c.block_of.new.self) (block_value c.block_of.result) c.in_ok-ssrc.ensures
    c.block_of.ensures.block c.block_of.ensures.content in
    record { source = so.source; block = so.block; content = so.content; writable = c.block_of.ensures.writable }
