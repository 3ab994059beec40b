-- There is room for those that are gathered, as each is one claim more.
use Rattle.std.proofs.Common.{arith, length, ap}
use Rattle.rtcp_guard.proofs.Newcomers.{one_each}
use Rattle.rtcp_guard.proofs.table.ClaimTable.put_many.Goals as goal

pub insert_all-requires-clause-room : goal.insert_all-requires-clause-room
insert_all-requires-clause-room c =
    let so = c.renew_each.ensures in
    let each = one_each c.args.origin c.args.t c.renew_each.new.fresh.items c.renew_each.new.self.items so.rising
    so.names
    so.new in
    let all = ap length so.all in
    let long = ap length c.as_slice.ensures.value in
    omega (arith, each, all, long, so.room, c.requires.room)
