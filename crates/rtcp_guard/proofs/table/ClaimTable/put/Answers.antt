-- There is room for the claim that comes into a gap.
use Rattle.std.proofs.Common.{arith, length, ap}
use Rattle.rtcp_guard.specs.Claims.{claim_after, found}
use Rattle.rtcp_guard.specs.Tables.{TableValue}
use Rattle.rtcp_guard.proofs.Orders.{gap_longer}
use Rattle.rtcp_guard.proofs.table.ClaimTable.put.Goals as goal

pub insert-requires-clause-room : goal.insert-requires-clause-room
insert-requires-clause-room c =
    let longer = gap_longer (claim_after c.args.origin c.args.t c.args.ssrc
    (found c.args.ssrc c.args.self.now.items)) c.args.self.now.items c.in-Err.gap
    c.in-Err.ensures.located in
    let long = ap (λ (t : TableValue). length t.items) c.find.ensures.kept in
    let wide = ap (λ (t : TableValue). t.room) c.find.ensures.kept in
    omega (arith, longer, long, wide, c.requires)
