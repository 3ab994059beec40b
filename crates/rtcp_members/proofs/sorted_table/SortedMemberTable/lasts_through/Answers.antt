-- A check that the bounds rule out changes nothing.
use Rattle.std.proofs.Common.{sym, ◌∙◌, arith}
use Rattle.rtcp_members.specs.Traces.{horizons_at}
use Rattle.rtcp_members.proofs.sorted.Checking.{nothing_dropped}
use Rattle.rtcp_members.proofs.sorted_table.SortedMemberTable.lasts_through.Goals as goal

pub returns : goal.returns
returns g c so silent idle gone le_silent le_idle le_gone =
    let is = c.self.invariant in
    let within = c.reach.ensures so in
    let none = nothing_dropped (horizons_at silent idle gone) c.self.inside.capacity c.self.inside.entries.items
    c.self.inside.bounds c.args.self.now c.self.view_is is.sorted (record {
      stand = is.standing;
      within = (omega (arith, within.0, le_silent), omega (arith, within.1, le_idle), omega (arith, within.2, le_gone));
    }) in
    sym none.2 ∙ c.self.view_is
