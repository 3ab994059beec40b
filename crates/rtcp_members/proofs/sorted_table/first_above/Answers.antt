-- The others begin after the source's entry, or where it would stand.
use Rattle.std.proofs.Common.{arith}
use Rattle.std.proofs.lemmas.Option.{slice_get_within}
use Rattle.rtcp_members.proofs.turns.InCyclicTurn.{cut_gap, cut_after, cut_nowhere}
use Rattle.rtcp_members.proofs.sorted_table.first_above.Goals as goal

pub overflow_add-result : goal.overflow_add-result
overflow_add-result g c =
    omega (
      arith,
      slice_get_within c.args.entries.now.items c.in-Ok.at c.in-Ok.ensures.entry c.in-Ok.ensures.stands,
      c.requires.few,
    )

pub returns-in-Ok : goal.returns-in-Ok
returns-in-Ok g c = cut_after c.args.entries.now.items c.in-Some.above c.in-Ok.at c.args.above c.in-Some.is
    c.requires.rising c.in-Ok.ensures

pub returns-in-Err : goal.returns-in-Err
returns-in-Err g c = cut_gap c.args.entries.now.items c.in-Some.above c.in-Err.gap c.args.above c.in-Some.is
    c.in-Err.ensures

pub returns-in_default : goal.returns-in_default
returns-in_default g c = cut_nowhere c.args.entries.now.items c.args.above c.in_default.is
