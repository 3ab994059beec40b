-- The interval is that of those who share.
use Rattle.std.proofs.Common.{arith, sym, ◌∙◌}
use Rattle.std.proofs.lemmas.Grind.{common_steps}
use Rattle.rtcp_timer.proofs.Sharing.{by_sharers}
use Rattle.rtcp_timer.proofs.load.interval.Goals as goal

pub returns-then-parts-minimum-clause-exact : goal.returns-then-parts-minimum-clause-exact
returns-then-parts-minimum-clause-exact c = grind (arith, common_steps) ∙ sym (by_sharers c.args.load.now)

pub returns-clause-exact : goal.returns-clause-exact
returns-clause-exact c = grind (arith, common_steps) ∙ sym (by_sharers c.args.load.now)
