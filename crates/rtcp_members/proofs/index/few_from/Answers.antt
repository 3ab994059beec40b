use Rattle.std.proofs.Common.{arith}
use Rattle.rtcp_members.proofs.index.few_from.Goals as goal

pub quarters-init : goal.quarters-init
quarters-init c = record {
  halved = record {
    order = omega arith;
    within = omega arith;
    lesser = λ k early. absurd (omega (arith, early));
    rest = λ k late within. absurd (omega (arith, late, within));
  };
  some = c.requires.some;
}

pub quarters-preserved : goal.quarters-preserved
quarters-preserved c = record {
  halved = c.quarters_before-at.ensures.halved c.quarters.count c.quarters.invariant.halved (omega arith);
  some = omega (arith, c.quarters-test.true);
}
