-- At first all names and goodbyes are left.
use Rattle.std.proofs.Common.{◌++◌, None, length, map, arith, ap, ◌∙◌}
use Rattle.rtcp_wire.specs.Facts.{facts_of, subject}
use Rattle.rtcp_guard.specs.Naming.{but}
use Rattle.rtcp_guard.proofs.Leavers.{first_goodbye}
use Rattle.rtcp_guard.proofs.Runs.{each_once, names_after}
use Rattle.rtcp_guard.proofs.naming.of_compound.Goals as goal

pub facts-init : goal.facts-init
facts-init g c =
    let none = ap length c.requires in
    record {
      goes_on = ap (λ names. names ++ names_after c.args.own None c.into_iter-fact-iterator.result) c.requires
          ∙ ap (names_after c.args.own None)
          (c.into_iter-fact-iterator.ensures.into_iter_gives ∙ c.facts-fact-items.ensures)
          ∙ each_once (but c.args.own (map subject (facts_of c.args.compound.now)));
      goodbye = ap (first_goodbye c.args.own)
          (c.into_iter-fact-iterator.ensures.into_iter_gives ∙ c.facts-fact-items.ensures);
      fits = omega (arith, none);
    }
