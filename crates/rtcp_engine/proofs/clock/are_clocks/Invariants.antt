use Rattle.std.proofs.Common.{◌≡◌, map, drop}
use Rattle.std.specs.List.{list_all}
use Rattle.rtcp_engine.specs.answers.Setups.{is_clock}
use Rattle.rtcp_engine.specs.answers.Acts.{clock_value}
use Rattle.rtcp_engine.proofs.clock.are_clocks.Given as goal

-- those that are left decide
abbrev pub invariant-clocks : goal.invariant-clocks
invariant-clocks l = list_all is_clock (map clock_value (drop l.clock-index l.clocks)) ≡ list_all is_clock
    (map clock_value l.clocks)
