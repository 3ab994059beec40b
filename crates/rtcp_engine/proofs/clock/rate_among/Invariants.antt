use Rattle.std.proofs.Common.{◌≡◌, map, drop}
use Rattle.rtcp_engine.specs.answers.Setups.{rate_among}
use Rattle.rtcp_engine.specs.answers.Acts.{clock_value}
use Rattle.rtcp_engine.proofs.clock.rate_among.Given as goal

-- those that are left decide
abbrev pub invariant-clocks : goal.invariant-clocks
invariant-clocks l = rate_among (map clock_value (drop l.clock-index l.clocks)) l.usual l.payload_type ≡ rate_among
    (map clock_value l.clocks) l.usual l.payload_type
