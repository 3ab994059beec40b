use Rattle.std.proofs.Common.{◌≡◌, ◌≤◌, map, drop, length, take}
use Rattle.std.specs.List.{list_all}
use Rattle.rtcp_engine.specs.answers.Acts.{clock_value}
use Rattle.jalwedd_host.specs.Configs.{clock_given, is_octet_type}
use Rattle.jalwedd_host.proofs.config.put_clocks.Given as goal

-- The clocks so far are there, and those that are left decide whether all fit.
abbrev pub invariant-clocks : goal.invariant-clocks
invariant-clocks l = record {
  count : l.count ≤ 16;
  items : l.clock-items ≡ take l.count l.clocks;
  few : length l.clock-items ≤ 16;
  room : length l.given.items ≡ l.clock-index;
  there : map clock_value l.given.items ≡ map clock_given (take l.clock-index l.clock-items);
  left : list_all is_octet_type (drop l.clock-index l.clock-items) ≡ list_all is_octet_type l.clock-items;
}
