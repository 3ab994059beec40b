use Rattle.std.proofs.Common.{◌≡◌, ◌+◌, ◌≤◌, min}
use Rattle.rtcp_engine.specs.answers.Leaving.{bye_count}
use Rattle.rtcp_engine.proofs.byes.count_byes.Given as goal

-- the packets that are left bring it to what all bring it to
abbrev pub invariant-packets : goal.invariant-packets
invariant-packets l = record {
  rest : min 65535 (l.count + bye_count l.packet-iterator) ≡ min 65535 (bye_count l.fn.packets);
  few : l.count ≤ 65535;
}
