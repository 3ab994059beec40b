use Rattle.std.proofs.Common.{◌≡◌, ◌==◌}
use Rattle.std.specs.List.{list_any}
use Rattle.rtcp_wire.specs.Facts.{subject, facts_of}
use Rattle.rtcp_engine.proofs.sayings.speak_of.Given as goal

-- what is left tells it as all does
abbrev pub invariant-packets : goal.invariant-packets
invariant-packets l = list_any (λ fact. subject fact == l.ssrc) (facts_of l.packet-iterator) ≡ list_any
    (λ fact. subject fact == l.ssrc) (facts_of l.fn.packets)
