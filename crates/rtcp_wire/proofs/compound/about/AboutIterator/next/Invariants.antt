use Rattle.std.proofs.Common.{◌≡◌, length}
use Rattle.rtcp_wire.specs.About.{about_left}
use Rattle.rtcp_wire.proofs.compound.about.AboutIterator.next.Given as goal

-- no block that names the source was passed over
abbrev pub invariant-packets : goal.invariant-packets
invariant-packets l = l.fn.self ≡ about_left l.self-inside.ssrc l.self-inside.reporter l.self-inside.blocks
    l.self-inside.packets

abbrev pub decreases-packets : goal.decreases-packets
decreases-packets l = length l.self-inside.packets
