use Rattle.std.proofs.Common.{List, ◌==◌, sym, ap, ◌∙◌}
use Rattle.std.specs.List.{list_any}
use Rattle.rtcp_wire.specs.declared.fact.Fact.{Fact}
use Rattle.rtcp_wire.specs.Facts.{subject, facts_of}
use Rattle.rtcp_wire.specs.Values.{RtcpPacket}
use Rattle.rtcp_engine.proofs.OneSource.{only_of_sole}
use Rattle.rtcp_engine.proofs.sayings.tells_of.Goals as goal

pub returns-in-Some : goal.returns-in-Some
returns-in-Some c = sym (only_of_sole c.in-Some.source c.args.ssrc (facts_of c.args.compound.now)
    c.in-Some.ensures.sole)

pub returns-in-None : goal.returns-in-None
returns-in-None c =
    c.speak_of.ensures
    ∙ ap (λ (packets : List RtcpPacket). list_any (λ (fact : Fact). subject fact == c.args.ssrc) (facts_of packets))
    c.packets.ensures
