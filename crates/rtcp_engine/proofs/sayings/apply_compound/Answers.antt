-- A compound about one source says as much as its facts.
use Rattle.std.proofs.Common.{List, sym, ap, ◌∙◌}
use Rattle.rtcp_wire.specs.Facts.{facts_of}
use Rattle.rtcp_wire.specs.Values.{RtcpPacket}
use Rattle.rtcp_members.specs.Roles.{facts_move}
use Rattle.rtcp_members.specs.Tables.{after_facts}
use Rattle.rtcp_members.proofs.LawLemmas as tables
use Rattle.rtcp_engine.proofs.sayings.apply_compound.Goals as goal

pub returns-in-Some-clause-content : goal.returns-in-Some-clause-content
returns-in-Some-clause-content g c =
    let table = g.T.MemberTable.content c.args.table.now in
    c.apply_sole.ensures.content
    ∙ sym (tables.sole_sources_say_it_all-content c.in-Some.source (facts_of c.args.compound.now) c.args.t table
    c.in-Some.ensures.sole)

pub returns-in-Some-clause-moved : goal.returns-in-Some-clause-moved
returns-in-Some-clause-moved g c =
    let table = g.T.MemberTable.content c.args.table.now in
    c.apply_sole.ensures.moved
    ∙ sym (tables.sole_sources_say_it_all-moves c.in-Some.source (facts_of c.args.compound.now) c.args.t table
    c.in-Some.ensures.sole)

pub returns-in-None-clause-content : goal.returns-in-None-clause-content
returns-in-None-clause-content g c =
    let table = g.T.MemberTable.content c.args.table.now in
    c.apply_packets.ensures.content
    ∙ ap (λ (packets : List RtcpPacket). after_facts (facts_of packets) c.args.t table) c.packets.ensures

pub returns-in-None-clause-moved : goal.returns-in-None-clause-moved
returns-in-None-clause-moved g c =
    let table = g.T.MemberTable.content c.args.table.now in
    c.apply_packets.ensures.moved
    ∙ ap (λ (packets : List RtcpPacket). facts_move (facts_of packets) c.args.t table) c.packets.ensures
