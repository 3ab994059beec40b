-- What a source tells of its clock says that it is heard.
use Rattle.std.proofs.Common.{sym, ap, ◌∙◌}
use Rattle.rtcp_wire.specs.Facts.{facts_of_packet}
use Rattle.rtcp_wire.specs.Views.{packet_value}
use Rattle.rtcp_members.specs.Roles.{facts_move}
use Rattle.rtcp_members.specs.Tables.{after_facts}
use Rattle.rtcp_members.proofs.LawLemmas as tables
use Rattle.rtcp_engine.proofs.sayings.apply_packet.Goals as goal

pub returns-in-Sr-clause-content : goal.returns-in-Sr-clause-content
returns-in-Sr-clause-content g c =
    let table = g.T.MemberTable.content c.args.table.now in
    c.apply_one.ensures.content ∙ sym
    (tables.heard_by_what_it_says-told c.in-Sr.report.ssrc c.in-Sr.report.ntp c.in-Sr.report.rtp c.args.t table)
    ∙ ap (λ packet. after_facts (facts_of_packet (packet_value packet)) c.args.t table) (sym c.in-Sr.is)

pub returns-in-Sr-clause-moved : goal.returns-in-Sr-clause-moved
returns-in-Sr-clause-moved g c =
    let table = g.T.MemberTable.content c.args.table.now in
    c.apply_one.ensures.moved ∙ sym
    (tables.heard_by_what_it_says-told_moves c.in-Sr.report.ssrc c.in-Sr.report.ntp c.in-Sr.report.rtp c.args.t
    table) ∙ ap (λ packet. facts_move (facts_of_packet (packet_value packet)) c.args.t table) (sym c.in-Sr.is)
