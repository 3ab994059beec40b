-- The entry at the place is the one that the map has.
use Rattle.std.proofs.Common.{Some}
use Rattle.rtcp_wire.specs.Views.{block_value}
use Rattle.rtcp_members.proofs.lists.Applying.{apart_applied}
use Rattle.rtcp_members.proofs.lists.Reporting.{block_reported, table_reported}
use Rattle.rtcp_members.proofs.list_table.report_at.Goals as goal

pub returns-clause-apart : goal.returns-clause-apart
returns-clause-apart c = apart_applied c.args.ssrc c.args.entries.now c.args.at c.index-entries-at.result
    c.report.new.self c.requires.apart c.requires.rank c.report.ensures.ssrc

pub returns-clause-block : goal.returns-clause-block
returns-clause-block c = block_reported c.args.ssrc c.args.t c.args.entries.now c.args.at c.index-entries-at.result
    (Some (block_value c.report.result)) c.requires.rank c.report.ensures.block

pub returns-clause-table : goal.returns-clause-table
returns-clause-table c = table_reported c.args.ssrc c.args.entries.now c.args.at c.index-entries-at.result
    c.report.new.self c.requires.apart c.requires.rank c.report.ensures.ssrc c.report.ensures.value
