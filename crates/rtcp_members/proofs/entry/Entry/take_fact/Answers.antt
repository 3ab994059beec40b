-- A packet is taken for any SSRC alike.
use Rattle.std.proofs.Common.{sym, ap, ◌∙◌}
use Rattle.rtcp_members.specs.ListViews.{entry_value}
use Rattle.rtcp_members.specs.Tables.{counts, entry_after}
use Rattle.rtcp_members.proofs.entry.Entry.take_fact.Goals as goal

pub returns-in-Media-clause-counted : goal.returns-in-Media-clause-counted
returns-in-Media-clause-counted c = c.take_packet.ensures.counted c.in-Media.field-0
    ∙ ap (λ fact. counts fact c.args.self.now.source) (sym c.in-Media.is)

pub returns-in-Media-clause-value : goal.returns-in-Media-clause-value
returns-in-Media-clause-value c =
    c.take_packet.ensures.value c.in-Media.field-0
    ∙ ap (λ fact. entry_after fact c.args.t (entry_value c.args.self.now)) (sym c.in-Media.is)
