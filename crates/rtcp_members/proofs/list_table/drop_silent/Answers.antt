-- The closure returns whether an entry stays, and leaves it without what lapsed.
use Rattle.std.proofs.Common.{rules}
use Rattle.rtcp_members.specs.Traces.{horizons_at}
use Rattle.rtcp_members.specs.ListViews.{lapsed, outlasts}
use Rattle.rtcp_members.proofs.lists.Changing.{retained}
use Rattle.rtcp_members.proofs.list_table.drop_silent.Goals as goal

pub returns : goal.returns
returns c = retained _ (outlasts (horizons_at c.args.silent c.args.idle c.args.gone)) (lapsed c.args.idle) _
    (λ x b g y called. (search rules, search rules, search rules)) c.args.entries.now.items c.retain.new.self.items
    c.retain.ensures.filtered
