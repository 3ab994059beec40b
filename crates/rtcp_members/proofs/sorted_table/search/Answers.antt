-- The SSRC that is seen is the source's.
use Rattle.std.proofs.Common.{subst}
use Rattle.rtcp_members.specs.ListViews.{IsRankOf}
use Rattle.rtcp_members.proofs.sorted_table.search.Goals as goal

pub returns-then-ssrc_at-ssrc : goal.returns-then-ssrc_at-ssrc
returns-then-ssrc_at-ssrc g c = subst (λ ssrc. IsRankOf ssrc c.args.entries.now.items c.args.rank)
    c.if-ssrc_at-ssrc.true c.ssrc_at.ensures
