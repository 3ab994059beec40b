-- The rank that is found is that of the first pending source.
use Rattle.std.proofs.Common.{List, Some, ap, ◌∙◌}
use Rattle.std.proofs.lemmas.Option.{slice_get_within}
use Rattle.rtcp_members.specs.declared.entry.Entry.{Entry}
use Rattle.rtcp_members.specs.Pending.{first_ssrc, pending}
use Rattle.rtcp_members.specs.Tables.{TableValue}
use Rattle.rtcp_members.proofs.sorted.Placing.{same_rank}
use Rattle.rtcp_members.proofs.sorted_table.SortedMemberTable.next_with_news.Goals as goal

pub ssrc_at-requires : goal.ssrc_at-requires
ssrc_at-requires g c =
    let found = c.in-Some.ensures c.self.inside.capacity in
    slice_get_within c.self.inside.entries.items c.in-Some.at found.place.entry found.place.stands

pub returns-in-Some : goal.returns-in-Some
returns-in-Some g c =
    let items : List Entry = c.self.inside.entries.items in
    let found = c.in-Some.ensures c.self.inside.capacity in
    ap Some (same_rank items c.in-Some.at c.ssrc_at.result found.ssrc c.ssrc_at.ensures found.place)
    ∙ found.first
    ∙ ap (λ (table : TableValue). first_ssrc (pending c.args.after table)) c.self.view_is

pub returns-in-None : goal.returns-in-None
returns-in-None g c =
    c.in-None.ensures c.self.inside.capacity
    ∙ ap (λ (table : TableValue). first_ssrc (pending c.args.after table)) c.self.view_is
