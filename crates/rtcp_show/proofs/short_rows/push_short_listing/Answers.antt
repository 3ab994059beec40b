-- The counts, and then the rows of those that are shown.
use Rattle.std.proofs.Common.{length, map, sym}
use Rattle.std.proofs.lemmas.List.{length-map}
use Rattle.std.proofs.lemmas.Result.{on_ok_weaker}
use Rattle.rtcp_members.specs.ListViews.{state_value}
use Rattle.rtcp_show.specs.Flows.{flow_in}
use Rattle.rtcp_show.specs.Notes.{noted_in}
use Rattle.rtcp_show.proofs.ShortLemmas.{counts_and_rows}
use Rattle.rtcp_show.proofs.short_rows.push_short_listing.Goals as goal

pub returns : goal.returns
returns c =
    let listing = c.args.listing.now in
    let standing = c.args.standing.now in
    on_ok_weaker c.push_shown_rows.result (λ written.
    counts_and_rows c.args.most standing.members standing.senders c.shown_count-shown.result (length listing)
    (noted_in c.args.notes.now) (flow_in c.args.flows.now) (map state_value listing) c.push_ranks.new.ranks.items
    c.args.out.now.items c.push_short_counts.new.out.items c.push_shown_rows.new.out.items c.in_ok-push_ranks.ensures
    (rw c.deref.ensures.value at c.shown_count-shown.ensures) (sym (length-map listing state_value))
    c.in_ok-push_short_counts.ensures (rw c.deref-2.ensures.value at written)) c.push_shown_rows.ensures
