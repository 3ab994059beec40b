-- The entry at the index is the first that is the source's.
use Rattle.std.proofs.Common.{rules}
use Rattle.rtcp_members.proofs.lists.Listing.{get_rows, place_found}
use Rattle.rtcp_members.proofs.list_table.rank_in.Goals as goal

pub entries-init : goal.entries-init
entries-init c = get_rows c.args.entries.now c.args.ssrc

pub returns-then-entries-at : goal.returns-then-entries-at
returns-then-entries-at c = place_found c.args.ssrc c.args.entries.now c.entries.at c.index-entries-at.result
    (search rules) (search rules) (search rules) c.entries.invariant
