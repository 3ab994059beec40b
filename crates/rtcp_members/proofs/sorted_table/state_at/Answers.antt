-- What is read at a rank is the first row of the rest.
use Rattle.std.proofs.Common.{arith, refl, ◌∙◌, ap, Some, slice_index_or}
use Rattle.rtcp_members.specs.storage.Heaps.{no_entry}
use Rattle.rtcp_members.proofs.lists.Ranks.{listed_rank}
use Rattle.rtcp_members.proofs.sorted_table.state_at.Goals as goal

pub returns : goal.returns
returns g c =
    let items = c.args.entries.now.items in
    ap Some (c.state.ensures no_entry) ∙ listed_rank items c.args.at no_entry (slice_index_or items c.args.at no_entry)
    (omega (arith, c.len.ensures, c.if-at-len.false)) refl
