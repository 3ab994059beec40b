-- The list that the call worked on is the table's, and a source in a gap has no entry.
use Rattle.std.proofs.Common.{arith, sym, ap, ◌∙◌}
use Rattle.std.specs.FinMap as finite
use Rattle.rtcp_members.specs.Tables.{TableValue}
use Rattle.rtcp_members.proofs.lists.Leaving.{none_forgotten}
use Rattle.rtcp_members.proofs.sorted.Searching.{none_in_gap}
use Rattle.rtcp_members.proofs.sorted_table.SortedMemberTable.forget.Goals as goal

pub invariant_of-self : goal.invariant_of-self
invariant_of-self g c =
    let so = c.self.invariant in
    record {
      sorted = c.forget_at.ensures.sorted c.self.inside.capacity so.sorted;
      roomy = omega (arith, so.roomy, c.forget_at.ensures.in_place.room);
      standing = c.forget_at.ensures.stand c.self.inside.bounds so.standing;
    }

pub returns-in-Err-clause-held : goal.returns-in-Err-clause-held
returns-in-Err-clause-held g c =
    (none_forgotten c.args.ssrc c.args.self.now
    (ap (λ (t : TableValue). finite.get t.entries c.args.ssrc) (sym c.self.view_is)
    ∙ none_in_gap c.args.ssrc c.self.inside.entries.items c.in-Err.field-0 c.in-Err.ensures)).0

pub returns-in-Err-clause-content : goal.returns-in-Err-clause-content
returns-in-Err-clause-content g c =
    (none_forgotten c.args.ssrc c.args.self.now
    (ap (λ (t : TableValue). finite.get t.entries c.args.ssrc) (sym c.self.view_is)
    ∙ none_in_gap c.args.ssrc c.self.inside.entries.items c.in-Err.field-0 c.in-Err.ensures)).1
