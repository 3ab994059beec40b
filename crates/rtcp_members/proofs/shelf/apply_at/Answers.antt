-- The entry of the rank is read and written in its cell, and counted anew.
use Rattle.std.proofs.Common.{arith, slice_index_or, Some, sym, ap, subst, ◌∙◌}
use Rattle.rtcp_members.specs.declared.entry.Entry.{Entry}
use Rattle.rtcp_members.specs.Entries.{is_member, is_sender}
use Rattle.rtcp_members.specs.storage.Heaps.{no_entry}
use Rattle.rtcp_members.specs.ListViews.{entry_value}
use Rattle.rtcp_members.specs.Pending.{is_due}
use Rattle.rtcp_members.specs.Tables.{IsFew, counted_of, entry_with_fact, place_of}
use Rattle.rtcp_members.proofs.moving.Moving.{moved_in_list}
use Rattle.rtcp_members.proofs.storage.Ranked.{IsAtRank, at_rank, read_ranked, among_ranked, few_counted, still_indexed, changed_ranked, recounted_ranked}
use Rattle.rtcp_members.proofs.shelf.apply_at.Goals as goal
use Rattle.rtcp_members.proofs.shelf.apply_at.Goals.{After-index-cells-place}

seen : (c : After-index-cells-place) →
    IsAtRank c.args.cells.now c.args.slots.now c.args.used c.args.at c.slot_at-place.result
    (slice_index_or c.args.cells.now c.slot_at-place.result.place c.index-cells-place.result)
seen c =
    at_rank c.args.cells.now c.args.slots.now c.args.used c.args.at c.slot_at-place.result c.index-cells-place.result
    c.requires.kept.index.heap c.requires.stands c.slot_at-place.ensures

pub apply-requires : goal.apply-requires
apply-requires c =
    let so = seen (goal.at.apply-requires c).After-index-cells-place in
    let most = few_counted so in
    let counted = c.requires.kept.counted in
    record {
      few = λ is_media. subst (λ (e : Entry). IsFew (entry_value e)) (sym (read_ranked so no_entry))
          (c.requires.few no_entry is_media);
      among = among_ranked so c.args.counts.now counted;
      room = (
        omega (arith, most is_member, counted.members),
        omega (arith, most is_sender, counted.senders),
        omega (arith, most is_due, counted.due),
      );
    }

pub returns-clause-kept : goal.returns-clause-kept
returns-clause-kept c =
    let so = seen (goal.at.returns-clause-kept c).After-index-cells-place in
    let made = c.apply.ensures in
    record {
      index = still_indexed so c.apply.new.entry made.ssrc c.requires.kept.index.rising;
      counted = recounted_ranked so c.apply.new.entry made.ssrc c.args.counts.now c.apply.new.self
          c.requires.kept.counted made.recounted;
    }

pub returns-clause-taken : goal.returns-clause-taken
returns-clause-taken c =
    let so = seen (goal.at.returns-clause-taken c).After-index-cells-place in
    let made = c.apply.ensures in
    record {
      changed = changed_ranked so c.apply.new.entry made.ssrc (entry_with_fact c.args.fact c.args.t)
          made.value;
      place = λ d room. made.place room
          ∙ ap (λ (e : Entry). place_of c.args.fact (Some (entry_value e)) room) (read_ranked so d);
      counted = λ d. made.counted
          ∙ ap (λ (e : Entry). counted_of c.args.fact (Some (entry_value e))) (read_ranked so d);
      moved = made.moved ∙ moved_in_list c.requires.kept.counted
          (recounted_ranked so c.apply.new.entry made.ssrc c.args.counts.now c.apply.new.self
          c.requires.kept.counted made.recounted);
    }
