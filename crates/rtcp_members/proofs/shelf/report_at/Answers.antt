-- The entry of the rank is read and written in its cell.
use Rattle.std.proofs.Common.{IsTrue, slice_index_or, sym, ap, subst, ◌∙◌}
use Rattle.rtcp_source.specs.Blocks.{block_for}
use Rattle.rtcp_members.specs.declared.entry.Entry.{Entry}
use Rattle.rtcp_members.specs.storage.Heaps.{no_entry}
use Rattle.rtcp_members.specs.ListViews.{entry_value}
use Rattle.rtcp_members.specs.Pending.{is_due, reported_entry}
use Rattle.rtcp_members.proofs.storage.Ranked.{IsAtRank, at_rank, read_ranked, among_ranked, still_indexed, changed_ranked, recounted_ranked}
use Rattle.rtcp_members.proofs.shelf.report_at.Goals as goal
use Rattle.rtcp_members.proofs.shelf.report_at.Goals.{After-index-cells-place}

seen : (c : After-index-cells-place) →
    IsAtRank c.args.cells.now c.args.slots.now c.args.used c.args.at c.slot_at-place.result
    (slice_index_or c.args.cells.now c.slot_at-place.result.place c.index-cells-place.result)
seen c =
    at_rank c.args.cells.now c.args.slots.now c.args.used c.args.at c.slot_at-place.result c.index-cells-place.result
    c.requires.kept.index.heap c.requires.stands c.slot_at-place.ensures

pub report-requires : goal.report-requires
report-requires c =
    let so = seen (goal.at.report-requires c).After-index-cells-place in
    record {
      due = subst (λ (e : Entry). IsTrue (is_due (entry_value e))) (sym (read_ranked so no_entry))
          (c.requires.due no_entry);
      among = among_ranked so c.args.counts.now c.requires.kept.counted;
    }

pub returns-clause-kept : goal.returns-clause-kept
returns-clause-kept c =
    let so = seen (goal.at.returns-clause-kept c).After-index-cells-place in
    let made = c.report.ensures in
    record {
      index = still_indexed so c.report.new.entry made.ssrc c.requires.kept.index.rising;
      counted = recounted_ranked so c.report.new.entry made.ssrc c.args.counts.now c.report.new.self
          c.requires.kept.counted made.recounted;
    }

pub returns-clause-made : goal.returns-clause-made
returns-clause-made c =
    let so = seen (goal.at.returns-clause-made c).After-index-cells-place in
    record {
      changed = changed_ranked so c.report.new.entry c.report.ensures.ssrc reported_entry c.report.ensures.value;
      block = λ d. c.report.ensures.block
          ∙ ap (λ (e : Entry). block_for e.ssrc c.args.t e.source) (read_ranked so d);
      writable = c.report.ensures.writable;
    }
