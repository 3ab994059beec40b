-- What is read at a rank is the first row of the rest.
use Rattle.std.proofs.Common.{arith, ◌≡◌, ◌<◌, ◌∙◌, sym, length, List, take, slice_index_or, refl}
use Rattle.std.proofs.lemmas.List.{get_or-take, length-take-le}
use Rattle.std.proofs.lemmas.Option.{slice_get-get_or}
use Rattle.rtcp_members.specs.declared.entry.Entry.{Entry}
use Rattle.rtcp_members.specs.storage.Heaps.{no_entry}
use Rattle.rtcp_members.proofs.lists.Ranks.{due_rank, idle_rank}
use Rattle.rtcp_members.proofs.sorted.Rising.{rising_apart}
use Rattle.rtcp_members.proofs.sorted.Searching.{stands_found}
use Rattle.rtcp_members.proofs.sorted_table.first_due.Goals as goal

pub returns-then-is_due_at : goal.returns-then-is_due_at
returns-then-is_due_at g c =
    let items : List Entry = c.args.entries.now.items in
    let at = c.entries.at in
    let entry : Entry = slice_index_or items at no_entry in
    let within : at < length (take c.args.until items) = omega
    (arith, c.entries-test.true, length-take-le c.args.until items c.requires.bound) in
    let read : entry ≡ slice_index_or (take c.args.until items) at no_entry = sym
    (get_or-take c.args.until items at no_entry c.entries-test.true) in
    record {
      ssrc = entry.ssrc;
      first = due_rank (take c.args.until items) at no_entry entry within read (sym (c.is_due_at.ensures no_entry)
          ∙ c.if-is_due_at.true) ∙ c.entries.invariant;
      place = stands_found entry.ssrc items at entry (rising_apart items c.requires.rising)
          (slice_get-get_or items at no_entry (omega (arith, c.entries-test.true, c.requires.bound))) refl;
      due = λ d. sym (c.is_due_at.ensures d) ∙ c.if-is_due_at.true;
    }

pub entries-preserved : goal.entries-preserved
entries-preserved g c =
    let items : List Entry = c.args.entries.now.items in
    let entry : Entry = slice_index_or items c.entries.at no_entry in
    let within : c.entries.at < length (take c.args.until items) = omega
    (arith, c.entries-test.true, length-take-le c.args.until items c.requires.bound) in
    let read : entry ≡ slice_index_or (take c.args.until items) c.entries.at no_entry = sym
    (get_or-take c.args.until items c.entries.at no_entry c.entries-test.true) in
    idle_rank (take c.args.until items) c.entries.at no_entry entry within read (sym (c.is_due_at.ensures no_entry)
    ∙ c.if-is_due_at.false) ∙ c.entries.invariant
