-- The lines of the event, what it tells of sources, whose roles changed, and who is there.
use Rattle.std.proofs.Common.{◌∙◌, refl, sym}
use Rattle.rtcp_engine.specs.state.Views.{event_value}
use Rattle.rtcp_guarded.specs.Views.{guarded_value}
use Rattle.rtcp_show.proofs.WatchLemmas.{all_ok, at_ok, watched}
use Rattle.rtcp_show.proofs.printer.Printer.print.Goals as goal

pub returns-clause-watches : goal.returns-clause-watches
returns-clause-watches g c = λ history stands. rw (c.and-3.ensures, c.and-2.ensures, c.and.ensures)
    (all_ok c.show_event-shown.result c.or_memory.result c.show_changes-changed.result c.show_sources-listed.result
    (λ lined kept told listed.
    let event = event_value c.args.event.now in
    let answer = guarded_value c.args.answer.now in
    let board = c.note-noted.new.self in
    let noted = sym c.or_memory.ensures.ok ∙ kept in
    let shown = at_ok c.show_event-shown.result lined c.show_event-shown.ensures.written in
    let changed = at_ok c.show_changes-changed.result told (c.show_changes-changed.ensures.written history stands) in
    let listing = at_ok c.show_changes-changed.result told (c.show_changes-changed.ensures.keeps history stands) in
    let written = at_ok c.show_sources-listed.result listed c.show_sources-listed.ensures.written in
    let rows = at_ok c.show_sources-listed.result listed (c.show_sources-listed.ensures.keeps history stands) in
    let looks = at_ok c.show_sources-listed.result listed (c.show_sources-listed.ensures.looks history stands) in
    watched event answer history c.args.self.now _ c.show_event-shown.new.self c.show_changes-changed.new.self board
    refl shown
    (record {
      noted = λ packets has ssrc. rw (
        c.arrival-arrived.ensures,
        c.moment_of-now.ensures,
        c.compound_of-compound.ensures.packets packets has,
      )
          at (at_ok c.note-noted.result noted (c.note-noted.ensures.noted history stands) ssrc);
      flowing = λ packets media has comes ssrc. rw (c.compound_of-compound.ensures.packets packets has)
          at (at_ok c.note-noted.result noted (c.note-noted.ensures.flowing history media stands comes) ssrc);
      looked = c.note-noted.ensures.looked;
      rows = c.note-noted.ensures.rows;
      second = c.note-noted.ensures.second;
    })
    changed listing (rw c.moment_of-now.ensures at written) (rw c.moment_of-now.ensures at rows)
    (rw c.moment_of-now.ensures at looks) (rw c.moment_of-now.ensures at c.show_sources-listed.ensures.second)))
