-- What a printer knows after one more seen.
use Rattle.std.proofs.Common.{◌≡◌, ◌∷◌, [], ◌∙◌, ap, ℕ, Bool, true, false, List, Option, None, refl, sym, if◌then◌else◌}
use Rattle.rtcp_engine.specs.answers.Histories.{setup_at}
use Rattle.rtcp_wire.specs.About.{blocks_about}
use Rattle.rtcp_show.specs.declared.terms.Terms.{Terms}
use Rattle.rtcp_show.specs.declared.printer.Printer.{Printer}
use Rattle.rtcp_show.specs.Flows.{elapsed_since, flow_after_event, peer_of_event}
use Rattle.rtcp_show.specs.Listings.{lists, state_at}
use Rattle.rtcp_show.specs.Notes.{NoteValue, cnames_of, note_after_event, noted_after, trips_of}
use Rattle.rtcp_show.specs.Observations.{IsRead, Knows, Observation, are_due, cnames_heard, heard_of, last_look, moment_in, newest_note, note_of, trips_heard}
use Rattle.rtcp_show.specs.Watchers.{Watches, arrival_at, flow_by, is_due, looked_of, noted_by, second_after, terms_of}
use Rattle.rtcp_show.proofs.NoteLemmas.{newest-append}

pub knows_more :
    {W : Type 0} {contents : W → Option (List ℕ)} (seen : Observation) (earlier : List Observation)
    (before after : Printer W) → IsRead seen → Knows before earlier
    → Watches contents seen.event seen.answer seen.history before after → Knows after (seen ∷ earlier)
knows_more seen earlier before after told knows watches =
    let moment = moment_in seen in
    let due = are_due seen earlier in
    let listed = λ (ssrc : ℕ). lists seen.history ssrc in
    let own = (setup_at seen.history).ssrc in
    let peer = peer_of_event seen.event in
    record {
      second = watches.second ∙ ap (λ second. second_after second moment) knows.second;
      looked = watches.looked
          ∙ ap (λ second. if is_due second moment then moment else looked_of before) knows.second
          ∙ ap (λ looked. if due then moment else looked) knows.looked;
      notes = λ ssrc. watches.notes seen.packets told.packets ssrc
          ∙ ap (λ second. note_after_event (is_due second moment) (listed ssrc)
          (arrival_at (terms_of before).ntp_base moment) own seen.packets ssrc (noted_by before ssrc)) knows.second
          ∙ ap (λ note. note_after_event due (listed ssrc) (arrival_at (terms_of before).ntp_base moment) own
          seen.packets ssrc
          note) (knows.notes ssrc)
          ∙ ap (λ (terms : Terms). note_after_event due (listed ssrc) (arrival_at terms.ntp_base moment) own
          seen.packets ssrc
          (note_of terms.ntp_base earlier ssrc)) (sym watches.terms);
      flows = λ ssrc. watches.flows seen.packets seen.media told.packets told.media ssrc
          ∙ ap (λ second. flow_after_event (is_due second moment) (elapsed_since (looked_of before) moment)
          (state_at seen.history ssrc) peer seen.packets seen.media ssrc (flow_by before ssrc)) knows.second
          ∙ ap (λ looked. flow_after_event due (elapsed_since looked moment) (state_at seen.history ssrc) peer
          seen.packets
          seen.media ssrc (flow_by before ssrc)) knows.looked
          ∙ ap (λ flow. flow_after_event due (elapsed_since (last_look earlier) moment) (state_at seen.history ssrc)
          peer
          seen.packets seen.media ssrc flow) (knows.flows ssrc);
    }

-- ---- What a note holds

note_newest :
    (ntp_base ssrc : ℕ) (seen : Observation) (heard : List Observation) (note : NoteValue)
    → note ≡ newest_note ntp_base heard ssrc
    → noted_after (arrival_at ntp_base (moment_in seen)) (setup_at seen.history).ssrc seen.packets ssrc note
    ≡ newest_note ntp_base (seen ∷ heard) ssrc
note_newest ntp_base ssrc seen heard note is =
    let arrived = arrival_at ntp_base (moment_in seen) in
    let own = (setup_at seen.history).ssrc in
    let before = newest_note ntp_base heard ssrc in
    ap (noted_after arrived own seen.packets ssrc) is
    ∙ ap (λ cname. record (noted_after arrived own seen.packets ssrc before) { cname = cname })
    (sym (newest-append ssrc (cnames_heard heard) (cnames_of seen.packets) None))
    ∙ ap (λ trip. record (newest_note ntp_base (seen ∷ heard) ssrc) { trip = trip })
    (sym (newest-append ssrc (trips_heard ntp_base heard) (trips_of arrived (blocks_about own seen.packets)) None))

note_held :
    (due listed : Bool) (ntp_base ssrc : ℕ) (seen : Observation) (heard : List Observation) (note : NoteValue)
    → note ≡ newest_note ntp_base heard ssrc
    → note_after_event due listed (arrival_at ntp_base (moment_in seen)) (setup_at seen.history).ssrc seen.packets ssrc
    note
    ≡ newest_note ntp_base (if listed then seen ∷ heard else (if due then [] else heard)) ssrc
note_held true true ntp_base ssrc seen heard note is = note_newest ntp_base ssrc seen heard note is
note_held false true ntp_base ssrc seen heard note is = note_newest ntp_base ssrc seen heard note is
note_held true false ntp_base ssrc seen heard note is = refl
note_held false false ntp_base ssrc seen heard note is = is

pub notes_are_newest :
    (ntp_base ssrc : ℕ) (all : List Observation)
    → note_of ntp_base all ssrc ≡ newest_note ntp_base (heard_of all ssrc) ssrc
notes_are_newest ntp_base ssrc [] = refl
notes_are_newest ntp_base ssrc (seen ∷ earlier) =
    note_held (are_due seen earlier) (lists seen.history ssrc) ntp_base ssrc seen (heard_of earlier ssrc)
    (note_of ntp_base earlier ssrc) (notes_are_newest ntp_base ssrc earlier)
