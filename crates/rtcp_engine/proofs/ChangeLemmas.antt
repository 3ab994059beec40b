-- A change of identifier: what it hands out, and where the participant stands after it.
use Rattle.std.proofs.Common.{◌≡◌, ℕ, ◌+◌, Bool, true, false, List, [], ◌∷◌, length, Some, None, option_map, if◌then◌else◌, refl, sym, ap, ◌∙◌, subst, map}
use Rattle.std.proofs.lemmas.List.{length-append}
use Rattle.std.proofs.lemmas.List.Concat.{flat_map-append}
use Rattle.rtcp_wire.specs.Writing.{written, written_all}
use Rattle.rtcp_report.specs.Reports.{packets_with, receiver_named, bye_packet}
use Rattle.rtcp_report.proofs.LawLemmas.{size_is_that_of_the_octets}
use Rattle.rtcp_timer.specs.Averages.{moved_average}
use Rattle.rtcp_engine.specs.answers.Setups.{Setup}
use Rattle.rtcp_engine.specs.answers.OwnStreams.{OwnStep, OwnValue, has_sent, counts_anew, own_of}
use Rattle.rtcp_engine.specs.state.OwnValues.{own_anew}
use Rattle.rtcp_engine.specs.answers.Outcomes.{Outcome}
use Rattle.rtcp_engine.specs.answers.Reporting.{bye_octets}
use Rattle.rtcp_engine.specs.answers.Leaving.{ByeCompound, Backoff, Life, present, backing_off, finished, after_own_bye, counted_anew, leaving_average}
use Rattle.rtcp_engine.specs.answers.Lives.{bye_if_sent, bye_out, own_bye, with_new_ssrc, with_change}
use Rattle.rtcp_engine.specs.answers.Changes.{NewIdentifier, Session, changed_to, with_ssrc}
use Rattle.rtcp_engine.specs.state.States.{State, Agrees, StandsStill, Waits, ParticipantValue, IsAt, IsIn, leaving, over, own_bye_in, after_change}
use Rattle.rtcp_engine.proofs.Agreeing.{with_own}
use Rattle.rtcp_engine.proofs.ChangeRest.{bye_keeps_count, bye_keeps_timing, with_bye}
use Rattle.rtcp_timer.specs.Loads.{average_of}

-- ---- Sizes

-- A BYE is as long for any identifier.
pub byes_are_of_one_size : (ssrc : ℕ) (setup : Setup) → length (bye_octets (with_ssrc ssrc setup)) ≡ length
    (bye_octets setup)
byes_are_of_one_size ssrc setup = parts ssrc ∙ sym (parts setup.ssrc)
  where
    report : ℕ → List ℕ
    report id = written_all (packets_with (receiver_named id setup.cname) [])

    parts : (id : ℕ) → length (bye_octets (with_ssrc id setup)) ≡ Rattle.rtcp_report.specs.Reports.report_size
        (receiver_named setup.ssrc setup.cname) 0 + 8
    parts id =
        ap length (flat_map-append written (packets_with (receiver_named id setup.cname) []) (bye_packet id ∷ []))
        ∙ length-append (report id) (written_all (bye_packet id ∷ []))
        ∙ ap (λ (n : ℕ). n + 8) (size_is_that_of_the_octets (receiver_named id setup.cname) [])

-- ---- Numbers

own_agrees : (s : State) (own : List OwnStep) → s.own ≡ own_of own → own_anew s.own ≡ own_of (counts_anew ∷ own)
own_agrees s own same = ap own_anew same

heard_agrees : (s : State) (own : List OwnStep) → s.own ≡ own_of own → s.own.heard ≡ has_sent own
heard_agrees s own same = ap (λ (x : OwnValue). x.heard) same

-- the average moves as the list of sizes grows
sizes_by : (heard : Bool) (first size : ℕ) (sizes : List ℕ) →
    (if heard then moved_average (average_of first sizes) size else average_of first sizes) ≡ average_of first
    (if heard then size ∷ sizes else sizes)
sizes_by true first size sizes = refl
sizes_by false first size sizes = refl

changed_still : (s : State) (o : Outcome) (ssrc : ℕ) → StandsStill s o →
    StandsStill (after_change ssrc s) (counted_anew o)
changed_still s o ssrc still = record {
  table = still.table;
  capacity = still.capacity;
  own = own_agrees s o.own still.own;
  cursor = still.cursor;
  reports = still.reports;
}

changed_agrees : (s : State) (o : Outcome) (ssrc : ℕ) → Agrees s o →
    Agrees (after_change ssrc s) (with_change s.setup o)
changed_agrees s o ssrc a = record {
  timing = a.timing;
  average = ap (λ (heard : Bool). if heard then moved_average s.average (length (bye_octets s.setup)) else s.average)
      (heard_agrees s o.own a.still.own)
      ∙ ap (λ (n : ℕ). if has_sent o.own then moved_average n (length (bye_octets s.setup)) else n) a.average
      ∙ sizes_by (has_sent o.own) _ (length (bye_octets s.setup)) o.sizes;
  pace = a.pace;
  still = with_own (after_change ssrc s) (counted_anew o) (changed_still s o ssrc a.still)
      (own_agrees s o.own a.still.own);
}

-- ---- Backoffs

bye_moves_average : (heard : Bool) (size : ℕ) (setup : Setup) (backoff : Backoff)
    → (if heard then moved_average (leaving_average setup backoff.bye_compounds) size else leaving_average setup
    backoff.bye_compounds) ≡ leaving_average setup (with_bye heard size backoff).bye_compounds
bye_moves_average true size setup backoff = refl
bye_moves_average false size setup backoff = refl

average_with_ssrc : (ssrc : ℕ) (setup : Setup) (bye_compounds : List ByeCompound) →
    leaving_average (with_ssrc ssrc setup) bye_compounds ≡ leaving_average setup bye_compounds
average_with_ssrc ssrc setup bye_compounds =
    ap (λ (n : ℕ). average_of n (map (λ (bye_compound : ByeCompound). bye_compound.size) bye_compounds))
    (byes_are_of_one_size ssrc setup)

changed_average : (s : State) (o : Outcome) (backoff : Backoff) (ssrc : ℕ) → StandsStill s o →
    s.average ≡ leaving_average s.setup backoff.bye_compounds
    → (after_change ssrc s).average ≡ leaving_average (with_ssrc ssrc s.setup)
    (after_own_bye s.setup o backoff).bye_compounds
changed_average s o backoff ssrc still average =
    let size = length (bye_octets s.setup) in
    ap (λ (heard : Bool). if heard then moved_average s.average size else s.average) (heard_agrees s o.own still.own)
    ∙ ap (λ (n : ℕ). if has_sent o.own then moved_average n size else n) average
    ∙ bye_moves_average (has_sent o.own) size s.setup backoff
    ∙ sym (average_with_ssrc ssrc s.setup (after_own_bye s.setup o backoff).bye_compounds)

-- ---- Where it stands

changed_is_at : (p q : ParticipantValue) (ssrc : ℕ) (life : Life) → IsAt p life → (p.phase ≡ over → ⊥) →
    q.presence ≡ after_change ssrc p.presence → q.phase ≡ p.phase → IsAt q (with_new_ssrc p.presence.setup life)
changed_is_at p q ssrc (present outcome) at there same phase = (
  phase ∙ at.0,
  subst (λ (s : State). Agrees s (with_change p.presence.setup outcome)) (sym same)
      (changed_agrees p.presence outcome ssrc at.1),
)
changed_is_at p q ssrc (backing_off outcome backoff) at there same phase =
    let heard = has_sent outcome.own in
    let size = length (bye_octets p.presence.setup) in
    let next = after_own_bye p.presence.setup outcome backoff in (
      phase ∙ at.0 ∙ ap leaving (sym (bye_keeps_count heard size backoff)),
      subst (λ (s : State). Waits s (counted_anew outcome) next) (sym same)
          (record {
            timing = at.1.timing ∙ sym (bye_keeps_timing heard size backoff);
            average = changed_average p.presence outcome backoff ssrc at.1.still at.1.average;
            still = changed_still p.presence outcome ssrc at.1.still;
          }),
    )
changed_is_at p q ssrc (finished outcome) at there same phase = absurd (there at)

pub changed_is_in : (p q : ParticipantValue) (session : Session) (new : NewIdentifier) → IsIn p session →
    (p.phase ≡ over → ⊥) → q.presence ≡ after_change new.ssrc p.presence → q.phase ≡ p.phase
    → q.changes ≡ record { peer = new.peer; former = p.presence.setup.ssrc } ∷ p.changes →
    IsIn q (changed_to new session)
changed_is_in p q session new is there same phase changes = record {
  setup = ap (λ (s : State). s.setup) same ∙ ap (with_ssrc new.ssrc) is.setup;
  changes = changes ∙ (λ i. record { peer = new.peer; former = (is.setup i).ssrc } ∷ is.changes i);
  life = subst (λ (setup : Setup). IsAt q (with_new_ssrc setup session.life)) is.setup
      (changed_is_at p q new.ssrc session.life is.life there same phase);
}

-- ---- What it hands out

bye_by : (heard : Bool) (octets : List ℕ) → option_map bye_out (if heard then Some octets else None)
    ≡ (if heard then Some (bye_out octets) else None)
bye_by true octets = refl
bye_by false octets = refl

out_by_still : {s : State} {setup : Setup} (o : Outcome) → StandsStill s o → s.setup ≡ setup →
    option_map bye_out (own_bye_in s) ≡ bye_if_sent setup o
out_by_still {s} {setup} o still same =
    bye_by s.own.heard (bye_octets s.setup)
    ∙ (λ i. if heard_agrees s o.own still.own i then Some (bye_out (bye_octets (same i))) else None)

pub changed_out : (p : ParticipantValue) (setup : Setup) (life : Life) → IsAt p life → (p.phase ≡ over → ⊥) →
    p.presence.setup ≡ setup → option_map bye_out (own_bye_in p.presence) ≡ own_bye setup life
changed_out p setup (present outcome) at there same = out_by_still outcome at.1.still same
changed_out p setup (backing_off outcome backoff) at there same = out_by_still outcome at.1.still same
changed_out p setup (finished outcome) at there same = absurd (there at)
