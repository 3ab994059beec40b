-- What a stay says of its source, after one step more.
use Rattle.std.proofs.Common.{◌≡◌, ℕ, Bool, true, false, if◌then◌else◌, ◌||◌, ◌&&◌, ◌==◌, List, [], ◌∷◌, Option, Some, None, is_some, is_none, option_map, refl, sym, ap, ◌∙◌}
use Rattle.rtcp_wire.specs.declared.fact.Fact.{Fact}
use Rattle.rtcp_wire.specs.declared.fact.Fact.TheVariants.{Heard, Media}
use Rattle.rtcp_clock.specs.Moments.{media_units}
use Rattle.rtcp_source.specs.Packets.{packet_came, is_counted_in, run_of}
use Rattle.rtcp_source.specs.Takings.{is_counted}
use Rattle.rtcp_source.specs.Summary.{summary_of}
use Rattle.rtcp_source.specs.Steps.{taken_by, after_packet}
use Rattle.rtcp_source.proofs.LawLemmas.{summary_moves-packet, summary_suffices-counted}
use Rattle.rtcp_wire.specs.Facts.{subject}
use Rattle.rtcp_members.specs.Traces.{Horizons, TraceStep, fact_came, check_made}
use Rattle.rtcp_members.specs.Stays.{mark_at, mark_of, before_mark, last_naming, stay_of}
use Rattle.rtcp_members.specs.Members.{is_unmarked_with}
use Rattle.rtcp_members.specs.Entries.{EntryValue, given_of, is_valid, sending_of, still_sending, entry_of, entry_at, is_such}
use Rattle.rtcp_members.specs.Tables.{entry_after}
use Rattle.rtcp_members.proofs.StepByStep.{mark_after, valid_by_packet}

-- ---- The mark

-- what a stay says whose part before the mark is `own`
abbrev pub entry_with : (ssrc : ℕ) (own : List TraceStep) (mark : Option ℕ) → EntryValue
entry_with ssrc own marked =
    record {
      valid = is_valid ssrc own;
      mark = marked;
      sighting = last_naming ssrc own;
      sending = sending_of ssrc own;
      source = summary_of (given_of ssrc own);
    }

-- what a stay without a mark says with one step more
abbrev pub moved_entry : (ssrc : ℕ) → TraceStep → (stay : List TraceStep) → EntryValue
moved_entry ssrc step stay = entry_with ssrc (if is_some (mark_at ssrc step None) then stay else step ∷ stay)
    (mark_at ssrc step None)

before_none : (ssrc : ℕ) (stay : List TraceStep) → mark_of ssrc stay ≡ None → before_mark ssrc stay ≡ stay
before_none ssrc [] unmarked = refl
before_none ssrc (step ∷ stay) unmarked = ap (λ m. if is_some m then before_mark ssrc stay else step ∷ stay) unmarked

pub entry_unmarked : (ssrc : ℕ) (stay : List TraceStep) → mark_of ssrc stay ≡ None →
    entry_of ssrc stay ≡ entry_with ssrc stay None
entry_unmarked ssrc stay unmarked = λ i. entry_with ssrc (before_none ssrc stay unmarked i) (unmarked i)

module _ (ssrc : ℕ) (step : TraceStep) (stay : List TraceStep) where
  after_mark : entry_of ssrc (step ∷ stay) ≡ entry_with ssrc
      (if is_some (mark_at ssrc step (mark_of ssrc stay)) then before_mark ssrc stay else step ∷ stay)
      (mark_at ssrc step (mark_of ssrc stay))
  after_mark = ap (λ m. entry_with ssrc (if is_some m then before_mark ssrc stay else step ∷ stay) m)
      (mark_after ssrc step stay)

  -- With a mark no step changes anything.
  pub entry_marked : (mark : ℕ) → mark_of ssrc stay ≡ Some mark →
      entry_of ssrc (step ∷ stay) ≡ entry_of ssrc stay
  entry_marked mark marked =
      after_mark ∙ ap (λ m. entry_with ssrc
      (if is_some (mark_at ssrc step m) then before_mark ssrc stay else step ∷ stay)
      (mark_at ssrc step m)) marked
      ∙ ap (entry_with ssrc (before_mark ssrc stay)) (sym marked)

  pub entry_moves : mark_of ssrc stay ≡ None → entry_of ssrc (step ∷ stay) ≡ moved_entry ssrc step stay
  entry_moves unmarked = after_mark ∙ (λ i. entry_with ssrc
      (if is_some (mark_at ssrc step (unmarked i)) then before_none ssrc stay unmarked i else step ∷ stay)
      (mark_at ssrc step (unmarked i)))

-- A test of entries that fails with a mark, and passes what such a stay says without one.
module _ (test : EntryValue → Bool) (such : ℕ → List TraceStep → Bool) (ssrc : ℕ)
    (same : (stay : List TraceStep) → test (entry_with ssrc stay None) ≡ such ssrc stay)
    (fails : (own : List TraceStep) (mark : ℕ) → test (entry_with ssrc own (Some mark)) ≡ false) where
  by_mark : (stay : List TraceStep) (mark : Option ℕ) → mark_of ssrc stay ≡ mark →
      test (entry_of ssrc stay) ≡ (is_none (mark_of ssrc stay) && such ssrc stay)
  by_mark stay None unmarked = ap test (entry_unmarked ssrc stay unmarked) ∙ same stay
      ∙ ap (λ m. is_none m && such ssrc stay) (sym unmarked)
  by_mark stay (Some mark) marked =
      ap (λ m. test (entry_with ssrc (before_mark ssrc stay) m)) marked ∙ fails (before_mark ssrc stay) mark
      ∙ ap (λ m. is_none m && such ssrc stay) (sym marked)

  pub such_by_stay : (capacity : ℕ) (trace : List TraceStep) →
      is_such test (entry_at capacity trace ssrc) ≡ is_unmarked_with capacity trace such ssrc
  such_by_stay capacity trace = elim (stay_of capacity trace ssrc) as (λ stay. is_such test
      (option_map (entry_of ssrc) stay)
      ≡ elim stay [ None ↦ false | Some own ↦ is_none (mark_of ssrc own) && such ssrc own ]) [
        | None ↦ refl
        | Some stay ↦ by_mark stay (mark_of ssrc stay) refl
      ]

-- ---- Facts

-- A fact of the source moves what is said of it as the tables say.
pub own_fact : (ssrc moment : ℕ) (fact : Fact) (stay : List TraceStep) → (subject fact == ssrc) ≡ true
    → moved_entry ssrc (fact_came fact moment) stay ≡ entry_after fact moment (entry_with ssrc stay None)
own_fact ssrc moment (Media other seq timestamp octets rate) stay own =
    let given = given_of ssrc stay in
    let counted : is_counted_in (run_of given) seq ≡ is_counted (taken_by (summary_of given) seq) =
    sym (summary_suffices-counted given seq) in
    let arrival = media_units moment rate in
    let moved : summary_of (packet_came seq timestamp arrival octets rate ∷ given)
    ≡ after_packet seq timestamp arrival octets rate (summary_of given) =
    summary_moves-packet seq timestamp arrival octets rate given in
    let valid = valid_by_packet ssrc stay seq timestamp arrival octets rate
    ∙ ap (λ t. t || is_valid ssrc stay) counted in
    rw own (λ i. record {
      valid = valid i;
      mark = None;
      sighting = moment;
      sending = (if counted i then Some moment else sending_of ssrc stay);
      source = moved i;
    })
own_fact ssrc moment fact stay own = rw own refl

-- A fact of another source changes nothing.
pub other_fact : (ssrc moment : ℕ) (fact : Fact) (stay : List TraceStep) → (subject fact == ssrc) ≡ false
    → moved_entry ssrc (fact_came fact moment) stay ≡ entry_with ssrc stay None
other_fact ssrc moment (Heard other) stay apart = rw apart refl
other_fact ssrc moment fact stay apart = rw apart refl

-- ---- Checks

-- an entry without a mark, after a check that does not remove it
abbrev pub checked : Horizons → EntryValue → EntryValue
checked horizons entry = record entry { sending = still_sending horizons entry.sending }

-- A check that does not remove a source changes at most whether it sends, and nothing where it has a mark.
pub check_moves_entry : (ssrc : ℕ) (horizons : Horizons) (stay : List TraceStep)
    → let entry = entry_of ssrc stay in
    entry_of ssrc (check_made horizons ∷ stay)
    ≡ (if is_some (mark_of ssrc stay) then entry else checked horizons entry)
check_moves_entry ssrc horizons stay =
    let entry = entry_of ssrc stay in
    elim (mark_of ssrc stay) as (λ m. mark_of ssrc stay ≡ m → entry_of ssrc (check_made horizons ∷ stay)
    ≡ (if is_some m then entry else checked horizons entry)) [
      | None ↦ λ unmarked. entry_moves ssrc (check_made horizons) stay unmarked
          ∙ ap (checked horizons) (sym (entry_unmarked ssrc stay unmarked))
      | Some mark ↦ λ marked. entry_marked ssrc (check_made horizons) stay mark marked
    ] refl
