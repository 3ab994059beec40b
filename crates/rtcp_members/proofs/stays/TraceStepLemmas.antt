-- How what a trace says of a source moves with one step more.
use Rattle.std.proofs.Common.{◌≡◌, ℕ, Bool, true, false, if◌then◌else◌, not, ◌&&◌, ◌==◌, List, [], ◌∷◌, Option, Some, None, is_some, option_map, option_and_then, unwrap_or, refl, sym, ap, ◌∙◌}
use Rattle.std.proofs.lemmas.Bool.{and_right}
use Rattle.rtcp_wire.specs.declared.fact.Fact.{Fact}
use Rattle.rtcp_members.specs.declared.table.Place.TheVariants.{Kept, Added, NoRoom, Ignored, Left}
use Rattle.rtcp_wire.specs.Facts.{subject, is_gone}
use Rattle.rtcp_members.specs.Traces.{Horizons, TraceStep, fact_came, check_made, names}
use Rattle.rtcp_members.specs.Stays.{mark_of, before_mark, last_naming, is_removed, stay_with, stay_of}
use Rattle.rtcp_members.specs.Entries.{EntryValue, entry_of, entry_at}
use Rattle.rtcp_members.specs.Tables.{changes, place_of, new_entry, entry_after, entry_after_check}
use Rattle.rtcp_members.proofs.stays.Naming.{admitted, room_at}
use Rattle.rtcp_members.proofs.stays.Staying.{entry_unmarked, entry_marked, entry_moves, own_fact, other_fact, checked, check_moves_entry}

-- what a fact leaves of the entry of its source, if it has one
abbrev pub kept_by : Fact → (moment : ℕ) (room : Bool) → Option EntryValue → Option EntryValue
kept_by fact moment room entry =
    if changes (place_of fact entry room) then Some (entry_after fact moment (unwrap_or entry new_entry)) else
    entry

-- ---- Facts

module _ (capacity ssrc moment : ℕ) (fact : Fact) (trace : List TraceStep) where
  -- what the trace says of the source after the fact, by its stay before it
  abbrev said_after_fact : Option (List TraceStep) → Option EntryValue
  said_after_fact stay = option_map (entry_of ssrc)
      (stay_with capacity (fact_came fact moment) (names trace) (stay_of capacity trace) ssrc stay)

  added : (subject fact == ssrc) ≡ true → entry_of ssrc (fact_came fact moment ∷ []) ≡ entry_after fact moment
      new_entry
  added own = own_fact ssrc moment fact [] own

  own_none : (subject fact == ssrc) ≡ true → said_after_fact None ≡ kept_by fact moment (room_at capacity trace)
      None
  own_none own =
      let entry = entry_after fact moment new_entry in
      ap (λ b. option_map (entry_of ssrc)
      (admitted (not (is_gone fact) && b) (room_at capacity trace) (fact_came fact moment))) own
      ∙ elim (is_gone fact) as (λ gone. option_map (entry_of ssrc)
      (admitted (not gone && true) (room_at capacity trace) (fact_came fact moment))
      ≡ (if changes (if gone then Ignored else (if room_at capacity trace then Added else NoRoom)) then Some entry
      else None)) [
        | true ↦ refl
        | false ↦ elim (room_at capacity trace) as (λ room. option_map (entry_of ssrc)
            (admitted true room (fact_came fact moment))
            ≡ (if changes (if room then Added else NoRoom) then Some entry else None)) [
              | true ↦ ap Some (added own)
              | false ↦ refl
            ]
      ]

  moved : (subject fact == ssrc) ≡ true → (stay : List TraceStep) → mark_of ssrc stay ≡ None →
      entry_of ssrc (fact_came fact moment ∷ stay) ≡ entry_after fact moment (entry_of ssrc stay)
  moved own stay unmarked =
      entry_moves ssrc (fact_came fact moment) stay unmarked
      ∙ own_fact ssrc moment fact stay own
      ∙ ap (entry_after fact moment) (sym (entry_unmarked ssrc stay unmarked))

  own_some : (subject fact == ssrc) ≡ true → (stay : List TraceStep) →
      said_after_fact (Some stay) ≡ kept_by fact moment (room_at capacity trace) (Some (entry_of ssrc stay))
  own_some own stay =
      let entry = entry_of ssrc stay in
      let next = entry_after fact moment entry in
      elim (mark_of ssrc stay) as (λ m. mark_of ssrc stay ≡ m →
      said_after_fact (Some stay) ≡ (if changes
      (if is_some m then Ignored else (if is_gone fact then Left else Kept)) then Some next else Some entry)) [
        | None ↦ λ unmarked. ap Some (moved own stay unmarked)
            ∙ elim (is_gone fact) as (λ gone. Some next
            ≡ (if changes (if gone then Left else Kept) then Some next else Some entry)) [
              | true ↦ refl
              | false ↦ refl
            ]
        | Some mark ↦ λ marked. ap Some (entry_marked ssrc (fact_came fact moment) stay mark marked)
      ] refl

  own_moves : (subject fact == ssrc) ≡ true → (stay : Option (List TraceStep)) →
      said_after_fact stay ≡ kept_by fact moment (room_at capacity trace) (option_map (entry_of ssrc) stay)
  own_moves own None = own_none own
  own_moves own (Some stay) = own_some own stay

  other_some : (subject fact == ssrc) ≡ false → (stay : List TraceStep) →
      entry_of ssrc (fact_came fact moment ∷ stay) ≡ entry_of ssrc stay
  other_some apart stay =
      elim (mark_of ssrc stay) as (λ m. mark_of ssrc stay ≡ m → entry_of ssrc (fact_came fact moment ∷ stay)
      ≡ entry_of ssrc stay) [
        | None ↦ λ unmarked. entry_moves ssrc (fact_came fact moment) stay unmarked
            ∙ other_fact ssrc moment fact stay apart
            ∙ sym (entry_unmarked ssrc stay unmarked)
        | Some mark ↦ λ marked. entry_marked ssrc (fact_came fact moment) stay mark marked
      ] refl

  other_stays : (subject fact == ssrc) ≡ false → (stay : Option (List TraceStep)) →
      said_after_fact stay ≡ option_map (entry_of ssrc) stay
  other_stays apart None = ap (λ b. option_map (entry_of ssrc)
      (admitted b (room_at capacity trace) (fact_came fact moment))) (and_right (not (is_gone fact)) _ apart)
  other_stays apart (Some stay) = ap Some (other_some apart stay)

  -- A fact of the source moves what is said of it, or admits it.
  pub own_entry_at : (subject fact == ssrc) ≡ true → entry_at capacity (fact_came fact moment ∷ trace) ssrc
      ≡ kept_by fact moment (room_at capacity trace) (entry_at capacity trace ssrc)
  own_entry_at own = own_moves own (stay_of capacity trace ssrc)

  -- A fact of another source does not.
  pub other_entry_at : (subject fact == ssrc) ≡ false → entry_at capacity (fact_came fact moment ∷ trace) ssrc
      ≡ entry_at capacity trace ssrc
  other_entry_at apart = other_stays apart (stay_of capacity trace ssrc)

-- ---- Checks

module _ (capacity ssrc : ℕ) (horizons : Horizons) (trace : List TraceStep) where
  check_stays : (stay : Option (List TraceStep))
      → option_map (entry_of ssrc)
      (stay_with capacity (check_made horizons) (names trace) (stay_of capacity trace) ssrc stay) ≡ option_and_then
      (entry_after_check horizons) (option_map (entry_of ssrc) stay)
  check_stays None = refl
  check_stays (Some stay) =
      let next : EntryValue = (if is_some (mark_of ssrc stay) then entry_of ssrc stay else checked horizons
      (entry_of ssrc stay)) in
      elim (is_removed horizons (last_naming ssrc (before_mark ssrc stay)) (mark_of ssrc stay)) as (λ removed.
      option_map (entry_of ssrc) (if removed then None else Some (check_made horizons ∷ stay))
      ≡ (if removed then None else Some next)) [
        | true ↦ refl
        | false ↦ ap Some (check_moves_entry ssrc horizons stay)
      ]

  -- A check drops what is said of a source, or moves it.
  pub checked_entry_at : entry_at capacity (check_made horizons ∷ trace) ssrc ≡ option_and_then
      (entry_after_check horizons) (entry_at capacity trace ssrc)
  checked_entry_at = check_stays (stay_of capacity trace ssrc)
