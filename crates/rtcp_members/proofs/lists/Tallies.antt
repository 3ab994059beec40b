-- How many entries of a list pass a test, and how many fewer after a check.
use Rattle.std.proofs.Common.{◌≡◌, ◌≤◌, ◌+◌, ◌-◌, ℕ, Bool, true, false, cond, ◌&&◌, List, [], ◌∷◌, length, filter, if◌then◌else◌, is_none, arith, refl, sym, ap, ◌∙◌}
use Rattle.std.proofs.lemmas.List.{length-map}
use Rattle.std.specs.FinMap as finite
use Rattle.rtcp_members.specs.declared.entry.Entry.{Entry}
use Rattle.rtcp_members.specs.Traces.{Horizons}
use Rattle.rtcp_members.specs.Stays.{is_before}
use Rattle.rtcp_members.specs.Entries.{EntryValue, is_sender}
use Rattle.rtcp_members.specs.Tables.{TableValue, IsApart, count_in, after_check, dropped_entries, dropped_senders, senders_in}
use Rattle.rtcp_members.specs.ListViews.{entry_value, mark_in, sending_in, row_of, rows_of, table_of, tally_of, lapsed, outlasts, checked, IsListed}
use Rattle.rtcp_members.proofs.lists.Listing.{filter_longer, passing_rows, len_rows}
use Rattle.rtcp_members.proofs.lists.Changing.{map_checked, apart_checked}

pub one_more : (test : EntryValue → Bool) (e : Entry) (entries : List Entry) →
    tally_of test (e ∷ entries) ≡ cond (test (entry_value e)) 1 0 + tally_of test entries
one_more test e entries = filter_longer (λ (x : Entry). test (entry_value x)) e entries

tally_rows : (test : EntryValue → Bool) (entries : List Entry) →
    length (filter (λ (row : ℕ × EntryValue). test row.1) (rows_of entries)) ≡ tally_of test entries
tally_rows test [] = refl
tally_rows test (e ∷ entries) =
    elim (test (entry_value e)) as (λ b. length
    (cond b (row_of e ∷ filter (λ (row : ℕ × EntryValue). test row.1) (rows_of entries))
    (filter (λ (row : ℕ × EntryValue). test row.1) (rows_of entries)))
    ≡ length (cond b (e ∷ filter (λ (x : Entry). test (entry_value x)) entries)
    (filter (λ (x : Entry). test (entry_value x)) entries)))
    [ true ↦ omega (arith, tally_rows test entries) | false ↦ tally_rows test entries ]

-- a count of the list is one of its table
pub counted_in : (test : EntryValue → Bool) (capacity : ℕ) (entries : List Entry) → IsApart (rows_of entries) →
    count_in test (table_of capacity entries) ≡ tally_of test entries
counted_in test capacity entries apart = passing_rows test (rows_of entries) apart ∙ tally_rows test entries

pub counted_at : (test : EntryValue → Bool) (capacity : ℕ) (entries : List Entry) (table : TableValue)
    (count : ℕ) → IsApart (rows_of entries) → table_of capacity entries ≡ table → count ≡ tally_of test entries →
    count ≡ count_in test table
counted_at test capacity entries table count apart is counts = counts
    ∙ sym (counted_in test capacity entries apart) ∙ ap (count_in test) is

-- ---- After a check

none_of : (b : Bool) → (b && false) ≡ false
none_of true = refl
none_of false = refl

lapsed_weight : (idle : ℕ) (e : Entry) → cond (is_sender (entry_value (lapsed idle e))) 1 0 ≤ cond
    (is_sender (entry_value e)) 1 0
lapsed_weight idle e =
    let gone : Entry = record e { sends = false } in
    elim (is_none (mark_in e) && is_before (sending_in e) idle) as (λ lapses. cond
    (is_sender (entry_value (if lapses then gone else e))) 1 0 ≤ cond (is_sender (entry_value e)) 1 0) [
      | true ↦ omega (arith, ap {B = ℕ} (λ b. cond b 1 0) (none_of (e.valid && is_none (mark_in e))))
      | false ↦ omega arith
    ]

fewer_senders : (horizons : Horizons) (entries : List Entry) →
    tally_of is_sender (checked horizons entries) ≤ tally_of is_sender entries
fewer_senders horizons [] = omega arith
fewer_senders horizons (e ∷ entries) =
    let rest : List Entry = checked horizons entries in
    elim (outlasts horizons e) as (λ stays. tally_of is_sender (cond stays (lapsed horizons.idle e ∷ rest) rest)
    ≤ tally_of is_sender (e ∷ entries)) [
      | true ↦ omega (
        arith,
        one_more is_sender (lapsed horizons.idle e) rest,
        one_more is_sender e entries,
        lapsed_weight horizons.idle e,
        fewer_senders horizons entries,
      )
      | false ↦ omega (arith, one_more is_sender e entries, fewer_senders horizons entries)
    ]

fewer : (horizons : Horizons) (entries : List Entry) →
    length (checked horizons entries) ≤ length entries
fewer horizons [] = omega arith
fewer horizons (e ∷ entries) =
    let rest : List Entry = checked horizons entries in
    elim (outlasts horizons e) as (λ stays. length (cond stays (lapsed horizons.idle e ∷ rest) rest) ≤ length
    (e ∷ entries)) [
      | true ↦ omega (arith, fewer horizons entries)
      | false ↦ omega (arith, fewer horizons entries)
    ]

module _ (horizons : Horizons) (entries next : List Entry) (is : next ≡ checked horizons entries) where
  pub fewer_checked : length next ≤ length entries
  fewer_checked = rw is (fewer horizons entries)

  pub fewer_senders_checked : tally_of is_sender next ≤ tally_of is_sender entries
  fewer_senders_checked = rw is (fewer_senders horizons entries)

  -- The same of a table over the list.
  module _ (capacity : ℕ) (table : TableValue) (view : table_of capacity entries ≡ table)
      (listed : IsListed capacity entries) where
    pub listed_checked : IsListed capacity next
    listed_checked = record {
      apart = rw is (apart_checked horizons entries listed.apart);
      within = omega (arith, fewer_checked, listed.within);
      room = listed.room;
    }

    pub table_checked : table_of capacity next ≡ after_check horizons table
    table_checked =
        ap (table_of capacity) is
        ∙ ap (λ m. record (table_of capacity entries) { entries = m }) (map_checked horizons entries listed.apart)
        ∙ ap (after_check horizons) view

    len_of : (xs : List Entry) (t : TableValue) → table_of capacity xs ≡ t → IsApart (rows_of xs) →
        length xs ≡ finite.len t.entries
    len_of xs t same apart = sym (length-map xs row_of) ∙ sym (len_rows (rows_of xs) apart)
        ∙ ap (λ (t : TableValue). finite.len t.entries) same

    pub dropped_checked : length entries - length next ≡ dropped_entries horizons table
    dropped_checked = λ i. len_of entries table view listed.apart i - len_of next (after_check horizons table)
        table_checked listed_checked.apart i

    module _ (before after : ℕ) (at_first : before ≡ senders_in table)
        (at_last : after ≡ senders_in (table_of capacity next)) where
      pub senders_checked : before - after ≡ dropped_senders horizons table
      senders_checked = λ i. at_first i - (at_last ∙ ap senders_in table_checked) i

      pub fewer_senders_in : after ≤ before
      fewer_senders_in = omega (
        arith,
        at_first,
        at_last,
        ap senders_in view,
        counted_in is_sender capacity entries listed.apart,
        counted_in is_sender capacity next listed_checked.apart,
        fewer_senders_checked,
      )
