-- A fact whose source has no entry.
use Rattle.std.proofs.Common.{◌≡◌, ◌<◌, ◌≤◌, ℕ, Bool, true, false, nat_lt, List, [], ◌∷◌, ◌++◌, length, if◌then◌else◌, None, unwrap_or, arith, refl, sym, ap, ◌∙◌}
use Rattle.std.proofs.lemmas.Bool.Decides.{nat_tests}
use Rattle.std.proofs.lemmas.List.{length-map, length-append}
use Rattle.std.specs.FinMap as finite
use Rattle.rtcp_wire.specs.declared.fact.Fact.{Fact}
use Rattle.rtcp_members.specs.declared.entry.Entry.{Entry}
use Rattle.rtcp_members.specs.declared.table.Place.{Place}
use Rattle.rtcp_members.specs.declared.table.Place.TheVariants.{Added, NoRoom, Ignored}
use Rattle.rtcp_wire.specs.Facts.{subject, is_gone}
use Rattle.rtcp_members.specs.Tables.{TableValue, IsApart, new_entry, entry_after, place_of, changes, placed, after_fact, has_room}
use Rattle.rtcp_members.specs.ListViews.{entry_value, row_of, rows_of, map_of, table_of, IsListed}
use Rattle.rtcp_members.proofs.lists.Listing.{len_rows}
use Rattle.rtcp_members.proofs.lists.Changing.{map_push, apart_push}

room_of : (capacity : ℕ) (entries : List Entry) → IsApart (rows_of entries) →
    has_room (table_of capacity entries) ≡ nat_lt (length entries) capacity
room_of capacity entries apart = ap (λ n. nat_lt n capacity)
    (len_rows (rows_of entries) apart ∙ length-map entries row_of)

-- what becomes of the fact, and of the table, by whether there is room
absent_place : (table : TableValue) (fact : Fact) (gone room : Bool) → finite.get table.entries (subject fact) ≡ None →
    is_gone fact ≡ gone → has_room table ≡ room
    → placed table fact ≡ (if gone then Ignored else (if room then Added else NoRoom))
absent_place table fact gone room none goes has =
    ap (λ o. place_of fact o (has_room table)) none
    ∙ (λ i. if goes i then Ignored else (if has i then Added else NoRoom))

absent_after : (table : TableValue) (fact : Fact) (t : ℕ) (place : Place) →
    finite.get table.entries (subject fact) ≡ None → placed table fact ≡ place
    → after_fact fact t table ≡ (if changes place then record
    table { entries = finite.insert table.entries (subject fact) (entry_after fact t new_entry) } else
    table)
absent_after table fact t place none is =
    λ i. if changes (is i) then record table {
      entries = finite.insert table.entries (subject fact)
          (entry_after fact t (unwrap_or (none i) new_entry));
    } else table

pub ignored : (capacity : ℕ) (entries : List Entry) (fact : Fact) (t : ℕ) →
    finite.get (map_of entries) (subject fact) ≡ None → is_gone fact ≡ true
    → (Ignored ≡ placed (table_of capacity entries) fact)
    × (table_of capacity entries ≡ after_fact fact t (table_of capacity entries))
ignored capacity entries fact t none gone =
    let is = absent_place (table_of capacity entries) fact true (has_room (table_of capacity entries)) none
    gone refl in
    (sym is, sym (absent_after (table_of capacity entries) fact t Ignored none is))

pub no_room : (capacity : ℕ) (entries : List Entry) (fact : Fact) (t : ℕ) → IsApart (rows_of entries) →
    finite.get (map_of entries) (subject fact) ≡ None → is_gone fact ≡ false → capacity ≤ length entries
    → (NoRoom ≡ placed (table_of capacity entries) fact)
    × (table_of capacity entries ≡ after_fact fact t (table_of capacity entries))
no_room capacity entries fact t apart none gone full =
    let is = absent_place (table_of capacity entries) fact false false none gone
    (room_of capacity entries apart ∙ grind (arith, nat_tests, full)) in
    (sym is, sym (absent_after (table_of capacity entries) fact t NoRoom none is))

-- `next` is the list with an entry of the source added, at the end or in its gap
pub admitted : (capacity : ℕ) (entries next : List Entry) (fact : Fact) (t : ℕ) → IsApart (rows_of entries) →
    finite.get (map_of entries) (subject fact) ≡ None → is_gone fact ≡ false → length entries < capacity
    → map_of next ≡ finite.insert (map_of entries) (subject fact) (entry_after fact t new_entry)
    → (Added ≡ placed (table_of capacity entries) fact)
    × (table_of capacity next ≡ after_fact fact t (table_of capacity entries))
admitted capacity entries next fact t apart none gone room added =
    let is = absent_place (table_of capacity entries) fact false true none gone
    (room_of capacity entries apart ∙ grind (arith, nat_tests, room)) in (
      sym is,
      ap (λ m. record (table_of capacity entries) { entries = m }) added
          ∙ sym (absent_after (table_of capacity entries) fact t Added none is),
    )

pub map_pushed : (entries : List Entry) (fact : Fact) (t : ℕ) (e : Entry) →
    finite.get (map_of entries) (subject fact) ≡ None → e.ssrc ≡ subject fact →
    entry_value e ≡ entry_after fact t new_entry
    → map_of (entries ++ e ∷ []) ≡ finite.insert (map_of entries) (subject fact) (entry_after fact t new_entry)
map_pushed entries fact t e none its_ssrc its_value =
    map_push entries e (ap (finite.get (map_of entries)) its_ssrc ∙ none)
    ∙ (λ i. finite.insert (map_of entries) (its_ssrc i) (its_value i))

pub listed_push : (capacity : ℕ) (entries : List Entry) (e : Entry) (ssrc : ℕ) → IsListed capacity entries →
    finite.get (map_of entries) ssrc ≡ None → e.ssrc ≡ ssrc → length entries < capacity →
    IsListed capacity (entries ++ e ∷ [])
listed_push capacity entries e ssrc listed none is room =
    record {
      apart = apart_push entries e listed.apart (ap (finite.get (map_of entries)) is ∙ none);
      within = omega (arith, room, length-append entries (e ∷ []));
      room = listed.room;
    }
