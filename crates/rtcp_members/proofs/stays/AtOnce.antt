-- A source that is named, or tells of its clock, at a moment is heard by that.
use Rattle.std.proofs.Common.{◌≡◌, ℕ, Bool, true, false, cond, if◌then◌else◌, not, ◌&&◌, ◌||◌, ◌==◌, List, [], ◌∷◌, Option, Some, None, is_some, unwrap_or, nat_cmp, refl, sym, ap, ◌∙◌}
use Rattle.std.proofs.lemmas.Bool.{eq-eqb, eqb-true}
use Rattle.std.specs.Ordering.{eq_by_cmp}
use Rattle.std.specs.Cmp.{unsigned_tied, nat_cmp_total}
use Rattle.std.specs.FinMap as finite
use Rattle.std.specs.FinMap.{nat_cmp-IsAntisymmetric}
use Rattle.rtcp_wire.specs.declared.fact.Fact.{Fact}
use Rattle.rtcp_wire.specs.declared.fact.Fact.TheVariants.{Heard}
use Rattle.rtcp_members.specs.declared.table.Place.TheVariants.{Kept, Added, NoRoom, Ignored, Left}
use Rattle.rtcp_wire.specs.Facts.{subject, is_gone}
use Rattle.rtcp_members.specs.Entries.{EntryValue, is_member, is_sender, is_such}
use Rattle.rtcp_members.specs.Roles.{counts_differ, facts_move}
use Rattle.rtcp_members.specs.Tables.{EntryMap, TableValue, new_entry, entry_after, place_of, changes, has_room, after_fact, after_facts, count_in, members_in, senders_in}
use Rattle.rtcp_members.proofs.maps.Counting.{IsOnce, passing, same_passing, passing_entries, keys_of, own_keys_once, has_own_key}
use Rattle.rtcp_members.proofs.lists.Listing.{tied_itself}

-- ---- Maps

inserted : (m : EntryMap) (key : ℕ) (e : EntryValue) → finite.get (finite.insert m key e) key ≡ Some e
inserted m key e = finite.get-insert nat_cmp_total m key e key ∙ ap (λ b. cond b (Some e) (finite.get m key))
    (tied_itself key)

-- What is put last at a key stays.
inserted_twice : (m : EntryMap) (key : ℕ) (first last : EntryValue) → finite.insert (finite.insert m key first) key last
    ≡ finite.insert m key last
inserted_twice m key first last =
    finite.same_map nat_cmp_total nat_cmp-IsAntisymmetric (finite.insert (finite.insert m key first) key last)
    (finite.insert m key last) (λ q.
    finite.get-insert nat_cmp_total (finite.insert m key first) key last q
    ∙ ap (cond (eq_by_cmp nat_cmp q key) (Some last)) (finite.get-insert nat_cmp_total m key first q)
    ∙ elim (eq_by_cmp nat_cmp q key) as (λ b. cond b (Some last) (cond b (Some first) (finite.get m q)) ≡ cond b
    (Some last) (finite.get m q)) [ true ↦ refl | false ↦ refl ]
    ∙ sym (finite.get-insert nat_cmp_total m key last q))

-- ---- Counts of a map

-- As many entries pass a test where one is put that passes as the old one does, or fails where there is none.
as_many : (test : EntryValue → Bool) (m : EntryMap) (key : ℕ) (e : EntryValue) →
    is_such test (finite.get m key) ≡ test e
    → passing (λ (row : ℕ × EntryValue). test row.1) (finite.entries (finite.insert m key e)) ≡ passing
    (λ (row : ℕ × EntryValue). test row.1) (finite.entries m)
as_many test m key e same =
    passing_entries test keys once next (has_own_key next) ∙ same_passing _ _ at keys
    ∙ sym (passing_entries test keys once m (λ q found. has_own_key next q (still q found)))
  where
    next : EntryMap
    next = finite.insert m key e

    keys : List ℕ
    keys = keys_of (finite.entries next)

    once : IsOnce keys
    once = own_keys_once next

    still : (q : ℕ) → is_some (finite.get m q) ≡ true → is_some (finite.get next q) ≡ true
    still q found =
        ap is_some (finite.get-insert nat_cmp_total m key e q)
        ∙ elim (eq_by_cmp nat_cmp q key) as (λ b. is_some (cond b (Some e) (finite.get m q)) ≡ true) [
          | true ↦ refl
          | false ↦ found
        ]

    at : (q : ℕ) → is_such test (finite.get next q) ≡ is_such test (finite.get m q)
    at q =
        ap (is_such test) (finite.get-insert nat_cmp_total m key e q)
        ∙ elim (eq_by_cmp nat_cmp q key) as (λ b. eq_by_cmp nat_cmp q key ≡ b →
        is_such test (cond b (Some e) (finite.get m q)) ≡ is_such test (finite.get m q)) [
          | true ↦ λ tied. sym same ∙ ap (λ k. is_such test (finite.get m k))
              (sym (eqb-true q key (sym (unsigned_tied q key) ∙ tied)))
          | false ↦ λ _. refl
        ] refl

-- ---- A table

-- what a fact makes of a table, by what it finds there
abbrev became : Fact → ℕ → TableValue → ℕ → Option EntryValue → Bool → TableValue
became fact t table key found room =
    if changes (place_of fact found room)
    then record table {
      entries = finite.insert table.entries key
          (entry_after fact t (unwrap_or found new_entry));
    }
    else table

-- the table with this entry
abbrev with_entry : TableValue → ℕ → EntryValue → TableValue
with_entry table ssrc e = record table { entries = finite.insert table.entries ssrc e }

module _ (fact : Fact) (ssrc t : ℕ) (own : subject fact ≡ ssrc) (stays : is_gone fact ≡ false) where
  found_fact : (table : TableValue) (e : EntryValue) → finite.get table.entries ssrc ≡ Some e → is_some e.mark ≡ false →
      after_fact fact t table ≡ with_entry table ssrc (entry_after fact t e)
  found_fact table e is unmarked =
      let next = with_entry table ssrc (entry_after fact t e) in
      (λ i. became fact t table (own i) (finite.get table.entries (own i)) (has_room table))
      ∙ ap (λ found. became fact t table ssrc found (has_room table)) is
      ∙ ap (λ marked. if changes (if marked then Ignored else (if is_gone fact then Left else Kept)) then next else
      table) unmarked
      ∙ ap (λ gone. if changes (if gone then Left else Kept) then next else table) stays

  new_fact : (table : TableValue) → finite.get table.entries ssrc ≡ None → has_room table ≡ true →
      after_fact fact t table ≡ with_entry table ssrc (entry_after fact t new_entry)
  new_fact table is room =
      let next = with_entry table ssrc (entry_after fact t new_entry) in
      (λ i. became fact t table (own i) (finite.get table.entries (own i)) (has_room table))
      ∙ ap (λ found. became fact t table ssrc found (has_room table)) is
      ∙ (λ i. if changes (if stays i then Ignored else (if room i then Added else NoRoom)) then next else table)

  -- A fact of a source that said goodbye is ignored, and so is one that finds no room.
  marked_fact : (table : TableValue) (e : EntryValue) → finite.get table.entries ssrc ≡ Some e →
      is_some e.mark ≡ true → after_fact fact t table ≡ table
  marked_fact table e is marked =
      let next = with_entry table ssrc (entry_after fact t e) in
      (λ i. became fact t table (own i) (finite.get table.entries (own i)) (has_room table))
      ∙ ap (λ found. became fact t table ssrc found (has_room table)) is
      ∙ ap (λ b. if changes (if b then Ignored else (if is_gone fact then Left else Kept)) then next else table) marked

  full_fact : (table : TableValue) → finite.get table.entries ssrc ≡ None → has_room table ≡ false →
      after_fact fact t table ≡ table
  full_fact table is room =
      let next = with_entry table ssrc (entry_after fact t new_entry) in
      (λ i. became fact t table (own i) (finite.get table.entries (own i)) (has_room table))
      ∙ ap (λ found. became fact t table ssrc found (has_room table)) is
      ∙ (λ i. if changes (if stays i then Ignored else (if room i then Added else NoRoom)) then next else table)

  module _ (table : TableValue) (over : (e : EntryValue) → entry_after fact t (record e { sighting = t })
      ≡ entry_after fact t e) where
    twice : (e : EntryValue) → is_some e.mark ≡ false →
        after_fact fact t (with_entry table ssrc (record e { sighting = t })) ≡ with_entry table ssrc
        (entry_after fact t e)
    twice e unmarked =
        let seen : EntryValue = record e { sighting = t } in
        found_fact (with_entry table ssrc seen) seen (inserted table.entries ssrc seen) unmarked
        ∙ ap (λ (m : EntryMap). record table { entries = m })
        (inserted_twice table.entries ssrc seen (entry_after fact t seen)
        ∙ ap (finite.insert table.entries ssrc) (over e))

    heard_before : after_fact fact t (after_fact (Heard ssrc) t table) ≡ after_fact fact t table
    heard_before = elim (finite.get table.entries ssrc) as (λ found. finite.get table.entries ssrc ≡ found →
        after_fact fact t (became (Heard ssrc) t table ssrc found (has_room table)) ≡ after_fact fact t table) [
          | Some e ↦ λ is. elim (is_some e.mark) as (λ b. is_some e.mark ≡ b →
              after_fact fact t (if changes (if b then Ignored else Kept) then with_entry table ssrc
              (record e { sighting = t }) else table) ≡ after_fact fact t table) [
                | true ↦ λ _. refl
                | false ↦ λ unmarked. twice e unmarked ∙ sym (found_fact table e is unmarked)
              ] refl
          | None ↦ λ is. elim (has_room table) as (λ b. has_room table ≡ b →
              after_fact fact t (if changes (if b then Added else NoRoom) then with_entry table ssrc
              (record new_entry { sighting = t }) else table) ≡ after_fact fact t table) [
                | true ↦ λ room. twice new_entry refl ∙ sym (new_fact table is room)
                | false ↦ λ _. refl
              ] refl
        ] refl

-- A fact that adds nothing to what another of its source says at the same moment.
module _ (first next : Fact) (ssrc t : ℕ) (own : subject first ≡ ssrc) (stays : is_gone first ≡ false)
    (own_next : subject next ≡ ssrc) (stays_next : is_gone next ≡ false)
    (over : (e : EntryValue) → entry_after next t (entry_after first t e) ≡ entry_after first t e)
    (unmarks : (e : EntryValue) → (entry_after first t e).mark ≡ e.mark) (table : TableValue) where
  once_more : (e : EntryValue) → is_some e.mark ≡ false → after_fact first t table ≡ with_entry table ssrc
      (entry_after first t e) → after_fact next t (after_fact first t table) ≡ after_fact first t table
  once_more e unmarked is =
      let said : EntryValue = entry_after first t e in
      ap (after_fact next t) is
      ∙ found_fact next ssrc t own_next stays_next (with_entry table ssrc said) said
      (inserted table.entries ssrc said) (ap is_some (unmarks e) ∙ unmarked)
      ∙ ap (λ (m : EntryMap). record table { entries = m })
      (inserted_twice table.entries ssrc said (entry_after next t said)
      ∙ ap (finite.insert table.entries ssrc) (over e)) ∙ sym is

  pub adds_nothing : after_fact next t (after_fact first t table) ≡ after_fact first t table
  adds_nothing = elim (finite.get table.entries ssrc) as (λ found. finite.get table.entries ssrc ≡ found →
      after_fact next t (after_fact first t table) ≡ after_fact first t table) [
        | Some e ↦ λ is. elim (is_some e.mark) as (λ b. is_some e.mark ≡ b →
            after_fact next t (after_fact first t table) ≡ after_fact first t table) [
              | true ↦ λ marked. ap (after_fact next t) (marked_fact first ssrc t own stays table e is marked)
                  ∙ marked_fact next ssrc t own_next stays_next table e is marked
                  ∙ sym (marked_fact first ssrc t own stays table e is marked)
              | false ↦ λ unmarked. once_more e unmarked (found_fact first ssrc t own stays table e is unmarked)
            ] refl
        | None ↦ λ is. elim (has_room table) as (λ b. has_room table ≡ b →
            after_fact next t (after_fact first t table) ≡ after_fact first t table) [
              | true ↦ λ room. once_more new_entry refl (new_fact first ssrc t own stays table is room)
              | false ↦ λ room. ap (after_fact next t) (full_fact first ssrc t own stays table is room)
                  ∙ full_fact next ssrc t own_next stays_next table is room
                  ∙ sym (full_fact first ssrc t own stays table is room)
            ] refl
      ] refl

-- Who is heard is no more and no less than before.
module _ (ssrc t : ℕ) (table : TableValue) (test : EntryValue → Bool) (same : (e : EntryValue) →
    test (record e { sighting = t }) ≡ test e) (none : test new_entry ≡ false) where
  heard_counts : count_in test (after_fact (Heard ssrc) t table) ≡ count_in test table
  heard_counts = elim (finite.get table.entries ssrc) as (λ found. finite.get table.entries ssrc ≡ found →
      count_in test (became (Heard ssrc) t table ssrc found (has_room table)) ≡ count_in test table) [
        | Some e ↦ λ is. elim (is_some e.mark) as (λ b. count_in test
            (if changes (if b then Ignored else Kept) then with_entry table ssrc (record e { sighting = t }) else table)
            ≡ count_in test table) [
              | true ↦ refl
              | false ↦ as_many test table.entries ssrc (record e { sighting = t })
                  (ap (is_such test) is ∙ sym (same e))
            ]
        | None ↦ λ is. elim (has_room table) as (λ b. count_in test
            (if changes (if b then Added else NoRoom) then with_entry table ssrc (record new_entry { sighting = t })
            else
            table) ≡ count_in test table) [
              | true ↦ as_many test table.entries ssrc (record new_entry { sighting = t })
                  (ap (is_such test) is ∙ sym (same new_entry ∙ none))
              | false ↦ refl
            ]
      ] refl

abbrev pub differ : ℕ → ℕ → ℕ → ℕ → Bool
differ members senders next_members next_senders = not ((next_members == members) && (next_senders == senders))

pub differ_not : (members senders : ℕ) → differ members senders members senders ≡ false
differ_not members senders = (λ i. not (eq-eqb members members refl i && eq-eqb senders senders refl i))

module _ (fact : Fact) (ssrc t : ℕ) (table : TableValue) (own : subject fact ≡ ssrc) (stays : is_gone fact ≡ false)
    (over : (e : EntryValue) → entry_after fact t (record e { sighting = t }) ≡ entry_after fact t
    e) where
  members_stay : members_in (after_fact (Heard ssrc) t table) ≡ members_in table
  members_stay = heard_counts ssrc t table is_member (λ e. refl) refl

  senders_stay : senders_in (after_fact (Heard ssrc) t table) ≡ senders_in table
  senders_stay = heard_counts ssrc t table is_sender (λ e. refl) refl

  pub once_said : after_facts (Heard ssrc ∷ fact ∷ []) t table ≡ after_facts (fact ∷ []) t table
  once_said = heard_before fact ssrc t own stays table over

  pub once_moved : facts_move (Heard ssrc ∷ fact ∷ []) t table ≡ facts_move (fact ∷ []) t table
  once_moved =
      (λ i. differ (members_in table) (senders_in table) (members_stay i) (senders_stay i)
      || (differ (members_stay i) (senders_stay i) (members_in (once_said i)) (senders_in (once_said i))
      || false))
      ∙ ap (λ b. b || (counts_differ table (after_fact fact t table) || false))
      (differ_not (members_in table) (senders_in table))
