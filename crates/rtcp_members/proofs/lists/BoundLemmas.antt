-- Bounds by which entries stand, after a fact, a block and a check.
use Rattle.std.proofs.Common.{length, slice_index_or, ◌≡◌, ◌≤◌, ◌<◌, ◌+◌, ◌||◌, ◌&&◌, ℕ, Bool, true, false, not, nat_lt, List, [], ◌∷◌, Option, Some, None, set, take, drop, ◌++◌, ◌==◌, is_none, if◌then◌else◌, arith, refl, sym, ap, subst, ◌∙◌}
use Rattle.std.proofs.lemmas.Bool.{le-ltb}
use Rattle.std.proofs.lemmas.List.Elements.{All-append, All-nil, All-set, All-head, All-tail, All-weaker, All-more}
use Rattle.std.proofs.lemmas.List.{length-map, get_or-map, map-append, take-append-drop}
use Rattle.std.proofs.lemmas.Bool.Decides.{nat_tests}
use Rattle.std.specs.List.{All, list_all}
use Rattle.std.proofs.lemmas.Option.{slice_get_within}
use Rattle.rtcp_wire.specs.declared.fact.Fact.{Fact}
use Rattle.rtcp_wire.specs.declared.fact.Fact.TheVariants.{Gone, Media}
use Rattle.rtcp_source.specs.Summary.{SourceValue}
use Rattle.rtcp_members.specs.declared.bounds.Bounds.{Bounds}
use Rattle.rtcp_members.specs.declared.entry.Entry.{Entry}
use Rattle.rtcp_members.specs.Entries.{EntryValue}
use Rattle.rtcp_members.specs.Traces.{Horizons}
use Rattle.rtcp_members.specs.Stays.{is_before}
use Rattle.rtcp_members.specs.Tables.{entry_with_fact}
use Rattle.rtcp_members.specs.ListViews.{entry_value, mark_in, sending_in, is_left, IsRankOf}
use Rattle.rtcp_members.specs.declared.cells.Cell.{Cell}
use Rattle.rtcp_members.specs.declared.cells.Slot.{Slot}
use Rattle.rtcp_members.specs.storage.Heaps.{no_slot, no_entry, entries_in, entry_in, picked}
use Rattle.rtcp_members.specs.storage.Standing.{MarkStandsBy, StandsBy, AllStandBy, IsUpTo, IsNoLater, RulesOut}

-- ---- Lower bounds

mark_lower : (b c : Bounds) → IsNoLater b c → (mark sending : Option ℕ) → MarkStandsBy c mark sending →
    MarkStandsBy b mark sending
mark_lower b c lower None None h = tt
mark_lower b c lower None (Some sent) h = omega (arith, lower.idle, h)
mark_lower b c lower (Some mark) sending h = omega (arith, lower.gone, h)

stands_lower : (b c : Bounds) → IsNoLater b c → (e : EntryValue) → StandsBy c e → StandsBy b e
stands_lower b c lower e h = (omega (arith, lower.silent, h.0), mark_lower b c lower e.mark e.sending h.1)

pub all_lower : (b c : Bounds) → IsNoLater b c → (entries : List Entry) → AllStandBy c entries → AllStandBy b entries
all_lower b c lower entries all = All-weaker (λ (e : Entry). StandsBy c (entry_value e))
    (λ (e : Entry). StandsBy b (entry_value e)) (λ e h. stands_lower b c lower (entry_value e) h) entries all

pub no_later_still : (a b c : Bounds) → IsNoLater a b → IsNoLater b c → IsNoLater a c
no_later_still a b c first second = record {
  silent = omega (arith, first.silent, second.silent);
  idle = omega (arith, first.idle, second.idle);
  gone = omega (arith, first.gone, second.gone);
}

pub none_later : (a : Bounds) → IsNoLater a a
none_later a = record { silent = omega arith; idle = omega arith; gone = omega arith }

-- ---- A fact

by_counted : (b : Bounds) (counted : Bool) (t : ℕ) (sending : Option ℕ) → b.idle ≤ t → MarkStandsBy b None sending →
    MarkStandsBy b None (if counted then Some t else sending)
by_counted b true t sending up h = up
by_counted b false t sending up h = h

after_by : (b : Bounds) (fact : Fact) (t : ℕ) (valid : Bool) (mark : Option ℕ) (sighting : ℕ)
    (sending : Option ℕ) (source : SourceValue) → IsUpTo b fact t →
    (b.silent ≤ sighting) × MarkStandsBy b mark sending →
    StandsBy b (entry_with_fact fact t
    (record { valid = valid; mark = mark; sighting = sighting; sending = sending; source = source }))
after_by b fact t valid (Some mark) sighting sending source up h = h
after_by b (Gone ssrc) t valid None sighting sending source up h = (h.0, up)
after_by b (Media ssrc seq timestamp octets rate) t valid None sighting sending source up h =
    (up.0, by_counted b _ t sending up.1 h.1)
after_by b fact t valid None sighting sending source up h = (up, h.1)

pub stands_after : (b : Bounds) (fact : Fact) (t : ℕ) (e : EntryValue) → IsUpTo b fact t → StandsBy b e →
    StandsBy b (entry_with_fact fact t e)
stands_after b fact t e up h = after_by b fact t e.valid e.mark e.sighting e.sending e.source up h

-- ---- Lists

abbrev pub stands : Bounds → Entry → Type 0
stands b e = StandsBy b (entry_value e)

pub all_set : (b : Bounds) (entries : List Entry) (at : ℕ) (e : Entry) → AllStandBy b entries →
    StandsBy b (entry_value e) → AllStandBy b (set entries at e)
all_set b entries at e all its = All-set (stands b) entries at e its all

pub stands_there : (b : Bounds) (entries : List Entry) (at : ℕ) (d : Entry) (ssrc : ℕ) → IsRankOf ssrc entries at →
    AllStandBy b entries → StandsBy b (entry_value (slice_index_or entries at d))
stands_there b entries at d ssrc place all = all at d (slice_get_within entries at place.entry place.stands)

-- ---- A check

left_by : (b : Bounds) (silent idle gone : ℕ) → silent ≤ b.silent → idle ≤ b.idle → gone ≤ b.gone →
    (mark sending : Option ℕ) (sighting : ℕ) → b.silent ≤ sighting → MarkStandsBy b mark sending →
    (not (is_none mark && is_before sending idle) && not (nat_lt sighting silent || is_before mark gone)) ≡ true
left_by b silent idle gone s i g None None sighting seen h =
    λ j. not (le-ltb sighting silent (omega (arith, s, seen)) j || false)
left_by b silent idle gone s i g None (Some sent) sighting seen h = λ j. not (le-ltb sent idle (omega (arith, i, h)) j)
    && not (le-ltb sighting silent (omega (arith, s, seen)) j || false)
left_by b silent idle gone s i g (Some mark) sending sighting seen h =
    λ j. not (le-ltb sighting silent (omega (arith, s, seen)) j || le-ltb mark gone (omega (arith, g, h)) j)

-- A check whose horizons do not pass the bounds changes nothing.
pub all_left : (b : Bounds) (horizons : Horizons) (entries : List Entry) → RulesOut horizons entries b →
    list_all (is_left horizons) entries ≡ true
all_left b horizons [] out = refl
all_left b horizons (e ∷ entries) out =
    let its = All-head (stands b) e entries out.stand in
    let one = left_by b horizons.silent horizons.idle horizons.gone out.within.0 out.within.1 out.within.2 (mark_in e)
    (sending_in e) e.sighting its.0 its.1 in
    let rest = all_left b horizons entries
    (record { stand = All-tail (stands b) e entries out.stand; within = out.within }) in
    λ j. one j && rest j

-- One entry more is covered by bounds that are no later.
pub all_covered : (b c : Bounds) → IsNoLater b c → (entries : List Entry) (at : ℕ) (d : Entry) → at < length entries →
    AllStandBy c (take at entries) → StandsBy b (entry_value (slice_index_or entries at d)) →
    AllStandBy b (take (at + 1) entries)
all_covered b c lower entries at d within all its = All-more (stands b) entries at d within
    (all_lower b c lower (take at entries) all) its

-- The entries of all cells stand by the bounds where those of the first do, and those of the rest.
pub all_parts : (b : Bounds) (cells : List Cell) (n : ℕ) → AllStandBy b (entries_in (take n cells)) →
    AllStandBy b (entries_in (drop n cells)) → AllStandBy b (entries_in cells)
all_parts b cells n front back =
    let parts : entries_in (take n cells) ++ entries_in (drop n cells) ≡ entries_in cells =
    sym (map-append (λ (cell : Cell). cell.entry) (take n cells) (drop n cells))
    ∙ ap (λ (c : List Cell). entries_in c) (take-append-drop n cells) in
    subst (AllStandBy b) parts
    (All-append (stands b) (entries_in (take n cells)) (entries_in (drop n cells)) front back)

pub none_stand : (b : Bounds) (cells : List Cell) → true ≡ (length cells == 0) → AllStandBy b (entries_in cells)
none_stand b [] none = All-nil (stands b)
none_stand b (cell ∷ cells) none = absurd (grind (arith, nat_tests))

-- Those that are picked stand by the bounds by which all stand.
pub all_picked : (b : Bounds) (entries : List Entry) (slots : List Slot) →
    All (λ (slot : Slot). slot.place < length entries) slots → AllStandBy b entries →
    AllStandBy b (picked entries slots)
all_picked b entries slots within all k d below =
    let early : k < length slots = omega (arith, below, length-map slots (entry_in entries)) in
    subst (stands b) (sym (get_or-map (entry_in entries) slots k no_slot d early))
    (all (slice_index_or slots k no_slot).place no_entry (within k no_slot early))
