-- Worked rows: two that join a session together, and report for the first time as soon as they may; and what would be
-- wrong of them.
use Rattle.std.proofs.Common.{◌≡◌, ℕ, ◌+◌, ◌*◌, ◌/◌, ◌≤◌, ◌&&◌, nat_le, List, [], ◌∷◌, length, map, filter, All, Bool, true, false, refl, arith}
use Rattle.std.specs.List.{list_all}
use Rattle.std.proofs.lemmas.Bool.{and_parts, leb-true}
use Rattle.std.proofs.lemmas.List.Elements.{All-nil}
use Rattle.rtcp_engine.specs.answers.Acts.{ticked}
use Rattle.rtcp_session.specs.Windows.{load_at, Joined}
use Rattle.rtcp_session.specs.Crowds.{alike_in, Terms, total_reports, carried_in}
use Rattle.rtcp_session.specs.Waits.{Wait, all_waits, waits_as, rtcp_bw, HasBandwidth, IsCounted, HasAverage}
use Rattle.rtcp_session.specs.Joins.{joins_within, reports_during, CountsJoining, JoinsAreCounted}
use Rattle.rtcp_session.proofs.examples.CrowdRows.{named_came, joined_with, terms, pair, each}
use Rattle.rtcp_session.proofs.examples.WaitRows.{goes_by, bandwidths, counted_of}

-- the first to report, and one that hears it
abbrev early : Joined
early = joined_with 170 (ticked 1231245 0 0 ∷ [])

abbrev hears_early : Joined
hears_early = joined_with 187 (ticked 2462489 0 0 ∷ named_came 1231300 170 ∷ [])

abbrev both : List Joined
both = early ∷ hears_early ∷ []

two_join : map (λ join. join.since ∷ join.until ∷ (load_at join.next).members ∷ []) (joins_within 7 2462489 both)
    ≡ (7 ∷ 1231252 ∷ 1 ∷ []) ∷ (7 ∷ 2462496 ∷ 2 ∷ []) ∷ []
two_join = refl

-- The first counts itself alone, and no other has reported.
as_many_as_may : length (waits_as false (joins_within 7 2462489 both)) ≡ 2
as_many_as_may = refl

room_for_two : carried_in 2462489 16 terms ≡ 2
room_for_two = refl

-- ---- By a test that computes

module _ (terms : Terms) (from width : ℕ) (all : List Joined) where
  abbrev joins : List Wait
  joins = joins_within from width all

  abbrev counts : Wait → Bool
  counts join = nat_le (100 * length (filter (reports_during join) (waits_as (load_at join.next).we_sent joins)))
      (terms.percent * alike_in (load_at join.next))

  abbrev is_large : Wait → Bool
  is_large join = nat_le (256 * terms.size) (load_at join.next).avg

  large : list_all is_large joins ≡ true → All (HasAverage terms.size) joins
  large = each is_large (HasAverage terms.size) (λ join. leb-true (256 * terms.size) (load_at join.next).avg) joins

  counted : list_all counts joins ≡ true → All (CountsJoining terms.percent joins) joins
  counted =
      each counts (CountsJoining terms.percent joins)
      (λ join. leb-true (100 * length (filter (reports_during join) (waits_as (load_at join.next).we_sent joins)))
      (terms.percent * alike_in (load_at join.next))) joins

  joins_counted : (list_all (goes_by terms from width all) all && (list_all is_large joins && list_all counts joins))
      ≡ true → JoinsAreCounted terms from width all
  joins_counted is =
      let parts = and_parts (list_all (goes_by terms from width all) all)
      (list_all is_large joins && list_all counts joins) is in
      let more = and_parts (list_all is_large joins) (list_all counts joins) parts.1 in
      record {
        each = bandwidths terms from width all parts.0;
        averages = large more.0;
        counted = counted more.1;
      }

-- ---- What would be wrong

less_of_joins : ((terms : Terms) (from width : ℕ) (all : List Joined) → 1 ≤ terms.size →
    JoinsAreCounted terms from width all → length (waits_as false (joins_within from width all))
    ≤ terms.percent * (243655 * width * terms.receiver_bw) / (100 * 100000 * 1000000 * terms.size)) → ⊥
less_of_joins law =
    let one : length (waits_as false (joins_within 7 2462489 both)) ≤ 1 =
    law terms 7 2462489 both (omega arith) (joins_counted terms 7 2462489 both refl) in
    omega (arith, one, as_many_as_may)

-- Two that do not hear of each other report at once.
abbrev both_deaf : List Joined
both_deaf = early ∷ joined_with 187 (ticked 1231245 0 0 ∷ []) ∷ []

abbrev one_in_two : Terms
one_in_two = record terms { percent = 200 }

two_deaf : length (waits_as false (joins_within 7 1231245 both_deaf)) ≡ 2
two_deaf = refl

joins_as_if_counted : ((terms : Terms) (from width : ℕ) (all : List Joined) → 1 ≤ terms.size →
    JoinsAreCounted terms from width all → length (waits_as false (joins_within from width all))
    ≤ carried_in width terms.receiver_bw (record terms { percent = 100 })) → ⊥
joins_as_if_counted law =
    let one : length (waits_as false (joins_within 7 1231245 both_deaf)) ≤ 1 =
    law one_in_two 7 1231245 both_deaf (omega arith) (joins_counted one_in_two 7 1231245 both_deaf refl) in
    omega (arith, one, two_deaf)

uncounted_joins : ((terms : Terms) (from width : ℕ) (all : List Joined) → 1 ≤ terms.size →
    All (HasBandwidth terms) all → All (HasAverage terms.size) (joins_within from width all) →
    length (waits_as false (joins_within from width all)) ≤ carried_in width terms.receiver_bw terms) → ⊥
uncounted_joins law =
    let one : length (waits_as false (joins_within 7 1231245 both_deaf)) ≤ 1 =
    law terms 7 1231245 both_deaf (omega arith) (bandwidths terms 0 0 both_deaf refl)
    (large terms 7 1231245 both_deaf refl) in
    omega (arith, one, two_deaf)

joins_of_any_average : ((terms : Terms) (from width : ℕ) (all : List Joined) → 1 ≤ terms.size →
    All (HasBandwidth terms) all →
    All (CountsJoining terms.percent (joins_within from width all)) (joins_within from width all) →
    length (waits_as false (joins_within from width all)) ≤ carried_in width terms.receiver_bw terms) → ⊥
joins_of_any_average law =
    let none : length (waits_as false (joins_within 7 2462489 both)) ≤ 0 =
    law (record terms { size = 480 }) 7 2462489 both (omega arith)
    (bandwidths (record terms { size = 480 }) 0 0 both refl) (counted terms 7 2462489 both refl) in
    omega (arith, none, as_many_as_may)

joins_of_any_bandwidth : ((terms : Terms) (from width : ℕ) (all : List Joined) → 1 ≤ terms.size →
    All (HasAverage terms.size) (joins_within from width all) →
    All (CountsJoining terms.percent (joins_within from width all)) (joins_within from width all) →
    length (waits_as false (joins_within from width all)) ≤ carried_in width terms.receiver_bw terms) → ⊥
joins_of_any_bandwidth law =
    let one : length (waits_as false (joins_within 7 2462489 both)) ≤ 1 =
    law (record terms { receiver_bw = 15 }) 7 2462489 both (omega arith) (large terms 7 2462489 both refl)
    (counted terms 7 2462489 both refl) in
    omega (arith, one, as_many_as_may)

-- One report of each that began before a window may come in it at once.
none_of_before : ((terms : Terms) (from width : ℕ) (all : List Joined) → 1 ≤ terms.size →
    IsCounted terms from width all → All (HasAverage terms.size) (all_waits from width all)
    → JoinsAreCounted terms from width all → total_reports from width all
    ≤ carried_in width (rtcp_bw terms) terms + (carried_in width (rtcp_bw terms) terms
    + carried_in width terms.receiver_bw terms)) → ⊥
none_of_before law =
    let none : total_reports 2462496 0 pair ≤ 0 = law terms 2462496 0 pair (omega arith)
    (counted_of terms 2462496 0 pair refl) (All-nil (HasAverage 48)) (joins_counted terms 2462496 0 pair refl) in
    let two : total_reports 2462496 0 pair ≡ 2 = refl in
    omega (arith, none, two)
