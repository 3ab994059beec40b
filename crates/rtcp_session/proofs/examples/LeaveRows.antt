-- Worked rows: two that leave a session of fifty others together, and send as many BYEs as they may; and what would be
-- wrong of them.
use Rattle.std.proofs.Common.{◌≡◌, ℕ, zero, suc, ◌+◌, ◌*◌, ◌/◌, ◌≤◌, ◌&&◌, ◌^◌, nat_le, List, [], ◌∷◌, length, map, filter, All, Ok, None, Bool, true, refl, arith}
use Rattle.std.specs.List.{list_all}
use Rattle.std.proofs.lemmas.Bool.{and_parts, leb-true}
use Rattle.rtcp_wire.specs.Values.{rr, sdes, bye, ChunkValue}
use Rattle.rtcp_timer.specs.Loads.{with_headers}
use Rattle.rtcp_engine.specs.answers.Acts.{Act, arrived, rtcp, rtp_sent, ticked, left}
use Rattle.rtcp_engine.specs.answers.Reporting.{bye_octets}
use Rattle.rtcp_engine.specs.answers.Leaving.{ByeCompound, leaving_count}
use Rattle.rtcp_engine.specs.state.Taken.{IsHistory}
use Rattle.rtcp_session.specs.Windows.{Joined}
use Rattle.rtcp_session.specs.Crowds.{Terms, HasAtMost, carried_in}
use Rattle.rtcp_session.specs.BackoffByes.{ByeWait, all_bye_waits, bye_during, bye_waits_within, CountsByes, HasByeSizes, ByesAreCounted}
use Rattle.rtcp_session.proofs.examples.CrowdRows.{joined_with, each, stands, is_history, has_at_most, bandwidth_of}

-- a compound that names fifty, as of a mixer
abbrev chunks : ℕ → List ChunkValue
chunks zero = []
chunks (suc n) = record { id = 1000 + n; items = record { kind = 1; text = 97 ∷ [] } ∷ [] } ∷ chunks n

abbrev fifty_came : Act
fifty_came = arrived 100 1 0 (rtcp 808 (Ok (rr 999 [] [] ∷ sdes (chunks 50) ∷ [])))

abbrev bye_came : (moment ssrc : ℕ) → Act
bye_came moment ssrc = arrived moment 1 0 (rtcp 28 (Ok (rr ssrc [] [] ∷ bye (ssrc ∷ []) None ∷ [])))

abbrev first : Joined
first = joined_with 170 (ticked 1456453 0 0 ∷ left 20000 0 ∷ rtp_sent 10000 0 0 ∷ fifty_came ∷ [])

abbrev second : Joined
second = joined_with 187 (ticked 2892905 0 0 ∷ bye_came 1456500 170 ∷ left 20000 (2 ^ 31) ∷ rtp_sent 10000 0 0
    ∷ fifty_came ∷ [])

abbrev both : List Joined
both = first ∷ second ∷ []

abbrev leaving : Terms
leaving = record { sender_bw = 16; receiver_bw = 16; size = 56; percent = 100 }

-- The second counts the BYE of the first, and sends its own when half of twice the interval has passed.
two_leave : map (λ leave. leave.since ∷ leave.until ∷ leaving_count leave.backoff_bye.backoff ∷ []) (all_bye_waits both)
    ≡ (20007 ∷ 1456460 ∷ 1 ∷ []) ∷ (20007 ∷ 2892912 ∷ 2 ∷ []) ∷ []
two_leave = refl

as_many_as_may : length (bye_waits_within 20007 2872905 both) ≡ 2
as_many_as_may = refl

room_for_two : carried_in 2872905 16 leaving ≡ 2
room_for_two = refl

-- ---- By a test that computes

module _ (terms : Terms) (from width : ℕ) (all : List Joined) where
  abbrev leaves : List ByeWait
  leaves = bye_waits_within from width all

  abbrev counts : ByeWait → Bool
  counts leave = nat_le (100 * length (filter (bye_during leave) leaves))
      (terms.percent * leaving_count leave.backoff_bye.backoff)

  counted : list_all counts leaves ≡ true → All (CountsByes terms.percent leaves) leaves
  counted = each counts (CountsByes terms.percent leaves)
      (λ leave. leb-true (100 * length (filter (bye_during leave) leaves))
      (terms.percent * leaving_count leave.backoff_bye.backoff))
      leaves

  abbrev is_large : (size : ℕ) → Bool
  is_large size = nat_le terms.size (with_headers size)

  abbrev are_large : ByeWait → Bool
  are_large leave = is_large (length (bye_octets leave.backoff_bye.setup))
      && list_all (λ bye_compound. is_large bye_compound.size) leave.backoff_bye.backoff.bye_compounds

  large : list_all are_large leaves ≡ true → All (HasByeSizes terms.size) leaves
  large = each are_large (HasByeSizes terms.size)
      (λ leave is.
      let own = length (bye_octets leave.backoff_bye.setup) in
      let parts = and_parts (is_large own) (list_all (λ bye_compound. is_large bye_compound.size)
      leave.backoff_bye.backoff.bye_compounds) is in
      record {
        own = leb-true terms.size (with_headers own) parts.0;
        sizes = each (λ (bye_compound : ByeCompound). is_large bye_compound.size)
            (λ (bye_compound : ByeCompound). terms.size ≤ with_headers bye_compound.size)
            (λ bye_compound. leb-true terms.size (with_headers bye_compound.size))
            leave.backoff_bye.backoff.bye_compounds parts.1;
      }) leaves

  abbrev within_bandwidth : ByeWait → Bool
  within_bandwidth leave = has_at_most terms leave.backoff_bye.setup

  bounded : list_all within_bandwidth leaves ≡ true → All (λ leave. HasAtMost terms leave.backoff_bye.setup) leaves
  bounded = each within_bandwidth (λ (leave : ByeWait). HasAtMost terms leave.backoff_bye.setup)
      (λ leave. bandwidth_of terms leave.backoff_bye.setup) leaves

  stand : list_all (λ joined. is_history joined.history) all ≡ true → All (λ joined. IsHistory joined.history) all
  stand = each (λ (joined : Joined). is_history joined.history) (λ (joined : Joined). IsHistory joined.history)
      (λ joined. stands joined.history) all

  leaves_counted : (list_all (λ joined. is_history joined.history) all && list_all within_bandwidth leaves
      && (list_all are_large leaves && list_all counts leaves))
      ≡ true → ByesAreCounted terms from width all
  leaves_counted is =
      let whole = and_parts (list_all (λ joined. is_history joined.history) all && list_all within_bandwidth leaves)
      (list_all are_large leaves && list_all counts leaves) is in
      let parts = and_parts (list_all (λ joined. is_history joined.history) all) (list_all within_bandwidth leaves)
      whole.0 in
      let more = and_parts (list_all are_large leaves) (list_all counts leaves) whole.1 in
      record {
        stand = stand parts.0;
        bandwidth = bounded parts.1;
        sizes = large more.0;
        counted = counted more.1;
      }

-- ---- What would be wrong

less_of_leaves : ((terms : Terms) (from width : ℕ) (all : List Joined) → 1 ≤ terms.size →
    ByesAreCounted terms from width all → length (bye_waits_within from width all)
    ≤ terms.percent * (243655 * width * terms.receiver_bw) / (100 * 100000 * 1000000 * terms.size)) → ⊥
less_of_leaves law =
    let one : length (bye_waits_within 20007 2872905 both) ≤ 1 =
    law leaving 20007 2872905 both (omega arith) (leaves_counted leaving 20007 2872905 both refl) in
    omega (arith, one, as_many_as_may)

-- Two that do not hear of each other send theirs at once.
abbrev deaf : Joined
deaf = joined_with 187 (ticked 1456453 0 0 ∷ left 20000 0 ∷ rtp_sent 10000 0 0 ∷ fifty_came ∷ [])

abbrev both_deaf : List Joined
both_deaf = first ∷ deaf ∷ []

abbrev one_in_two : Terms
one_in_two = record leaving { percent = 200 }

two_deaf : length (bye_waits_within 20007 1436453 both_deaf) ≡ 2
two_deaf = refl

leaves_as_if_counted : ((terms : Terms) (from width : ℕ) (all : List Joined) → 1 ≤ terms.size →
    ByesAreCounted terms from width all → length (bye_waits_within from width all)
    ≤ carried_in width terms.receiver_bw (record terms { percent = 100 })) → ⊥
leaves_as_if_counted law =
    let one : length (bye_waits_within 20007 1436453 both_deaf) ≤ 1 =
    law one_in_two 20007 1436453 both_deaf (omega arith) (leaves_counted one_in_two 20007 1436453 both_deaf refl) in
    omega (arith, one, two_deaf)

uncounted_leaves : ((terms : Terms) (from width : ℕ) (all : List Joined) → 1 ≤ terms.size →
    All (λ joined. IsHistory joined.history) all →
    All (λ leave. HasAtMost terms leave.backoff_bye.setup) (bye_waits_within from width all) →
    All (HasByeSizes terms.size) (bye_waits_within from width all) →
    length (bye_waits_within from width all) ≤ carried_in width terms.receiver_bw terms) → ⊥
uncounted_leaves law =
    let one : length (bye_waits_within 20007 1436453 both_deaf) ≤ 1 =
    law leaving 20007 1436453 both_deaf (omega arith) (stand leaving 0 0 both_deaf refl)
    (bounded leaving 20007 1436453 both_deaf refl) (large leaving 20007 1436453 both_deaf refl) in
    omega (arith, one, two_deaf)

leaves_of_any_size : ((terms : Terms) (from width : ℕ) (all : List Joined) → 1 ≤ terms.size →
    All (λ joined. IsHistory joined.history) all →
    All (λ leave. HasAtMost terms leave.backoff_bye.setup) (bye_waits_within from width all) →
    All (CountsByes terms.percent (bye_waits_within from width all)) (bye_waits_within from width all) →
    length (bye_waits_within from width all) ≤ carried_in width terms.receiver_bw terms) → ⊥
leaves_of_any_size law =
    let none : length (bye_waits_within 20007 2872905 both) ≤ 0 =
    law (record leaving { size = 560 }) 20007 2872905 both (omega arith)
    (stand (record leaving { size = 560 }) 0 0 both refl)
    (bounded (record leaving { size = 560 }) 20007 2872905 both refl) (counted leaving 20007 2872905 both refl) in
    omega (arith, none, as_many_as_may)

leaves_of_any_bandwidth : ((terms : Terms) (from width : ℕ) (all : List Joined) → 1 ≤ terms.size →
    All (λ joined. IsHistory joined.history) all → All (HasByeSizes terms.size) (bye_waits_within from width all) →
    All (CountsByes terms.percent (bye_waits_within from width all)) (bye_waits_within from width all) →
    length (bye_waits_within from width all) ≤ carried_in width terms.receiver_bw terms) → ⊥
leaves_of_any_bandwidth law =
    let one : length (bye_waits_within 20007 2872905 both) ≤ 1 =
    law (record leaving { receiver_bw = 15 }) 20007 2872905 both (omega arith) (stand leaving 0 0 both refl)
    (large leaving 20007 2872905 both refl) (counted leaving 20007 2872905 both refl) in
    omega (arith, one, as_many_as_may)
