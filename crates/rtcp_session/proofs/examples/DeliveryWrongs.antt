-- What would be wrong of sessions whose compounds come within a delay: each statement here is a law with a number moved
-- or a premise left out, and there is a session, or a trace, where it does not hold.
use Rattle.std.proofs.Common.{◌≡◌, ◌==◌, ℕ, ◌+◌, ◌-◌, ◌*◌, ◌<◌, ◌≤◌, ◌&&◌, not, List, [], ◌∷◌, nat_le, length, All, Contains, Bool, true, false, None, Ok, refl, arith}
use Rattle.std.specs.List.{AllPairs}
use Rattle.std.proofs.lemmas.Bool.{and_parts, both_ways, leb-true}
use Rattle.std.proofs.lemmas.List.Elements.{All-head, All-map, All-weaker}
use Rattle.rtcp_wire.specs.declared.fact.Fact.TheVariants.{Heard, Named, Gone, Media}
use Rattle.rtcp_wire.specs.Values.{RtcpPacket, rr, sdes, bye}
use Rattle.rtcp_wire.specs.Facts.{facts_of}
use Rattle.rtcp_members.specs.Traces.{TraceStep, fact_came, check_made, horizons_at}
use Rattle.rtcp_members.specs.Lasting.{says_bye}
use Rattle.rtcp_members.specs.Entries.{entry_at, is_member, is_sender, is_such}
use Rattle.rtcp_engine.specs.answers.Acts.{Act, arrived, rtcp, ticked}
use Rattle.rtcp_engine.specs.state.Taken.{IsHistory}
use Rattle.rtcp_engine.specs.answers.Histories.{History}
use Rattle.rtcp_session.specs.Windows.{Joined, Decided, decided_at, load_at}
use Rattle.rtcp_session.specs.Crowds.{total_reports, Terms}
use Rattle.rtcp_session.specs.Waits.{Wait, all_waits, averages_of, rtcp_bw, waits_as, HasBandwidth, HasAverage}
use Rattle.rtcp_session.specs.Deliveries.{least_wait, carried_after, IsCountedAfter, is_named_in, pasts_of, has_room, is_dropped, IsKept, KnowEachOther, IsDelivered}
use Rattle.rtcp_session.proofs.examples.CrowdRows.{setup_of, named_came, joined_with, terms, pair, stands, each}
use Rattle.rtcp_session.proofs.examples.WaitRows.{bandwidths, average_of_pair, unaware, average_of_unaware}
use Rattle.rtcp_session.proofs.examples.WrongRows.{who_is_deaf, four, one_in_four}
use Rattle.rtcp_session.proofs.examples.DeliveryRows.{not_so, comes, HeardBefore, comes_of, has_room_for, never_drops_it, takes_no_bye_of, keeps, differs, knows_role, room_of, never_dropped_of, no_bye_of, kept_of, role_of, EachOther, each_two_of, delivered_of, counted_after_of}

-- ---- Members

-- For the only source that there is room for another is not,
abbrev two_named : List TraceStep
two_named = fact_came (Named 2) 200 ∷ fact_came (Named 1) 100 ∷ []

without_room : ((capacity ssrc : ℕ) (trace : List TraceStep) → is_named_in ssrc trace ≡ true →
    All (λ past. is_dropped capacity ssrc past ≡ false) (pasts_of trace) →
    All (λ step. says_bye ssrc step ≡ false) trace →
    is_such is_member (entry_at capacity trace ssrc) ≡ true) → ⊥
without_room law =
    both_ways (is_such is_member (entry_at 1 two_named 2)) refl
    (law 1 2 two_named refl (never_dropped_of 1 2 two_named refl) (no_bye_of 2 two_named refl))

-- one that is silent for too long is none,
abbrev fell_silent : List TraceStep
fell_silent = check_made (horizons_at 1000 1000 0) ∷ fact_came (Named 1) 100 ∷ []

without_hearing : ((capacity ssrc : ℕ) (trace : List TraceStep) → is_named_in ssrc trace ≡ true →
    All (λ past. has_room capacity ssrc past ≡ true) (pasts_of trace) →
    All (λ step. says_bye ssrc step ≡ false) trace →
    is_such is_member (entry_at capacity trace ssrc) ≡ true) → ⊥
without_hearing law =
    both_ways (is_such is_member (entry_at 8 fell_silent 1)) refl
    (law 8 1 fell_silent refl (room_of 8 1 fell_silent refl) (no_bye_of 1 fell_silent refl))

-- nor one that sent a BYE,
abbrev said_bye : List TraceStep
said_bye = fact_came (Gone 1) 200 ∷ fact_came (Named 1) 100 ∷ []

without_staying : ((capacity ssrc : ℕ) (trace : List TraceStep) → is_named_in ssrc trace ≡ true →
    All (λ past. has_room capacity ssrc past ≡ true) (pasts_of trace) →
    All (λ past. is_dropped capacity ssrc past ≡ false) (pasts_of trace) →
    is_such is_member (entry_at capacity trace ssrc) ≡ true) → ⊥
without_staying law =
    both_ways (is_such is_member (entry_at 8 said_bye 1)) refl
    (law 8 1 said_bye refl (room_of 8 1 said_bye refl) (never_dropped_of 8 1 said_bye refl))

-- nor one that was only heard.
abbrev only_heard : List TraceStep
only_heard = fact_came (Heard 1) 100 ∷ []

without_name : ((capacity ssrc : ℕ) (trace : List TraceStep) → IsKept capacity ssrc trace →
    is_such is_member (entry_at capacity trace ssrc) ≡ true) → ⊥
without_name law =
    both_ways (is_such is_member (entry_at 8 only_heard 1)) refl
    (law 8 1 only_heard (record {
      room = room_of 8 1 only_heard refl;
      never_silent = never_dropped_of 8 1 only_heard refl;
      no_bye = no_bye_of 1 only_heard refl;
    }))

-- Two packets in a row make a sender.
abbrev two_packets : List TraceStep
two_packets = fact_came (Media 1 10 0 20 8000) 200 ∷ fact_came (Media 1 9 0 20 8000) 100 ∷ []

without_rtp : ((capacity ssrc : ℕ) (trace : List TraceStep) →
    is_such is_sender (entry_at capacity trace ssrc) ≡ false) → ⊥
without_rtp law = both_ways (is_such is_sender (entry_at 8 two_packets 1)) (law 8 1 two_packets) refl

-- A compound that comes at the moment of a report, and after it, is not known to it.
abbrev just_after : History
just_after = (joined_with 170 (named_came 2462489 187 ∷ ticked 2462489 0 0 ∷ [])).history

abbrev from_187 : List RtcpPacket
from_187 = rr 187 [] [] ∷ sdes (record { id = 187; items = record { kind = 1; text = 97 ∷ [] } ∷ [] } ∷ []) ∷ []

at_the_moment : ((history : History) (ssrc at peer word size : ℕ) (packets : List RtcpPacket) →
    IsHistory history → Contains history.acts (arrived at peer word (rtcp size (Ok packets))) →
    Contains (facts_of packets) (Named ssrc) →
    All (λ decided. at ≤ decided.report.moment → is_named_in ssrc decided.outcome.trace ≡ true)
    (decided_at history)) → ⊥
at_the_moment law =
    let known : All (λ decided. 2462489 ≤ decided.report.moment → is_named_in 187 decided.outcome.trace ≡ true)
    (decided_at just_after) =
    law just_after 187 2462489 1 0 20 from_187 (stands just_after refl) (0, omega arith, refl) (2, omega arith, refl) in
    let misses : Decided → Bool = λ (decided : Decided). nat_le 2462489 decided.report.moment
    && not (is_named_in 187 decided.outcome.trace) in
    let all : All (λ missed. missed ≡ false) (true ∷ []) =
    All-map (λ (missed : Bool). missed ≡ false) misses (decided_at just_after)
    (All-weaker (λ (decided : Decided). 2462489 ≤ decided.report.moment →
    is_named_in 187 decided.outcome.trace ≡ true) (λ (decided : Decided). misses decided ≡ false)
    (λ decided. none decided.report.moment (is_named_in 187 decided.outcome.trace)) (decided_at just_after) known) in
    both_ways true (All-head (λ (missed : Bool). missed ≡ false) true [] all) refl
  where
    none : (moment : ℕ) (known : Bool) → (2462489 ≤ moment → known ≡ true) →
        (nat_le 2462489 moment && not known) ≡ false
    none moment true h = by (nat_le 2462489 moment)
      where
        by : (b : Bool) → (b && false) ≡ false
        by true = refl
        by false = refl
    none moment false h = by (nat_le 2462489 moment) refl
      where
        by : (b : Bool) → nat_le 2462489 moment ≡ b → (b && true) ≡ false
        by true is = absurd (let wrong = h (leb-true 2462489 moment is) in cc)
        by false is = refl

-- ---- A delay

deaf_are_counted : IsCountedAfter 0 one_in_four 0 11491622 four
deaf_are_counted = counted_after_of 0 one_in_four 0 11491622 four refl

stretched_as_if_counted : ((delay : ℕ) (terms : Terms) (from width : ℕ) (all : List Joined) → delay < least_wait →
    IsCountedAfter delay terms from width all →
    (least_wait - delay) * (100 * 100000 * 1000000 * averages_of (all_waits from width all))
    ≤ least_wait * (100 * (2 * 121828 * width * (256 * rtcp_bw terms)))) → ⊥
stretched_as_if_counted law =
    let fits = law 0 one_in_four 0 11491622 four (omega arith) deaf_are_counted in
    let its : averages_of (all_waits 0 11491622 four) ≡ 245760 = refl in
    omega (arith, fits, its)

-- Four that hear nobody, of which no two ever wait for more than two seconds.
abbrev after : (begins : ℕ) → Joined → Joined
after begins joined = record joined { start = begins }

abbrev staggered : List Joined
staggered = after 7 (who_is_deaf 1) ∷ after 100007 (who_is_deaf 2) ∷ after 200007 (who_is_deaf 3)
    ∷ after 300007 (who_is_deaf 4) ∷ []

staggered_are_delivered : IsDelivered 2000000 terms 0 11791622 staggered
staggered_are_delivered = delivered_of 2000000 terms 0 11791622 staggered (omega arith) refl

-- They need the time that a delay adds,
unstretched : ((delay : ℕ) (terms : Terms) (from width : ℕ) (all : List Joined) →
    IsDelivered delay terms from width all →
    100000 * 1000000 * averages_of (all_waits from width all) ≤ 2 * 121828 * width * (256 * rtcp_bw terms)) → ⊥
unstretched law =
    let fits = law 2000000 terms 0 11791622 staggered staggered_are_delivered in
    let its : averages_of (all_waits 0 11791622 staggered) ≡ 245760 = refl in
    omega (arith, fits, its)

-- and a pair needs all of 243,656: without a delay less than one part in 2,000,000 of the bound is left.
less_of_delivered : ((delay : ℕ) (terms : Terms) (from width : ℕ) (all : List Joined) →
    IsDelivered delay terms from width all →
    (least_wait - delay) * (100000 * 1000000 * averages_of (waits_as false (all_waits from width all)))
    ≤ least_wait * (243655 * width * (256 * terms.receiver_bw))) → ⊥
less_of_delivered law =
    let fits = law 0 terms 2462496 2462489 pair (delivered_of 0 terms 2462496 2462489 pair (omega arith) refl) in
    let its : averages_of (waits_as false (all_waits 2462496 2462489 pair)) ≡ 24576 = average_of_pair in
    omega (arith, fits, its)

a_little_less : ((delay : ℕ) (terms : Terms) (from width : ℕ) (all : List Joined) →
    IsDelivered delay terms from width all →
    (least_wait - delay) * (100000 * 1000000 * averages_of (waits_as false (all_waits from width all)))
    ≤ 2052073 * (2 * 121828 * width * (256 * terms.receiver_bw))) → ⊥
a_little_less law =
    let fits = law 0 terms 2462496 2462489 pair (delivered_of 0 terms 2462496 2462489 pair (omega arith) refl) in
    let its : averages_of (waits_as false (all_waits 2462496 2462489 pair)) ≡ 24576 = average_of_pair in
    omega (arith, fits, its)

-- With a delay of 2,052,074 microseconds the divisor is 0, and so is the quotient.
not_soon : ((delay : ℕ) (terms : Terms) (from width : ℕ) (all : List Joined) → 1 ≤ terms.size →
    IsCountedAfter delay terms from width all → All (HasAverage terms.size) (all_waits from width all) →
    total_reports from width all ≤ length all + carried_after delay width (rtcp_bw terms) terms) → ⊥
not_soon law =
    let bound : total_reports 2462496 2462489 pair ≤ 2 =
    law 2052074 terms 2462496 2462489 pair (omega arith) (counted_after_of 2052074 terms 2462496 2462489 pair refl)
    (each (λ (wait : Wait). nat_le (256 * 48) (load_at wait.next).avg) (HasAverage 48)
    (λ wait. leb-true (256 * 48) (load_at wait.next).avg) (all_waits 2462496 2462489 pair) refl) in
    let its : total_reports 2462496 2462489 pair ≡ 4 = refl in
    omega (arith, bound, its)

-- ---- A premise left out

-- what is asked of two that wait, but that each has heard of the other,
record Unheard (joined : Joined) (wait its : Wait) : Type 0 where
  kept : IsKept wait.next.setup.capacity its.next.setup.ssrc wait.next.outcome.trace
  apart : (its.next.setup.ssrc == wait.next.setup.ssrc) ≡ false
  role : (load_at its.next).we_sent ≡ (load_at wait.next).we_sent →
      is_such is_sender (entry_at wait.next.setup.capacity wait.next.outcome.trace
      its.next.setup.ssrc) ≡ (load_at wait.next).we_sent

unheard_of : (joined : Joined) (wait its : Wait) →
    (keeps wait its && (differs wait its && knows_role wait its)) ≡ true → Unheard joined wait its
unheard_of joined wait its is =
    let parts = and_parts (keeps wait its) (differs wait its && knows_role wait its) is in
    let more = and_parts (differs wait its) (knows_role wait its) parts.1 in
    record {
      kept = kept_of wait its parts.0;
      apart = not_so (its.next.setup.ssrc == wait.next.setup.ssrc) more.0;
      role = role_of wait its more.1;
    }

without_coming : ((delay : ℕ) (terms : Terms) (from width : ℕ) (all : List Joined) → delay < least_wait →
    All (HasBandwidth terms) all → AllPairs (EachOther Unheard delay from width) all →
    (least_wait - delay) * (100000 * 1000000 * averages_of (all_waits from width all))
    ≤ least_wait * (2 * 121828 * width * (256 * rtcp_bw terms))) → ⊥
without_coming law =
    let fits = law 0 terms 0 11491622 four (omega arith) (bandwidths terms 0 0 four refl)
    (each_two_of Unheard (λ joined wait its. keeps wait its && (differs wait its && knows_role wait its)) unheard_of 0 0
    11491622 four refl) in
    let its : averages_of (all_waits 0 11491622 four) ≡ 245760 = refl in
    omega (arith, fits, its)

-- but that each keeps the other: four hear all the others, and have room for one of them,
record Unkept (joined : Joined) (wait its : Wait) : Type 0 where
  heard : HeardBefore joined wait its
  apart : (its.next.setup.ssrc == wait.next.setup.ssrc) ≡ false
  role : (load_at its.next).we_sent ≡ (load_at wait.next).we_sent →
      is_such is_sender (entry_at wait.next.setup.capacity wait.next.outcome.trace
      its.next.setup.ssrc) ≡ (load_at wait.next).we_sent

abbrev unkept : Joined → (wait its : Wait) → Bool
unkept joined wait its = comes joined wait its && (differs wait its && knows_role wait its)

unkept_of : (joined : Joined) (wait its : Wait) → unkept joined wait its ≡ true → Unkept joined wait its
unkept_of joined wait its is =
    let parts = and_parts (comes joined wait its) (differs wait its && knows_role wait its) is in
    let more = and_parts (differs wait its) (knows_role wait its) parts.1 in
    record {
      heard = comes_of joined wait its parts.0;
      apart = not_so (its.next.setup.ssrc == wait.next.setup.ssrc) more.0;
      role = role_of wait its more.1;
    }

abbrev with_room_for_one : (ssrc one another third : ℕ) → Joined
with_room_for_one ssrc one another third = record {
  history = record {
    setup = record (setup_of ssrc) { capacity = 1 };
    word = 0;
    acts = ticked 4924978 0 0 ∷ ticked 2462489 0 0 ∷ named_came 120 third ∷ named_came 110 another
        ∷ named_came 100 one ∷ [];
  };
  start = 7;
}

abbrev with_little_room : List Joined
with_little_room = with_room_for_one 1 2 3 4 ∷ with_room_for_one 2 3 4 1 ∷ with_room_for_one 3 4 1 2
    ∷ with_room_for_one 4 1 2 3 ∷ []

without_keeping : ((delay : ℕ) (terms : Terms) (from width : ℕ) (all : List Joined) → delay < least_wait →
    All (HasBandwidth terms) all → AllPairs (EachOther Unkept delay from width) all →
    (least_wait - delay) * (100000 * 1000000 * averages_of (waits_as false (all_waits from width all)))
    ≤ least_wait * (2 * 121828 * width * (256 * terms.receiver_bw))) → ⊥
without_keeping law =
    let fits = law 0 terms 2462496 2462489 with_little_room (omega arith) (bandwidths terms 0 0 with_little_room refl)
    (each_two_of Unkept unkept unkept_of 0 2462496 2462489 with_little_room refl) in
    let its : averages_of (waits_as false (all_waits 2462496 2462489 with_little_room)) ≡ 49152 = refl in
    omega (arith, fits, its)

-- but that each never dropped the other: four hear all the others, and then for 99 seconds nobody but one of them,
record Dropped (joined : Joined) (wait its : Wait) : Type 0 where
  rest : Unkept joined wait its
  room : All (λ past. has_room wait.next.setup.capacity its.next.setup.ssrc past ≡ true)
      (pasts_of wait.next.outcome.trace)
  no_bye : All (λ step. says_bye its.next.setup.ssrc step ≡ false) wait.next.outcome.trace

abbrev dropped : Joined → (wait its : Wait) → Bool
dropped joined wait its = unkept joined wait its && (has_room_for wait its && takes_no_bye_of wait its)

dropped_of : (joined : Joined) (wait its : Wait) → dropped joined wait its ≡ true → Dropped joined wait its
dropped_of joined wait its is =
    let parts = and_parts (unkept joined wait its) (has_room_for wait its && takes_no_bye_of wait its) is in
    let more = and_parts (has_room_for wait its) (takes_no_bye_of wait its) parts.1 in
    record {
      rest = unkept_of joined wait its parts.0;
      room = room_of wait.next.setup.capacity its.next.setup.ssrc wait.next.outcome.trace more.0;
      no_bye = no_bye_of its.next.setup.ssrc wait.next.outcome.trace more.1;
    }

abbrev drops_two : (ssrc one another third : ℕ) → Joined
drops_two ssrc one another third =
    joined_with ssrc (ticked 102462489 0 0 ∷ ticked 100000000 0 0 ∷ named_came 99000000 third ∷ named_came 120 third
    ∷ named_came 110 another ∷ named_came 100 one ∷ [])

abbrev each_drops_two : List Joined
each_drops_two = drops_two 1 2 3 4 ∷ drops_two 2 3 4 1 ∷ drops_two 3 4 1 2 ∷ drops_two 4 1 2 3 ∷ []

without_holding : ((delay : ℕ) (terms : Terms) (from width : ℕ) (all : List Joined) → delay < least_wait →
    All (HasBandwidth terms) all → AllPairs (EachOther Dropped delay from width) all →
    (least_wait - delay) * (100000 * 1000000 * averages_of (waits_as false (all_waits from width all)))
    ≤ least_wait * (2 * 121828 * width * (256 * terms.receiver_bw))) → ⊥
without_holding law =
    let fits = law 0 terms 100000007 2462489 each_drops_two (omega arith) (bandwidths terms 0 0 each_drops_two refl)
    (each_two_of Dropped dropped dropped_of 0 100000007 2462489 each_drops_two refl) in
    let its : averages_of (waits_as false (all_waits 100000007 2462489 each_drops_two)) ≡ 49152 = refl in
    omega (arith, fits, its)

-- but that each took no BYE of the other: four hear all the others, and then a BYE of two of them,
record TookBye (joined : Joined) (wait its : Wait) : Type 0 where
  rest : Unkept joined wait its
  room : All (λ past. has_room wait.next.setup.capacity its.next.setup.ssrc past ≡ true)
      (pasts_of wait.next.outcome.trace)
  never_silent : All (λ past. is_dropped wait.next.setup.capacity its.next.setup.ssrc past ≡ false)
      (pasts_of wait.next.outcome.trace)

abbrev took_bye : Joined → (wait its : Wait) → Bool
took_bye joined wait its = unkept joined wait its && (has_room_for wait its && never_drops_it wait its)

took_bye_of : (joined : Joined) (wait its : Wait) → took_bye joined wait its ≡ true → TookBye joined wait its
took_bye_of joined wait its is =
    let parts = and_parts (unkept joined wait its) (has_room_for wait its && never_drops_it wait its) is in
    let more = and_parts (has_room_for wait its) (never_drops_it wait its) parts.1 in
    record {
      rest = unkept_of joined wait its parts.0;
      room = room_of wait.next.setup.capacity its.next.setup.ssrc wait.next.outcome.trace more.0;
      never_silent = never_dropped_of wait.next.setup.capacity its.next.setup.ssrc wait.next.outcome.trace more.1;
    }

abbrev bye_came : (moment ssrc : ℕ) → Act
bye_came moment ssrc = arrived moment 1 0 (rtcp 20 (Ok (rr ssrc [] [] ∷ bye (ssrc ∷ []) None ∷ [])))

abbrev takes_two_byes : (ssrc one another third : ℕ) → Joined
takes_two_byes ssrc one another third =
    joined_with ssrc (ticked 4924978 0 0 ∷ ticked 2462489 0 0 ∷ bye_came 140 another ∷ bye_came 130 one
    ∷ named_came 120 third ∷ named_came 110 another ∷ named_came 100 one ∷ [])

abbrev each_takes_two : List Joined
each_takes_two = takes_two_byes 1 2 3 4 ∷ takes_two_byes 2 3 4 1 ∷ takes_two_byes 3 4 1 2 ∷ takes_two_byes 4 1 2 3 ∷ []

without_presence : ((delay : ℕ) (terms : Terms) (from width : ℕ) (all : List Joined) → delay < least_wait →
    All (HasBandwidth terms) all → AllPairs (EachOther TookBye delay from width) all →
    (least_wait - delay) * (100000 * 1000000 * averages_of (waits_as false (all_waits from width all)))
    ≤ least_wait * (2 * 121828 * width * (256 * terms.receiver_bw))) → ⊥
without_presence law =
    let fits = law 0 terms 2462496 2462489 each_takes_two (omega arith) (bandwidths terms 0 0 each_takes_two refl)
    (each_two_of TookBye took_bye took_bye_of 0 2462496 2462489 each_takes_two refl) in
    let its : averages_of (waits_as false (all_waits 2462496 2462489 each_takes_two)) ≡ 49152 = refl in
    omega (arith, fits, its)

-- but that each knows the other's role: two that send do not know it of each other,
record Unaware (joined : Joined) (wait its : Wait) : Type 0 where
  heard : HeardBefore joined wait its
  kept : IsKept wait.next.setup.capacity its.next.setup.ssrc wait.next.outcome.trace
  apart : (its.next.setup.ssrc == wait.next.setup.ssrc) ≡ false

unaware_of : (joined : Joined) (wait its : Wait) →
    (comes joined wait its && (keeps wait its && differs wait its)) ≡ true → Unaware joined wait its
unaware_of joined wait its is =
    let parts = and_parts (comes joined wait its) (keeps wait its && differs wait its) is in
    let more = and_parts (keeps wait its) (differs wait its) parts.1 in
    record {
      heard = comes_of joined wait its parts.0;
      kept = kept_of wait its more.0;
      apart = not_so (its.next.setup.ssrc == wait.next.setup.ssrc) more.1;
    }

without_roles : ((delay : ℕ) (terms : Terms) (from width : ℕ) (all : List Joined) → delay < least_wait →
    All (HasBandwidth terms) all → AllPairs (EachOther Unaware delay from width) all →
    (least_wait - delay) * (100000 * 1000000 * averages_of (all_waits from width all))
    ≤ least_wait * (2 * 121828 * width * (256 * rtcp_bw terms))) → ⊥
without_roles law =
    let fits = law 0 terms 8650781 8780619 unaware (omega arith) (bandwidths terms 0 0 unaware refl)
    (each_two_of Unaware (λ joined wait its. comes joined wait its && (keeps wait its && differs wait its))
    unaware_of 0 8650781 8780619 unaware refl) in
    let its : averages_of (all_waits 8650781 8780619 unaware) ≡ 262626 = average_of_unaware in
    omega (arith, fits, its)

-- or that they go by this bandwidth.
without_bandwidth : ((delay : ℕ) (terms : Terms) (from width : ℕ) (all : List Joined) → delay < least_wait →
    All (λ joined. IsHistory joined.history) all → AllPairs (KnowEachOther delay from width) all →
    (least_wait - delay) * (100000 * 1000000 * averages_of (waits_as false (all_waits from width all)))
    ≤ least_wait * (2 * 121828 * width * (256 * terms.receiver_bw))) → ⊥
without_bandwidth law =
    let is = delivered_of 0 terms 2462496 2462489 pair (omega arith) refl in
    let fits = law 0 (record terms { receiver_bw = 15 }) 2462496 2462489 pair (omega arith)
    (λ k d inside. (is.each k d inside).stands) is.each_two in
    let its : averages_of (waits_as false (all_waits 2462496 2462489 pair)) ≡ 24576 = average_of_pair in
    omega (arith, fits, its)
