-- Worked rows: sessions whose compounds come within a delay, and what is known of a source by a trace.
use Rattle.std.proofs.Common.{◌≡◌, ◌==◌, ℕ, zero, suc, ◌+◌, ◌-◌, ◌<◌, ◌&&◌, ◌||◌, not, List, [], ◌∷◌, map, nat_le, nat_lt, All, Contains, Bool, true, false, Ok, Err, refl, ap, arith}
use Rattle.std.specs.List.{list_all, list_any, AllPairs}
use Rattle.std.proofs.lemmas.Bool.{and_parts, ltb-true, leb-true, eqb-true, lt-ltb}
use Rattle.rtcp_wire.specs.declared.fact.Fact.{Fact}
use Rattle.rtcp_wire.specs.declared.fact.Fact.TheVariants.{Heard, Told, Named, Gone, Media}
use Rattle.rtcp_wire.specs.Facts.{facts_of}
use Rattle.rtcp_members.specs.Traces.{TraceStep}
use Rattle.rtcp_members.specs.Lasting.{says_bye}
use Rattle.rtcp_members.specs.Entries.{entry_at, is_such, is_sender}
use Rattle.rtcp_engine.specs.answers.Acts.{Act, arrived, rtcp, rtp, rtp_sent, ticked, left, configured, forgotten}
use Rattle.rtcp_session.specs.Windows.{Joined, load_at}
use Rattle.rtcp_session.specs.Crowds.{Terms}
use Rattle.rtcp_session.specs.Waits.{Wait, all_waits, waits_within}
use Rattle.rtcp_session.specs.Deliveries.{waits_after, IsCountedAfter, least_wait, pasts_of, has_room, is_dropped, IsKept, HasHeard, Knows, EndsAfter, IsDelivered}
use Rattle.rtcp_session.proofs.examples.CrowdRows.{named_came, joined_with, each, terms, pair}
use Rattle.rtcp_session.proofs.examples.WaitRows.{all_count, are_counted, goes_by, bandwidths, turnover}

-- ---- Compounds that were taken, by a test that computes

abbrev is_name : (ssrc : ℕ) → Fact → Bool
is_name ssrc (Heard other) = false
is_name ssrc (Told other ntp stamp) = false
is_name ssrc (Named other) = other == ssrc
is_name ssrc (Gone other) = false
is_name ssrc (Media other seq timestamp octets rate) = false

name_is : (ssrc : ℕ) (fact : Fact) → is_name ssrc fact ≡ true → fact ≡ Named ssrc
name_is ssrc (Heard other) is = absurd cc
name_is ssrc (Told other ntp stamp) is = absurd cc
name_is ssrc (Named other) is = ap Named (eqb-true other ssrc is)
name_is ssrc (Gone other) is = absurd cc
name_is ssrc (Media other seq timestamp octets rate) is = absurd cc

abbrev later : {A : Type 0} (first : A) (xs : List A) (x : A) → Contains xs x → Contains (first ∷ xs) x
later {A} first xs x (k, inside, is) = (suc k, omega (arith, inside), is)

named_in : (ssrc : ℕ) (facts : List Fact) → list_any (is_name ssrc) facts ≡ true → Contains facts (Named ssrc)
named_in ssrc [] is = absurd cc
named_in ssrc (fact ∷ facts) is =
    by (is_name ssrc fact) refl is (named_in ssrc facts)
  where
    by : (b : Bool) → is_name ssrc fact ≡ b → (b || list_any (is_name ssrc) facts) ≡ true →
        (list_any (is_name ssrc) facts ≡ true → Contains facts (Named ssrc)) → Contains (fact ∷ facts) (Named ssrc)
    by true here is rest = (0, omega arith, name_is ssrc fact here)
    by false here is rest = later fact facts (Named ssrc) (rest is)

abbrev brings : (moment ssrc start : ℕ) → Act → Bool
brings moment ssrc start (arrived at peer word (rtcp size (Ok packets))) =
    list_any (is_name ssrc) (facts_of packets) && nat_le (start + at) moment
brings moment ssrc start (arrived at peer word (rtcp size (Err fault))) = false
brings moment ssrc start (arrived at peer word (rtp reading)) = false
brings moment ssrc start (rtp_sent at timestamp octets) = false
brings moment ssrc start (ticked at first_word second_word) = false
brings moment ssrc start (left at word) = false
brings moment ssrc start (configured at settings) = false
brings moment ssrc start (forgotten at other) = false

module _ (moment ssrc : ℕ) (joined : Joined) where
  -- so far, by the acts up to one of them
  abbrev up_to : List Act → Joined
  up_to acts = record joined { history = record joined.history { acts = acts } }

  one_brought : (act : Act) (earlier : List Act) → brings moment ssrc joined.start act ≡ true →
      HasHeard moment ssrc (up_to (act ∷ earlier))
  one_brought (arrived at peer word (rtcp size (Ok packets))) earlier is =
      let parts = and_parts (list_any (is_name ssrc) (facts_of packets)) (nat_le (joined.start + at) moment) is in
      record {
        at = at;
        peer = peer;
        word = word;
        size = size;
        packets = packets;
        taken = (0, omega arith, refl);
        named = named_in ssrc (facts_of packets) parts.0;
        in_time = leb-true (joined.start + at) moment parts.1;
      }
  one_brought (arrived at peer word (rtcp size (Err fault))) earlier is = absurd cc
  one_brought (arrived at peer word (rtp reading)) earlier is = absurd cc
  one_brought (rtp_sent at timestamp octets) earlier is = absurd cc
  one_brought (ticked at first_word second_word) earlier is = absurd cc
  one_brought (left at word) earlier is = absurd cc
  one_brought (configured at settings) earlier is = absurd cc
  one_brought (forgotten at other) earlier is = absurd cc

  brought : (acts : List Act) → list_any (brings moment ssrc joined.start) acts ≡ true →
      HasHeard moment ssrc (up_to acts)
  brought [] is = absurd cc
  brought (act ∷ earlier) is =
      by (brings moment ssrc joined.start act) refl is (brought earlier)
    where
      by : (b : Bool) → brings moment ssrc joined.start act ≡ b →
          (b || list_any (brings moment ssrc joined.start) earlier) ≡ true →
          (list_any (brings moment ssrc joined.start) earlier ≡ true → HasHeard moment ssrc (up_to earlier)) →
          HasHeard moment ssrc (up_to (act ∷ earlier))
      by true here is rest = one_brought act earlier here
      by false here is rest =
          let found = rest is in
          record {
            at = found.at;
            peer = found.peer;
            word = found.word;
            size = found.size;
            packets = found.packets;
            taken = later act earlier
                (arrived found.at found.peer found.word (rtcp found.size (Ok found.packets))) found.taken;
            named = found.named;
            in_time = found.in_time;
          }

  pub heard_of : list_any (brings moment ssrc joined.start) joined.history.acts ≡ true → HasHeard moment ssrc joined
  heard_of is = brought joined.history.acts is

-- ---- Who knows whom

abbrev pub comes : Joined → (wait its : Wait) → Bool
comes joined wait its =
    nat_lt 0 wait.until
    && list_any (brings (wait.until - 1) its.next.setup.ssrc joined.start) joined.history.acts

-- by the last moment before its own next report
pub record HeardBefore (joined : Joined) (wait its : Wait) : Type 0 where
  pub comes : HasHeard (wait.until - 1) its.next.setup.ssrc joined
  pub before : wait.until - 1 < wait.until

pub comes_of : (joined : Joined) (wait its : Wait) → comes joined wait its ≡ true → HeardBefore joined wait its
comes_of joined wait its is =
    let parts = and_parts (nat_lt 0 wait.until)
    (list_any (brings (wait.until - 1) its.next.setup.ssrc joined.start) joined.history.acts) is in
    let some = ltb-true 0 wait.until parts.0 in
    record {
      comes = heard_of (wait.until - 1) its.next.setup.ssrc joined parts.1;
      before = omega (arith, some);
    }

abbrev pub always_room : (capacity ssrc : ℕ) → List TraceStep → Bool
always_room capacity ssrc trace = list_all (has_room capacity ssrc) (pasts_of trace)

abbrev pub never_drops : (capacity ssrc : ℕ) → List TraceStep → Bool
never_drops capacity ssrc trace = list_all (λ past. not (is_dropped capacity ssrc past)) (pasts_of trace)

abbrev pub takes_no_bye : (ssrc : ℕ) → List TraceStep → Bool
takes_no_bye ssrc trace = list_all (λ step. not (says_bye ssrc step)) trace

-- the same of the report that ends a wait, and of the source of another
abbrev pub has_room_for : (wait its : Wait) → Bool
has_room_for wait its = always_room wait.next.setup.capacity its.next.setup.ssrc wait.next.outcome.trace

abbrev pub never_drops_it : (wait its : Wait) → Bool
never_drops_it wait its = never_drops wait.next.setup.capacity its.next.setup.ssrc wait.next.outcome.trace

abbrev pub takes_no_bye_of : (wait its : Wait) → Bool
takes_no_bye_of wait its = takes_no_bye its.next.setup.ssrc wait.next.outcome.trace

abbrev pub keeps : (wait its : Wait) → Bool
keeps wait its = has_room_for wait its && (never_drops_it wait its && takes_no_bye_of wait its)

abbrev pub is_same : Bool → Bool → Bool
is_same true other = other
is_same false other = not other

same_of : (one other : Bool) → is_same one other ≡ true → one ≡ other
same_of true true is = refl
same_of true false is = absurd cc
same_of false true is = absurd cc
same_of false false is = refl

abbrev pub knows_role : (wait its : Wait) → Bool
knows_role wait its =
    not (is_same (load_at its.next).we_sent (load_at wait.next).we_sent)
    || is_same (is_such is_sender (entry_at wait.next.setup.capacity wait.next.outcome.trace
    its.next.setup.ssrc)) (load_at wait.next).we_sent

abbrev pub differs : (wait its : Wait) → Bool
differs wait its = not (its.next.setup.ssrc == wait.next.setup.ssrc)

pub not_so : (b : Bool) → not b ≡ true → b ≡ false
not_so true is = absurd cc
not_so false is = refl

pub room_of : (capacity ssrc : ℕ) (trace : List TraceStep) → always_room capacity ssrc trace ≡ true →
    All (λ past. has_room capacity ssrc past ≡ true) (pasts_of trace)
room_of capacity ssrc trace =
    each (has_room capacity ssrc) (λ (past : List TraceStep). has_room capacity ssrc past ≡ true) (λ past is. is)
    (pasts_of trace)

pub never_dropped_of : (capacity ssrc : ℕ) (trace : List TraceStep) → never_drops capacity ssrc trace ≡ true →
    All (λ past. is_dropped capacity ssrc past ≡ false) (pasts_of trace)
never_dropped_of capacity ssrc trace =
    each (λ (past : List TraceStep). not (is_dropped capacity ssrc past))
    (λ (past : List TraceStep). is_dropped capacity ssrc past ≡ false)
    (λ past. not_so (is_dropped capacity ssrc past)) (pasts_of trace)

pub no_bye_of : (ssrc : ℕ) (trace : List TraceStep) → takes_no_bye ssrc trace ≡ true →
    All (λ step. says_bye ssrc step ≡ false) trace
no_bye_of ssrc trace =
    each (λ (step : TraceStep). not (says_bye ssrc step)) (λ (step : TraceStep). says_bye ssrc step ≡ false)
    (λ step. not_so (says_bye ssrc step)) trace

pub kept_of : (wait its : Wait) → keeps wait its ≡ true →
    IsKept wait.next.setup.capacity its.next.setup.ssrc wait.next.outcome.trace
kept_of wait its is =
    let capacity = wait.next.setup.capacity in
    let ssrc = its.next.setup.ssrc in
    let trace = wait.next.outcome.trace in
    let parts = and_parts (has_room_for wait its) (never_drops_it wait its && takes_no_bye_of wait its) is in
    let more = and_parts (never_drops_it wait its) (takes_no_bye_of wait its) parts.1 in
    record {
      room = room_of capacity ssrc trace parts.0;
      never_silent = never_dropped_of capacity ssrc trace more.0;
      no_bye = no_bye_of ssrc trace more.1;
    }

pub role_of : (wait its : Wait) → knows_role wait its ≡ true →
    (load_at its.next).we_sent ≡ (load_at wait.next).we_sent →
    is_such is_sender (entry_at wait.next.setup.capacity wait.next.outcome.trace
    its.next.setup.ssrc) ≡ (load_at wait.next).we_sent
role_of wait its is same =
    by (load_at its.next).we_sent (load_at wait.next).we_sent
    (is_such is_sender (entry_at wait.next.setup.capacity wait.next.outcome.trace
    its.next.setup.ssrc)) same is
  where
    by : (other own taken : Bool) → other ≡ own → (not (is_same other own) || is_same taken own) ≡ true → taken ≡ own
    by true true taken same is = same_of taken true is
    by true false taken same is = absurd cc
    by false true taken same is = absurd cc
    by false false taken same is = same_of taken false is

abbrev pub knows : Joined → (wait its : Wait) → Bool
knows joined wait its = comes joined wait its && (keeps wait its && (differs wait its && knows_role wait its))

pub knows_of : (joined : Joined) (wait its : Wait) → knows joined wait its ≡ true → Knows joined wait its
knows_of joined wait its is =
    let parts = and_parts (comes joined wait its) (keeps wait its && (differs wait its && knows_role wait its)) is in
    let more = and_parts (keeps wait its) (differs wait its && knows_role wait its) parts.1 in
    let rest = and_parts (differs wait its) (knows_role wait its) more.1 in
    let heard = comes_of joined wait its parts.0 in
    record {
      by = wait.until - 1;
      comes = heard.comes;
      before = heard.before;
      kept = kept_of wait its more.0;
      apart = not_so (its.next.setup.ssrc == wait.next.setup.ssrc) rest.0;
      role = role_of wait its rest.1;
    }

-- ---- Each two

-- What is asked of each two that wait at the same time, but for a delay.
abbrev pub EachOther : (F : Joined → Wait → Wait → Type 0) (delay from width : ℕ) (one other : Joined) → Type 0
EachOther F delay from width one other =
    All (λ wait. All (λ its. EndsAfter delay its wait → EndsAfter delay wait its → F one wait its × F other its wait)
    (waits_within from width other)) (waits_within from width one)

module _ (F : Joined → Wait → Wait → Type 0) (test : Joined → Wait → Wait → Bool)
    (says : (joined : Joined) (wait its : Wait) → test joined wait its ≡ true → F joined wait its)
    (delay from width : ℕ) where
  abbrev ends : (its wait : Wait) → Bool
  ends its wait = nat_lt (its.since + delay) wait.until

  abbrev both : (one other : Joined) (wait its : Wait) → Bool
  both one other wait its =
      not (ends its wait && ends wait its) || (test one wait its && test other its wait)

  both_of : (one other : Joined) (wait its : Wait) → both one other wait its ≡ true → EndsAfter delay its wait →
      EndsAfter delay wait its → F one wait its × F other its wait
  both_of one other wait its is first second =
      by (ends its wait) (ends wait its) (lt-ltb (its.since + delay) wait.until first)
      (lt-ltb (wait.since + delay) its.until second) is
    where
      by : (a b : Bool) → a ≡ true → b ≡ true → (not (a && b) || (test one wait its && test other its wait)) ≡ true →
          F one wait its × F other its wait
      by true true here there is =
          let parts = and_parts (test one wait its) (test other its wait) is in
          (says one wait its parts.0, says other its wait parts.1)
      by true false here there is = absurd cc
      by false b here there is = absurd cc

  abbrev two : (one other : Joined) → Bool
  two one other =
      list_all (λ wait. list_all (λ its. both one other wait its) (waits_within from width other))
      (waits_within from width one)

  two_of : (one other : Joined) → two one other ≡ true → EachOther F delay from width one other
  two_of one other =
      each (λ (wait : Wait). list_all (λ its. both one other wait its) (waits_within from width other))
      (λ (wait : Wait). All (λ its. EndsAfter delay its wait → EndsAfter delay wait its →
      F one wait its × F other its wait) (waits_within from width other))
      (λ wait. each (λ (its : Wait). both one other wait its)
      (λ (its : Wait). EndsAfter delay its wait → EndsAfter delay wait its → F one wait its × F other its wait)
      (λ its. both_of one other wait its) (waits_within from width other)) (waits_within from width one)

  abbrev pub each_two : List Joined → Bool
  each_two [] = true
  each_two (one ∷ others) = list_all (λ other. two one other) others && each_two others

  pub each_two_of : (all : List Joined) → each_two all ≡ true → AllPairs (EachOther F delay from width) all
  each_two_of [] is = λ i j d order inside. absurd (omega (arith, inside))
  each_two_of (one ∷ others) is =
      let parts = and_parts (list_all (λ other. two one other) others) (each_two others) is in
      pairs_of (EachOther F delay from width) one others
      (each (two one) (EachOther F delay from width one) (two_of one) others parts.0) (each_two_of others parts.1)
    where
      pairs_of : (R : Joined → Joined → Type 0) (one : Joined) (others : List Joined) → All (R one) others →
          AllPairs R others → AllPairs R (one ∷ others)
      pairs_of R one others first rest zero zero d order inside = absurd (omega (arith, order))
      pairs_of R one others first rest zero (suc j) d order inside = first j d (omega (arith, inside))
      pairs_of R one others first rest (suc i) zero d order inside = absurd (omega (arith, order))
      pairs_of R one others first rest (suc i) (suc j) d order inside =
          rest i j d (omega (arith, order)) (omega (arith, inside))

pub delivered_of : (delay : ℕ) (terms : Terms) (from width : ℕ) (all : List Joined) → delay < least_wait →
    (list_all (goes_by terms from width all) all
    && each_two Knows knows knows_of delay from width all) ≡ true →
    IsDelivered delay terms from width all
delivered_of delay terms from width all soon is =
    let parts = and_parts (list_all (goes_by terms from width all) all)
    (each_two Knows knows knows_of delay from width all) is in
    record {
      soon = soon;
      each = bandwidths terms from width all parts.0;
      each_two = each_two_of Knows knows knows_of delay from width all parts.1;
    }

pub counted_after_of : (delay : ℕ) (terms : Terms) (from width : ℕ) (all : List Joined) →
    (list_all (goes_by terms from width all) all
    && list_all (all_count terms.percent (waits_after delay from width all)) (waits_after delay from width all))
    ≡ true →
    IsCountedAfter delay terms from width all
counted_after_of delay terms from width all is =
    let waits = waits_after delay from width all in
    let parts = and_parts (list_all (goes_by terms from width all) all) (list_all (all_count terms.percent waits) waits)
    is in
    record { each = bandwidths terms from width all parts.0; counted = are_counted terms.percent waits parts.1 }

-- ---- Sessions

-- two that have heard of each other from the start: so any delay will do
pair_is_delivered : IsDelivered 0 terms 2462496 2462489 pair
pair_is_delivered = delivered_of 0 terms 2462496 2462489 pair (omega arith) refl

pair_is_delivered_late : IsDelivered 500000 terms 2462496 2462489 pair
pair_is_delivered_late = delivered_of 500000 terms 2462496 2462489 pair (omega arith) refl

-- two whose first reports come to each other 300 milliseconds late
abbrev hears_late : (other ssrc : ℕ) → Joined
hears_late other ssrc = joined_with ssrc (ticked 3693734 0 0 ∷ named_came 1531245 other ∷ ticked 1231245 0 0 ∷ [])

abbrev late_pair : List Joined
late_pair = hears_late 187 170 ∷ hears_late 170 187 ∷ []

they_wait : map (λ wait. wait.since ∷ wait.until ∷ (load_at wait.next).members ∷ [])
    (all_waits 1231252 2462489 late_pair)
    ≡ (1231252 ∷ 3693741 ∷ 2 ∷ []) ∷ (1231252 ∷ 3693741 ∷ 2 ∷ []) ∷ []
they_wait = refl

late_pair_is_delivered : IsDelivered 300000 terms 1231252 2462489 late_pair
late_pair_is_delivered = delivered_of 300000 terms 1231252 2462489 late_pair (omega arith) refl

they_hear_late : map (λ its. list_any (brings (its.since + 300000) its.next.setup.ssrc 7)
    (hears_late 187 170).history.acts) (waits_within 1231252 2462489 (hears_late 170 187)) ≡ true ∷ []
they_hear_late = refl

and_no_sooner : map (λ its. list_any (brings (its.since + 299999) its.next.setup.ssrc 7)
    (hears_late 187 170).history.acts) (waits_within 1231252 2462489 (hears_late 170 187)) ≡ false ∷ []
and_no_sooner = refl

-- one after another
turnover_is_delivered : IsDelivered 100000 terms 0 10000000 turnover
turnover_is_delivered = delivered_of 100000 terms 0 10000000 turnover (omega arith) refl
