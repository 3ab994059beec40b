-- Where the reports of others come within a delay, those who wait are counted.
use Rattle.std.proofs.Common.{◌≡◌, ℕ, zero, suc, ◌+◌, ◌*◌, ◌<◌, ◌≤◌, ◌&&◌, ◌==◌, nat_le, nat_lt, not, Bool, true, false, cond, List, [], ◌∷◌, ◌++◌, length, map, get_or, filter, All, Option, Some, None, refl, sym, ap, ◌∙◌, arith, subst}
use Rattle.std.specs.List.{AllPairs, IsDistinct}
use Rattle.std.proofs.lemmas.Bool.{and_from, and_parts, both_ways, eq-eqb, eqb-false, eqb-true, ne_eqb, not-true, leb-true, ltb-false, ltb-true}
use Rattle.std.proofs.lemmas.List.{length-map, map-append}
use Rattle.std.proofs.lemmas.List.Elements.{All-nil, All-cons, All-append, All-head, All-tail, All-map, All-filter, All-weaker, filter_passes, filter-append, recursion_from_All}
use Rattle.rtcp_members.specs.Entries.{EntryValue, entry_at, is_member, is_sender, is_such}
use Rattle.rtcp_engine.specs.state.Taken.{IsHistory}
use Rattle.rtcp_session.specs.Windows.{Decided, load_at, decided_at, Joined, is_inside, decided_within}
use Rattle.rtcp_session.specs.Crowds.{AreHeard, has_role, Terms}
use Rattle.rtcp_session.specs.Waits.{Wait, wait_between, waits_over, waits_within, all_waits, is_open, open_at, reports_next_as, waits_as, HearsWaiting}
use Rattle.rtcp_session.specs.Deliveries.{ComeWithin, HasHeard, IsKept, is_named_in, opened_after, waits_after, IsCountedAfter, Knows, EndsAfter, KnowEachOther, IsDelivered}
use Rattle.rtcp_session.proofs.Pacing.{more_if, filter_cons}
use Rattle.rtcp_session.proofs.Waited.{widest, has_widest, waits_are, one_open}
use Rattle.rtcp_session.proofs.Hearing.{same, those_heard_wait}
use Rattle.rtcp_session.proofs.Knowing.{named_are_members}
use Rattle.rtcp_session.proofs.Taking.{taken_are_known}

-- ---- What a participant takes another for

abbrev ssrc_of : Wait → ℕ
ssrc_of wait = wait.next.setup.ssrc

-- For its report a participant takes another for a member, and for one in its own role if that reports next so.
record TakesFor (own other : Decided) : Type 0 where
  apart : (other.setup.ssrc == own.setup.ssrc) ≡ false
  member : is_such is_member (entry_at own.setup.capacity own.outcome.trace other.setup.ssrc) ≡ true
  role : (load_at other).we_sent ≡ (load_at own).we_sent →
      is_such (has_role (load_at own).we_sent)
      (entry_at own.setup.capacity own.outcome.trace other.setup.ssrc) ≡ true

-- A member that is no sender is a listener.
in_role : (sender : Bool) (entry : Option EntryValue) → is_such is_member entry ≡ true →
    is_such is_sender entry ≡ sender → is_such (has_role sender) entry ≡ true
in_role true entry member is = is
in_role false None member is = absurd cc
in_role false (Some entry) member is = and_from (is_member entry) (not (is_sender entry)) member
    (ap (λ (b : Bool). not b) is)

-- By this moment it was named in what it reports on from then on.
named_from : (joined : Joined) (moment ssrc : ℕ) → IsHistory joined.history → HasHeard moment ssrc joined →
    All (λ decided. moment < joined.start + decided.report.moment → is_named_in ssrc decided.outcome.trace ≡ true)
    (decided_at joined.history)
named_from joined moment ssrc is heard k d inside later =
    let decided : Decided = get_or (decided_at joined.history) k d in
    taken_are_known ssrc heard.at heard.peer heard.word heard.size heard.packets heard.named joined.history is
    heard.taken k d inside (before joined.start heard.at decided.report.moment moment heard.in_time later)
  where
    before : (start at reports moment : ℕ) → start + at ≤ moment → moment < start + reports → at < reports
    before start at reports moment in_time later = omega (arith, in_time, later)

pub heard_are_members : (joined : Joined) (moment ssrc : ℕ) → IsHistory joined.history → HasHeard moment ssrc joined →
    All (λ decided. moment < joined.start + decided.report.moment →
    IsKept decided.setup.capacity ssrc decided.outcome.trace →
    is_such is_member (entry_at decided.setup.capacity decided.outcome.trace ssrc) ≡ true)
    (decided_at joined.history)
heard_are_members joined moment ssrc is heard k d inside later kept =
    let decided : Decided = get_or (decided_at joined.history) k d in
    named_are_members decided.setup.capacity ssrc decided.outcome.trace
    (named_from joined moment ssrc is heard k d inside later) kept

-- What holds of each report holds of the one that each waits for, at the moment when the wait ends.
record IsFor (P : Decided → Type 0) (start : ℕ) (wait : Wait) : Type 0 where
  holds : P wait.next
  ends : wait.until ≡ start + wait.next.report.moment

for_waits : (P : Decided → Type 0) (start : ℕ) (all : List Decided) → All P all →
    All (IsFor P start) (waits_over start all)
for_waits P start [] h = All-nil (IsFor P start)
for_waits P start (newest ∷ []) h = All-nil (IsFor P start)
for_waits P start (newest ∷ before ∷ earlier) h =
    All-cons (IsFor P start) (wait_between start before newest) (waits_over start (before ∷ earlier))
    (record { holds = All-head P newest (before ∷ earlier) h; ends = refl })
    (for_waits P start (before ∷ earlier) (All-tail P newest (before ∷ earlier) h))

for_waits_within : (P : Decided → Type 0) (from width : ℕ) (joined : Joined) → All P (decided_at joined.history) →
    All (IsFor P joined.start) (waits_within from width joined)
for_waits_within P from width joined h =
    for_waits P joined.start (decided_within from width joined)
    (All-filter (λ decided. is_inside from width joined.start decided.report) P (decided_at joined.history) h)

takes : (from width : ℕ) (joined : Joined) → IsHistory joined.history →
    All (λ wait. (its : Wait) → Knows joined wait its → TakesFor wait.next its.next)
    (waits_within from width joined)
takes from width joined is k d inside =
    let wait : Wait = get_or (waits_within from width joined) k d in
    λ its knows.
    let known = for_waits_within (λ (decided : Decided). knows.by < joined.start + decided.report.moment →
    IsKept decided.setup.capacity (ssrc_of its) decided.outcome.trace →
    is_such is_member (entry_at decided.setup.capacity decided.outcome.trace (ssrc_of its)) ≡ true)
    from width joined (heard_are_members joined knows.by (ssrc_of its) is knows.comes) k d inside in
    let before = knows.before in
    let member = known.holds (omega (arith, before, known.ends)) knows.kept in
    record {
      apart = knows.apart;
      member = member;
      role = λ same. in_role (load_at wait.next).we_sent (entry_at wait.next.setup.capacity
          wait.next.outcome.trace (ssrc_of its)) member (knows.role same);
    }

-- ---- Those who wait at a moment

abbrev Stands : Joined → Type 0
Stands joined = IsHistory joined.history

first_pairs : (R : Joined → Joined → Type 0) (one : Joined) (others : List Joined) → AllPairs R (one ∷ others) →
    All (R one) others
first_pairs R one others pairs k d inside = pairs zero (suc k) d (omega arith) (omega (arith, inside))

later_pairs : (R : Joined → Joined → Type 0) (one : Joined) (others : List Joined) → AllPairs R (one ∷ others) →
    AllPairs R others
later_pairs R one others pairs i j d before inside = pairs (suc i) (suc j) d (omega (arith, before))
    (omega (arith, inside))

module _ (delay moment : ℕ) where
  abbrev late : List Wait → List Wait
  late waits = map (opened_after delay) waits

  abbrev IsLate : Wait → Type 0
  IsLate wait = is_open moment (opened_after delay wait) ≡ true

  open_late : (P : Wait → Type 0) (waits : List Wait) → All (λ wait. IsLate wait → P (opened_after delay wait)) waits →
      All P (open_at moment (late waits))
  open_late P [] h = All-nil P
  open_late P (wait ∷ others) h =
      by (is_open moment (opened_after delay wait)) refl
      (open_late P others (All-tail (λ (wait : Wait). IsLate wait → P (opened_after delay wait)) wait others h))
    where
      by : (b : Bool) → is_open moment (opened_after delay wait) ≡ b → All P (open_at moment (late others)) →
          All P (cond b (opened_after delay wait ∷ open_at moment (late others)) (open_at moment (late others)))
      by true is rest =
          All-cons P (opened_after delay wait) (open_at moment (late others))
          (All-head (λ (wait : Wait). IsLate wait → P (opened_after delay wait)) wait others h is) rest
      by false is rest = rest

  -- Two that wait at a moment end after each other began.
  both_end : (wait its : Wait) → IsLate wait → IsLate its → EndsAfter delay its wait
  both_end wait its one other =
      let ends = leb-true moment wait.until (and_parts (nat_lt (wait.since + delay) moment) (nat_le moment wait.until)
      one).1 in
      let began = ltb-true (its.since + delay) moment (and_parts (nat_lt (its.since + delay) moment)
      (nat_le moment its.until) other).0 in
      omega (arith, ends, began)

  -- a participant's waits that are open then, but for the delay: one at most
  abbrev waiting : (from width : ℕ) → Joined → List Wait
  waiting from width joined = open_at moment (late (waits_within from width joined))

  abbrev all_waiting : (from width : ℕ) → List Joined → List Wait
  all_waiting from width all = open_at moment (waits_after delay from width all)

  parts : (from width : ℕ) (joined : Joined) (others : List Joined) →
      all_waiting from width (joined ∷ others) ≡ waiting from width joined ++ all_waiting from width others
  parts from width joined others =
      ap (open_at moment) (map-append (opened_after delay) (waits_within from width joined)
      (all_waits from width others))
      ∙ filter-append (is_open moment) (late (waits_within from width joined)) (waits_after delay from width others)

  fewer_late : (waits : List Wait) → length (open_at moment (late waits)) ≤ length (open_at moment waits)
  fewer_late [] = omega arith
  fewer_late (wait ∷ others) =
      let rest = fewer_late others in
      let some = filter_cons (is_open moment) (opened_after delay wait) (late others) in
      let most = filter_cons (is_open moment) wait others in
      let more = by (nat_lt (wait.since + delay) moment) (nat_lt wait.since moment) (nat_le moment wait.until) refl refl
      (length (open_at moment (late others))) (length (open_at moment others)) rest in
      omega (arith, some, most, more)
    where
      by : (late soon lasts : Bool) → nat_lt (wait.since + delay) moment ≡ late → nat_lt wait.since moment ≡ soon →
          (m n : ℕ) → m ≤ n → more_if (late && lasts) m ≤ more_if (soon && lasts) n
      by true true true is was m n h = omega (arith, h)
      by true true false is was m n h = h
      by true false lasts is was m n h =
          let began = ltb-true (wait.since + delay) moment is in
          let later = ltb-false wait.since moment was in
          absurd (omega (arith, began, later))
      by false soon lasts is was m n h = longer (soon && lasts) m n h
        where
          longer : (b : Bool) (m n : ℕ) → m ≤ n → m ≤ more_if b n
          longer true m n h = omega (arith, h)
          longer false m n h = h

  one_waits : (from width : ℕ) (joined : Joined) → IsHistory joined.history →
      length (waiting from width joined) ≤ 1
  one_waits from width joined is =
      let waits = waits_are widest from width joined (has_widest joined is) in
      let soon = one_open moment joined.start (decided_within from width joined)
      (λ k d inside. (waits k d inside).order) in
      let fewer = fewer_late (waits_within from width joined) in
      omega (arith, soon, fewer)

  -- ---- Each takes the others for members

  -- unless they have the same SSRC, as each has with itself
  abbrev TakesIts : Wait → Wait → Type 0
  TakesIts wait its = (ssrc_of its == ssrc_of wait) ≡ false → TakesFor wait.next its.next

  abbrev TakeEachOther : Wait → Wait → Type 0
  TakeEachOther wait its = TakesFor wait.next its.next × TakesFor its.next wait.next

  abbrev EachTakes : List Wait → List Wait → Type 0
  EachTakes waits others = All (λ wait. All (TakesIts wait) others) waits

  abbrev Cross : List Wait → List Wait → Type 0
  Cross waits others = All (λ wait. All (TakeEachOther wait) others) waits

  cross_pair : (from width : ℕ) (one other : Joined) → IsHistory one.history → IsHistory other.history →
      KnowEachOther delay from width one other → Cross (waiting from width one) (waiting from width other)
  cross_pair from width one other is too follow =
      let own = takes from width one is in
      let its = takes from width other too in
      open_late (λ (wait : Wait). All (TakeEachOther wait) (waiting from width other)) (waits_within from width one)
      (λ k d inside open_one.
      open_late (TakeEachOther (opened_after delay (get_or (waits_within from width one) k d)))
      (waits_within from width other)
      (λ j e within open_other.
      let wait : Wait = get_or (waits_within from width one) k d in
      let another : Wait = get_or (waits_within from width other) j e in
      let ends = both_end wait another open_one open_other in
      let ends_too = both_end another wait open_other open_one in
      let both = follow k d inside j e within ends ends_too in
      (own k d inside another both.0, its j e within wait both.1)))

  cross_all : (from width : ℕ) (one : Joined) (others : List Joined) → IsHistory one.history → All Stands others →
      All (KnowEachOther delay from width one) others →
      Cross (waiting from width one) (all_waiting from width others)
  cross_all from width one [] is stand follow =
      λ k d inside. All-nil (TakeEachOther (get_or (waiting from width one) k d))
  cross_all from width one (other ∷ others) is stand follow =
      let first = cross_pair from width one other is (All-head Stands other others stand)
      (All-head (KnowEachOther delay from width one) other others follow) in
      let rest = cross_all from width one others is (All-tail Stands other others stand)
      (All-tail (KnowEachOther delay from width one) other others follow) in
      λ k d inside.
      let TakesIts : Wait → Type 0 = TakeEachOther (get_or (waiting from width one) k d) in
      subst (All TakesIts) (sym (parts from width other others))
      (All-append TakesIts (waiting from width other) (all_waiting from width others) (first k d inside)
      (rest k d inside))

  each_of_one : (waits : List Wait) → length waits ≤ 1 → EachTakes waits waits
  each_of_one [] few = All-nil (λ (wait : Wait). All (TakesIts wait) [])
  each_of_one (wait ∷ []) few =
      All-cons (λ (wait' : Wait). All (TakesIts wait') (wait ∷ [])) wait []
      (All-cons (TakesIts wait) wait [] (λ apart. absurd (both_ways (ssrc_of wait == ssrc_of wait) apart
      (eq-eqb (ssrc_of wait) (ssrc_of wait) refl))) (All-nil (TakesIts wait)))
      (All-nil (λ (wait' : Wait). All (TakesIts wait') (wait ∷ [])))
  each_of_one (wait ∷ another ∷ others) few = absurd (omega (arith, few))

  each_of_two : (waits others : List Wait) → EachTakes waits waits → EachTakes others others → Cross waits others →
      EachTakes (waits ++ others) (waits ++ others)
  each_of_two waits others one other cross =
      All-append (λ (wait : Wait). All (TakesIts wait) (waits ++ others)) waits others
      (λ k d inside.
      let wait : Wait = get_or waits k d in
      All-append (TakesIts wait) waits others (one k d inside) (λ j e within apart. (cross k d inside j e within).0))
      (λ j e within.
      let wait : Wait = get_or others j e in
      All-append (TakesIts wait) waits others (λ k d inside apart. (cross k d inside j e within).1) (other j e within))

  each_takes : (from width : ℕ) (all : List Joined) → All Stands all → AllPairs (KnowEachOther delay from width) all →
      EachTakes (all_waiting from width all) (all_waiting from width all)
  each_takes from width [] stand follow = All-nil (λ (wait : Wait). All (TakesIts wait) [])
  each_takes from width (joined ∷ others) stand follow =
      let is = All-head Stands joined others stand in
      let rest = All-tail Stands joined others stand in
      subst (λ (waits : List Wait). EachTakes waits waits) (sym (parts from width joined others))
      (each_of_two (waiting from width joined) (all_waiting from width others)
      (each_of_one (waiting from width joined) (one_waits from width joined is))
      (each_takes from width others rest (later_pairs (KnowEachOther delay from width) joined others follow))
      (cross_all from width joined others is rest (first_pairs (KnowEachOther delay from width) joined others
      follow)))

  -- ---- No two have the same SSRC

  abbrev Differs : Wait → Wait → Type 0
  Differs wait another = (ssrc_of wait == ssrc_of another) ≡ false

  abbrev AreApart : List Wait → Type 0
  AreApart [] = Unit {0}
  AreApart (wait ∷ others) = All (Differs wait) others × AreApart others

  one_apart : (waits others : List Wait) → length waits ≤ 1 → Cross waits others → AreApart others →
      AreApart (waits ++ others)
  one_apart [] others few cross apart = apart
  one_apart (wait ∷ []) others few cross apart =
      let first = All-head (λ (wait : Wait). All (TakeEachOther wait) others) wait [] cross in
      (λ k d inside. (first k d inside).1.apart, apart)
  one_apart (wait ∷ another ∷ more) others few cross apart = absurd (omega (arith, few))

  all_apart : (from width : ℕ) (all : List Joined) → All Stands all → AllPairs (KnowEachOther delay from width) all →
      AreApart (all_waiting from width all)
  all_apart from width [] stand follow = tt
  all_apart from width (joined ∷ others) stand follow =
      let is = All-head Stands joined others stand in
      let rest = All-tail Stands joined others stand in
      subst AreApart (sym (parts from width joined others))
      (one_apart (waiting from width joined) (all_waiting from width others) (one_waits from width joined is)
      (cross_all from width joined others is rest (first_pairs (KnowEachOther delay from width) joined others follow))
      (all_apart from width others rest (later_pairs (KnowEachOther delay from width) joined others follow)))

  some_apart : (test : Wait → Bool) (waits : List Wait) → AreApart waits → AreApart (filter test waits)
  some_apart test [] apart = tt
  some_apart test (wait ∷ others) apart = by (test wait) (some_apart test others apart.1)
    where
      by : (b : Bool) → AreApart (filter test others) →
          AreApart (cond b (wait ∷ filter test others) (filter test others))
      by true rest = (All-filter test (Differs wait) others apart.0, rest)
      by false rest = rest

  are_distinct : (waits : List Wait) → AreApart waits → IsDistinct same (map ssrc_of waits)
  unfolding IsDistinct
  are_distinct [] apart = tt
  are_distinct (wait ∷ others) apart = (
    recursion_from_All (λ (ssrc : ℕ). same (ssrc_of wait) ssrc ≡ false) (map ssrc_of others)
        (All-map (λ (ssrc : ℕ). same (ssrc_of wait) ssrc ≡ false) ssrc_of others apart.0),
    are_distinct others apart.1,
  )

  swapped : (a b : ℕ) → (b == a) ≡ false → (a == b) ≡ false
  swapped a b differs = ne_eqb a b (λ is. eqb-false b a differs (sym is))

  -- all but one with this SSRC
  abbrev is_other : (ssrc : ℕ) → Wait → Bool
  is_other ssrc wait = not (ssrc_of wait == ssrc)

  all_others : (ssrc : ℕ) (waits : List Wait) → All (λ wait. is_other ssrc wait ≡ true) waits →
      length (filter (is_other ssrc) waits) ≡ length waits
  all_others ssrc [] h = refl
  all_others ssrc (wait ∷ others) h =
      let P : Wait → Type 0 = λ (wait : Wait). is_other ssrc wait ≡ true in
      filter_cons (is_other ssrc) wait others
      ∙ ap (λ (b : Bool). more_if b (length (filter (is_other ssrc) others))) (All-head P wait others h)
      ∙ ap suc (all_others ssrc others (All-tail P wait others h))

  one_more : (ssrc : ℕ) (waits : List Wait) → AreApart waits →
      length waits ≤ 1 + length (filter (is_other ssrc) waits)
  one_more ssrc [] apart = omega arith
  one_more ssrc (wait ∷ others) apart =
      let count = filter_cons (is_other ssrc) wait others in
      let most = by (ssrc_of wait == ssrc) refl (one_more ssrc others apart.1) in
      omega (arith, count, most)
    where
      by : (is_it : Bool) → (ssrc_of wait == ssrc) ≡ is_it →
          length others ≤ 1 + length (filter (is_other ssrc) others) →
          length others ≤ more_if (not is_it) (length (filter (is_other ssrc) others))
      by true is rest =
          let same_one : ssrc_of wait ≡ ssrc = eqb-true (ssrc_of wait) ssrc is in
          let count = all_others ssrc others
          (All-weaker (Differs wait) (λ (another : Wait). is_other ssrc another ≡ true)
          (λ another differs. differs_from another same_one differs) others apart.0) in
          omega (arith, count)
        where
          differs_from : (another : Wait) → ssrc_of wait ≡ ssrc → (ssrc_of wait == ssrc_of another) ≡ false →
              not (ssrc_of another == ssrc) ≡ true
          differs_from another is differs =
              ap (λ (b : Bool). not b) (swapped (ssrc_of another) ssrc
              (subst (λ (n : ℕ). (n == ssrc_of another) ≡ false) is differs))
      by false is rest = omega (arith, rest)

  -- ---- Who is heard

  -- the others of those who wait, or of those who report next in a role
  abbrev others_of : Wait → List Wait → List Wait
  others_of wait waits = filter (is_other (ssrc_of wait)) waits

  others_taken : (wait : Wait) (waits : List Wait) → All (TakesIts wait) waits →
      All (λ its. TakesFor wait.next its.next) (others_of wait waits)
  others_taken wait waits h =
      let kept = All-filter (is_other (ssrc_of wait)) (TakesIts wait) waits h in
      let passes = filter_passes (is_other (ssrc_of wait)) waits in
      λ k d inside. kept k d inside (not-true _ (passes k d inside))

  as_many : (wait : Wait) (waits : List Wait) → AreApart waits →
      100 * length waits ≤ 100 * (1 + length (map ssrc_of (others_of wait waits)))
  as_many wait waits apart =
      let more = one_more (ssrc_of wait) waits apart in
      let same = length-map (others_of wait waits) ssrc_of in
      omega (arith, more, same)

  members_heard : (wait : Wait) (waits : List Wait) → AreApart waits → All (TakesIts wait) waits →
      AreHeard is_member wait.next.setup wait.next.outcome (map ssrc_of (others_of wait waits))
  members_heard wait waits apart h =
      let own = wait.next in
      let taken = others_taken wait waits h in
      record {
        apart = are_distinct (others_of wait waits) (some_apart (is_other (ssrc_of wait)) waits apart);
        heard = All-map (λ (ssrc : ℕ). is_such is_member (entry_at own.setup.capacity own.outcome.trace
            ssrc) ≡ true) ssrc_of (others_of wait waits) (λ k d inside. (taken k d inside).member);
      }

  role_is : (sender : Bool) (wait : Wait) → reports_next_as sender wait ≡ true → (load_at wait.next).we_sent ≡ sender
  role_is true wait is = is
  role_is false wait is = not-true (load_at wait.next).we_sent is

  role_heard : (wait : Wait) (waits : List Wait) → AreApart waits → All (TakesIts wait) waits →
      AreHeard (has_role (load_at wait.next).we_sent) wait.next.setup wait.next.outcome
      (map ssrc_of (others_of wait (waits_as (load_at wait.next).we_sent waits)))
  role_heard wait waits apart h =
      let own = wait.next in
      let role : Bool = (load_at own).we_sent in
      let those : List Wait = waits_as role waits in
      let kept = some_apart (reports_next_as role) waits apart in
      let taken = others_taken wait those (All-filter (reports_next_as role) (TakesIts wait) waits h) in
      let alike = All-filter (is_other (ssrc_of wait)) (λ (its : Wait). reports_next_as role its ≡ true) those
      (filter_passes (reports_next_as role) waits) in
      record {
        apart = are_distinct (others_of wait those) (some_apart (is_other (ssrc_of wait)) those kept);
        heard = All-map (λ (ssrc : ℕ). is_such (has_role role) (entry_at own.setup.capacity
            own.outcome.trace ssrc) ≡ true) ssrc_of (others_of wait those)
            (λ k d inside. (taken k d inside).role (role_is role (get_or (others_of wait those) k d)
            (alike k d inside)));
      }

  waiting_hears : (from width : ℕ) (all : List Joined) → All Stands all →
      AllPairs (KnowEachOther delay from width) all →
      All (λ wait. HearsWaiting 100 (waits_after delay from width all) moment wait.next) (all_waiting from width all)
  waiting_hears from width all stand follow =
      let waits : List Wait = all_waiting from width all in
      let apart = all_apart from width all stand follow in
      let each = each_takes from width all stand follow in
      λ k d inside.
      let wait : Wait = get_or waits k d in
      let role : Bool = (load_at wait.next).we_sent in
      record {
        members = map ssrc_of (others_of wait waits);
        heard = members_heard wait waits apart (each k d inside);
        everyone = as_many wait waits apart;
        those = map ssrc_of (others_of wait (waits_as role waits));
        same_role = role_heard wait waits apart (each k d inside);
        alike = as_many wait (waits_as role waits) (some_apart (reports_next_as role) waits apart);
      }

-- Where the reports of others come within a delay, those who wait are counted, each of them.
pub delivered_are_counted : (delay : ℕ) (terms : Terms) (from width : ℕ) (all : List Joined) →
    IsDelivered delay terms from width all → IsCountedAfter delay (record terms { percent = 100 }) from width all
delivered_are_counted delay terms from width all is =
    let stand : All Stands all = λ k d inside. (is.each k d inside).stands in
    record {
      each = λ k d inside. record {
        stands = (is.each k d inside).stands;
        bandwidth = λ at e within.
            let its = (is.each k d inside).bandwidth at e within in
            record { for_senders = its.for_senders; for_others = its.for_others };
      };
      counted = those_heard_wait 100 (waits_after delay from width all)
          (λ k d inside. waiting_hears delay (get_or (waits_after delay from width all) k d).until from width all stand
          is.each_two);
    }

-- ---- Within a delay

heard_since : (delay start ssrc : ℕ) (joined : Joined) (all : List Decided) → All (λ decided. decided.setup.ssrc ≡ ssrc)
    all → All (λ decided. HasHeard (start + decided.report.moment + delay) ssrc joined) all →
    All (λ its. HasHeard (its.since + delay) its.next.setup.ssrc joined) (waits_over start all)
heard_since delay start ssrc joined [] same come = All-nil (λ (its : Wait). HasHeard (its.since + delay) (ssrc_of its)
    joined)
heard_since delay start ssrc joined (newest ∷ []) same come = All-nil (λ (its : Wait). HasHeard (its.since + delay)
    (ssrc_of its) joined)
heard_since delay start ssrc joined (newest ∷ before ∷ earlier) same come =
    let Same : Decided → Type 0 = λ (decided : Decided). decided.setup.ssrc ≡ ssrc in
    let Comes : Decided → Type 0 = λ (decided : Decided). HasHeard (start + decided.report.moment + delay) ssrc joined
    in
    let rest = All-tail Comes newest (before ∷ earlier) come in
    All-cons (λ (its : Wait). HasHeard (its.since + delay) (ssrc_of its) joined) (wait_between start before newest)
    (waits_over start (before ∷ earlier))
    (subst (λ (n : ℕ). HasHeard (start + before.report.moment + delay) n joined)
    (sym (All-head Same newest (before ∷ earlier) same)) (All-head Comes before earlier rest))
    (heard_since delay start ssrc joined (before ∷ earlier) (All-tail Same newest (before ∷ earlier) same) rest)

pub heard_within : (delay from width : ℕ) (one joined : Joined) → ComeWithin delay from width one joined →
    All (λ its. HasHeard (its.since + delay) its.next.setup.ssrc joined) (waits_within from width one)
heard_within delay from width one joined come =
    heard_since delay one.start come.ssrc joined (decided_within from width one) come.same come.come
