-- The waits of the participants of a session: each is long for its load, and no two of one participant are open at
-- once.
use Rattle.std.proofs.Common.{◌≡◌, ℕ, suc, ◌+◌, ◌-◌, ◌*◌, ◌^◌, ◌<◌, ◌≤◌, ◌&&◌, nat_le, nat_lt, not, Bool, true, false, cond, List, [], ◌∷◌, ◌++◌, length, map, get_or, filter, All, refl, sym, ap, ◌∙◌, arith, subst}
use Rattle.std.specs.List.{sum_by}
use Rattle.std.proofs.Math.Nat.{le_trans, mul-le-mul_left}
use Rattle.std.proofs.lemmas.Bool.{and_parts, leb-true, leb-false, ltb-true}
use Rattle.std.proofs.lemmas.List.{length-append}
use Rattle.std.proofs.lemmas.List.Elements.{All-nil, All-cons, All-append, All-head, All-tail, All-filter, filter-append}
use Rattle.std.proofs.lemmas.List.Sums.{sum_by-cons}
use Rattle.rtcp_timer.specs.declared.load.Load.{Load}
use Rattle.rtcp_engine.specs.state.Taken.{IsHistory}
use Rattle.rtcp_engine.specs.bounds.Spacing.{AreSpaced, newest_moment}
use Rattle.rtcp_engine.proofs.LawLemmas.{sent_compounds_keep_apart}
use Rattle.rtcp_session.specs.Windows.{later_ones, Decided, load_at, decided_at, Joined, is_inside, decided_within, later_within}
use Rattle.rtcp_session.specs.Crowds.{sent_as, later_as, total_as, those_as, Terms, HasAtMost, CountsMost, IsCrowd}
use Rattle.rtcp_session.specs.Waits.{Wait, wait_between, waits_over, waits_within, all_waits, is_open, open_at, reports_next_as, waits_as, CountsWaiting, HasBandwidth, IsCounted}
use Rattle.rtcp_session.proofs.Deciding.{report_of, IsOfLoad, some_interval, reports_decided, intervals_decided}
use Rattle.rtcp_session.proofs.Loads.{IsLoadOf, loads_of_setups}
use Rattle.rtcp_session.proofs.Pacing.{more_if, filter_cons}
use Rattle.rtcp_session.proofs.Waiting.{IsWait}

-- ---- One participant

abbrev pub IsGood : Terms → Decided → Type 0
IsGood terms decided =
    IsOfLoad decided × IsLoadOf decided.setup (load_at decided) × HasAtMost terms decided.setup

module _ (terms : Terms) (from width start : ℕ) where
  abbrev IsOf : Wait → Type 0
  IsOf wait = IsWait 100000 (2 * 121828) terms.sender_bw terms.receiver_bw from width wait

  -- the reports of the window so far, with the moment of the newest of all
  abbrev Fit : (newest : ℕ) → List Decided → Type 0
  Fit newest [] = Unit {0}
  Fit newest (decided ∷ earlier) =
      (decided.report.moment ≤ newest) × (from ≤ start + decided.report.moment)
      × (start + decided.report.moment ≤ from + width) × All IsOf (waits_over start (decided ∷ earlier))

  later_fit : (newest moment : ℕ) (within : List Decided) → newest ≤ moment → Fit newest within → Fit moment within
  later_fit newest moment [] order h = tt
  later_fit newest moment (decided ∷ earlier) order h = (omega (arith, order, h.0), h.1, h.2, h.3)

  one_wait : (newest : ℕ) (decided before : Decided) → IsGood terms decided →
      newest ≤ decided.report.moment →
      100000 * decided.report.interval ≤ 2 * 121828 * (decided.report.moment - newest) →
      start + decided.report.moment ≤ from + width → before.report.moment ≤ newest →
      from ≤ start + before.report.moment →
      IsOf (wait_between start before decided)
  one_wait newest decided before good order far until older after =
      let some = some_interval decided good.0 in
      record {
        after = after;
        order = omega (arith, far, some, older);
        before = until;
        long = subst (λ (n : ℕ). 100000 * n ≤ 2 * 121828 * ((start + decided.report.moment) -
            (start + before.report.moment))) good.0 (omega (arith, far, older, order));
        for_senders = omega (arith, good.1.for_senders, good.2.for_senders);
        for_others = omega (arith, good.1.for_others, good.2.for_others);
        some = good.1.some;
        some_more = good.1.some_more;
        ordered = good.1.ordered;
      }

  one_fits : (newest : ℕ) (decided : Decided) (within : List Decided) → IsGood terms decided →
      newest ≤ decided.report.moment →
      100000 * decided.report.interval ≤ 2 * 121828 * (decided.report.moment - newest) →
      from ≤ start + decided.report.moment → start + decided.report.moment ≤ from + width → Fit newest within →
      Fit decided.report.moment (decided ∷ within)
  one_fits newest decided [] good order far after until h = (omega arith, after, until, All-nil IsOf)
  one_fits newest decided (before ∷ earlier) good order far after until h = (
    omega arith,
    after,
    until,
    All-cons IsOf (wait_between start before decided) (waits_over start (before ∷ earlier))
        (one_wait newest decided before good order far until h.0 h.1) h.3,
  )

  fit_by : (newest : ℕ) (decided : Decided) (within : List Decided) (inside : Bool) →
      (nat_le from (start + decided.report.moment) && nat_le (start + decided.report.moment) (from + width)) ≡ inside
      → IsGood terms decided → newest ≤ decided.report.moment →
      100000 * decided.report.interval ≤ 2 * 121828 * (decided.report.moment - newest) → Fit newest within →
      Fit decided.report.moment (cond inside (decided ∷ within) within)
  fit_by newest decided within true is good order far h =
      let parts = and_parts _ _ is in
      one_fits newest decided within good order far (leb-true _ _ parts.0) (leb-true _ _ parts.1) h
  fit_by newest decided within false is good order far h =
      later_fit newest decided.report.moment within order h

  fit_all : (all : List Decided) → AreSpaced (map report_of all) → All (IsGood terms) all →
      Fit (newest_moment (map report_of all)) (filter (λ decided. is_inside from width start decided.report) all)
  fit_all [] spaced good = tt
  fit_all (decided ∷ earlier) spaced good =
      let far = spaced.0 in
      let one = All-head (IsGood terms) decided earlier good in
      let some = some_interval decided one.0 in
      fit_by (newest_moment (map report_of earlier)) decided
      (filter (λ decided. is_inside from width start decided.report) earlier)
      (is_inside from width start decided.report) refl one (omega (arith, far, some)) far
      (fit_all earlier spaced.1 (All-tail (IsGood terms) decided earlier good))

  fit_in : (newest : ℕ) (within : List Decided) → Fit newest within → All IsOf (waits_over start within)
  fit_in newest [] h = All-nil IsOf
  fit_in newest (decided ∷ earlier) h = h.3

-- each report of a participant with its load, and the bandwidth then
pub good_ones : (terms : Terms) (joined : Joined) → HasBandwidth terms joined →
    All (IsGood terms) (decided_at joined.history)
good_ones terms joined has =
    let loads = loads_of_setups joined.history has.stands in
    let intervals = intervals_decided joined.history in
    λ k d inside. (intervals k d inside, loads k d inside, has.bandwidth k d inside)

-- the greatest bandwidth that there is
pub widest : Terms
widest = record { sender_bw = 2 ^ 30; receiver_bw = 2 ^ 30; size = 0; percent = 0 }

pub has_widest : (joined : Joined) → IsHistory joined.history → HasBandwidth widest joined
unfolding widest
has_widest joined is =
    let loads = loads_of_setups joined.history is in
    record {
      stands = is;
      bandwidth = λ k d inside.
          record { for_senders = (loads k d inside).most; for_others = (loads k d inside).most_of_others };
    }

pub waits_are : (terms : Terms) (from width : ℕ) (joined : Joined) → HasBandwidth terms joined →
    All (IsWait 100000 (2 * 121828) terms.sender_bw terms.receiver_bw from width) (waits_within from width joined)
waits_are terms from width joined has =
    let history = joined.history in
    let all : List Decided = decided_at history in
    let spaced : AreSpaced (map report_of all) =
    subst AreSpaced (sym (reports_decided history)) (sent_compounds_keep_apart history has.stands).spaced in
    fit_in terms from width joined.start (newest_moment (map report_of all)) (decided_within from width joined)
    (fit_all terms from width joined.start all spaced (good_ones terms joined has))

-- ---- All participants

pub all_are_waits : (terms : Terms) (from width : ℕ) (all : List Joined) → All (HasBandwidth terms) all →
    All (IsWait 100000 (2 * 121828) terms.sender_bw terms.receiver_bw from width) (all_waits from width all)
all_are_waits terms from width [] h = All-nil (IsWait 100000 (2 * 121828) terms.sender_bw terms.receiver_bw from width)
all_are_waits terms from width (joined ∷ others) h =
    let one = All-head (HasBandwidth terms) joined others h in
    let rest = all_are_waits terms from width others (All-tail (HasBandwidth terms) joined others h) in
    All-append (IsWait 100000 (2 * 121828) terms.sender_bw terms.receiver_bw from width)
    (waits_within from width joined)
    (all_waits from width others)
    (waits_are terms from width joined one)
    rest

-- ---- Waits and later reports

pub as_many : (start : ℕ) (all : List Decided) → length (waits_over start all) ≡ length (later_ones all)
as_many start [] = refl
as_many start (newest ∷ []) = refl
as_many start (newest ∷ before ∷ earlier) = ap suc (as_many start (before ∷ earlier))

pub all_later : (from width : ℕ) (all : List Joined) →
    sum_by (λ joined. length (later_within from width joined)) all ≡ length (all_waits from width all)
all_later from width [] = refl
all_later from width (joined ∷ others) =
    let sum = sum_by-cons (λ (joined : Joined). length (later_within from width joined)) joined others in
    let one = as_many joined.start (decided_within from width joined) in
    let rest = all_later from width others in
    let both = length-append (waits_within from width joined) (all_waits from width others) in
    omega (arith, sum, one, rest, both)

role_append : (sender : Bool) (one other : List Wait) →
    length (waits_as sender (one ++ other)) ≡ length (waits_as sender one) + length (waits_as sender other)
role_append true one other =
    ap length (filter-append (reports_next_as true) one other) ∙ length-append (waits_as true one) (waits_as true other)
role_append false one other =
    ap length (filter-append (reports_next_as false) one other)
    ∙ length-append (waits_as false one) (waits_as false other)

as_many_so : (sender : Bool) (start : ℕ) (all : List Decided) →
    length (waits_as sender (waits_over start all)) ≡ length (sent_as sender (later_ones all))
as_many_so true start [] = refl
as_many_so false start [] = refl
as_many_so true start (newest ∷ []) = refl
as_many_so false start (newest ∷ []) = refl
as_many_so true start (newest ∷ before ∷ earlier) =
    filter_cons (reports_next_as true) (wait_between start before newest) (waits_over start (before ∷ earlier))
    ∙ ap (more_if (load_at newest).we_sent) (as_many_so true start (before ∷ earlier))
    ∙ sym (filter_cons (λ (decided : Decided). (load_at decided).we_sent) newest (later_ones (before ∷ earlier)))
as_many_so false start (newest ∷ before ∷ earlier) =
    filter_cons (reports_next_as false) (wait_between start before newest) (waits_over start (before ∷ earlier))
    ∙ ap (more_if (not (load_at newest).we_sent)) (as_many_so false start (before ∷ earlier))
    ∙ sym (filter_cons (λ (decided : Decided). not (load_at decided).we_sent) newest (later_ones (before ∷ earlier)))

pub all_later_so : (sender : Bool) (from width : ℕ) (all : List Joined) →
    total_as sender from width all ≡ length (waits_as sender (all_waits from width all))
all_later_so true from width [] = refl
all_later_so false from width [] = refl
all_later_so sender from width (joined ∷ others) =
    let sum = sum_by-cons (λ (joined : Joined). length (later_as sender from width joined)) joined others in
    let one = as_many_so sender joined.start (decided_within from width joined) in
    let rest = all_later_so sender from width others in
    let both = role_append sender (waits_within from width joined) (all_waits from width others) in
    omega (arith, sum, one, rest, both)

-- What holds of the load of each later report holds of each wait.
pub of_loads : (P : Load → Type 0) (start : ℕ) (all : List Decided) → All (λ decided. P (load_at decided))
    (later_ones all) → All (λ wait. P (load_at wait.next)) (waits_over start all)
of_loads P start [] h = All-nil (λ (wait : Wait). P (load_at wait.next))
of_loads P start (newest ∷ []) h = All-nil (λ (wait : Wait). P (load_at wait.next))
of_loads P start (newest ∷ before ∷ earlier) h =
    All-cons (λ (wait : Wait). P (load_at wait.next)) (wait_between start before newest)
    (waits_over start (before ∷ earlier))
    (All-head (λ (decided : Decided). P (load_at decided)) newest (later_ones (before ∷ earlier)) h)
    (of_loads P start (before ∷ earlier)
    (All-tail (λ (decided : Decided). P (load_at decided)) newest (later_ones (before ∷ earlier)) h))

pub of_all_loads : (P : Load → Type 0) (from width : ℕ) (all : List Joined) →
    All (λ joined. All (λ decided. P (load_at decided)) (later_within from width joined)) all →
    All (λ wait. P (load_at wait.next)) (all_waits from width all)
of_all_loads P from width [] h = All-nil (λ (wait : Wait). P (load_at wait.next))
of_all_loads P from width (joined ∷ others) h =
    let Each : Joined → Type 0 = λ (joined : Joined). All (λ decided. P (load_at decided))
    (later_within from width joined) in
    All-append (λ (wait : Wait). P (load_at wait.next)) (waits_within from width joined) (all_waits from width others)
    (of_loads P joined.start (decided_within from width joined) (All-head Each joined others h))
    (of_all_loads P from width others (All-tail Each joined others h))

-- ---- One at a moment

abbrev IsLong : Wait → Type 0
IsLong wait = wait.since < wait.until

none_after : (start : ℕ) (decided : Decided) (earlier : List Decided) →
    All IsLong (waits_over start (decided ∷ earlier)) →
    All (λ wait. wait.until ≤ start + decided.report.moment) (waits_over start (decided ∷ earlier))
none_after start decided [] h = All-nil (λ (wait : Wait). wait.until ≤ start + decided.report.moment)
none_after start decided (before ∷ earlier) h =
    let one = All-head IsLong (wait_between start before decided) (waits_over start (before ∷ earlier)) h in
    let rest = none_after start before earlier
    (All-tail IsLong (wait_between start before decided) (waits_over start (before ∷ earlier)) h) in
    All-cons (λ (wait : Wait). wait.until ≤ start + decided.report.moment) (wait_between start before decided)
    (waits_over start (before ∷ earlier))
    (omega arith) (λ k d inside. (let early = rest k d inside in omega (arith, early, one)))

none_open : (moment last : ℕ) (waits : List Wait) → last < moment → All (λ wait. wait.until ≤ last) waits →
    length (open_at moment waits) ≡ 0
none_open moment last [] beyond h = refl
none_open moment last (wait ∷ others) beyond h =
    let P : Wait → Type 0 = λ (wait : Wait). wait.until ≤ last in
    let rest = none_open moment last others beyond (All-tail P wait others h) in
    filter_cons (is_open moment) wait others
    ∙ by (is_open moment wait) refl (length (open_at moment others)) rest (All-head P wait others h)
  where
    by : (opens : Bool) → (nat_lt wait.since moment && nat_le moment wait.until) ≡ opens → (n : ℕ) → n ≡ 0 →
        wait.until ≤ last → more_if opens n ≡ 0
    by true is n none early =
        let parts = and_parts (nat_lt wait.since moment) (nat_le moment wait.until) is in
        let inside : moment ≤ wait.until = leb-true moment wait.until parts.1 in
        absurd (omega (arith, inside, early, beyond))
    by false is n none early = none

pub one_open : (moment start : ℕ) (all : List Decided) → All IsLong (waits_over start all) →
    length (open_at moment (waits_over start all)) ≤ 1
one_open moment start [] h = omega arith
one_open moment start (newest ∷ []) h = omega arith
one_open moment start (newest ∷ before ∷ earlier) h =
    let wait : Wait = wait_between start before newest in
    let others : List Wait = waits_over start (before ∷ earlier) in
    let shorter = All-tail IsLong wait others h in
    let rest = one_open moment start (before ∷ earlier) shorter in
    let all = filter_cons (is_open moment) wait others in
    let most = by wait others (is_open moment wait) refl (none_after start before earlier shorter) rest in
    omega (arith, all, most)
  where
    by : (wait : Wait) (others : List Wait) (opens : Bool) →
        (nat_lt wait.since moment && nat_le moment wait.until) ≡ opens →
        All (λ other. other.until ≤ wait.since) others → length (open_at moment others) ≤ 1 →
        more_if opens (length (open_at moment others)) ≤ 1
    by wait others true is early rest =
        let parts = and_parts _ _ is in
        let begun = ltb-true wait.since moment parts.0 in
        let none = none_open moment wait.since others begun early in
        omega (arith, none)
    by wait others false is early rest = rest

abbrev Stands : Joined → Type 0
Stands joined = IsHistory joined.history

one_each : (from width moment : ℕ) (joined : Joined) → Stands joined →
    length (open_at moment (waits_within from width joined)) ≤ 1
one_each from width moment joined is =
    let waits = waits_are widest from width joined (has_widest joined is) in
    one_open moment joined.start (decided_within from width joined) (λ k d inside. (waits k d inside).order)

open_in : (from width moment : ℕ) (joined : Joined) (others : List Joined) →
    open_at moment (all_waits from width (joined ∷ others))
    ≡ open_at moment (waits_within from width joined) ++ open_at moment (all_waits from width others)
open_in from width moment joined others =
    filter-append (is_open moment) (waits_within from width joined) (all_waits from width others)

-- No more wait at a moment than take part,
pub few_open : (from width moment : ℕ) (all : List Joined) → All Stands all →
    length (open_at moment (all_waits from width all)) ≤ length all
few_open from width moment [] h = omega arith
few_open from width moment (joined ∷ others) h =
    let one = one_each from width moment joined (All-head Stands joined others h) in
    let rest = few_open from width moment others (All-tail Stands joined others h) in
    let both = ap length (open_in from width moment joined others) in
    let parts = length-append (open_at moment (waits_within from width joined))
    (open_at moment (all_waits from width others)) in
    omega (arith, one, rest, both, parts)

pub fewer_both : {A : Type 0} (p q : A → Bool) (waits : List A) →
    (length (filter p (filter q waits)) ≤ length (filter p waits))
    × (length (filter p (filter q waits)) ≤ length (filter q waits))
fewer_both {A} p q [] = (omega arith, omega arith)
fewer_both {A} p q (wait ∷ others) =
    let rest = fewer_both p q others in
    let some = filter_cons p wait others in
    let most = filter_cons q wait others in
    elim (q wait) as (λ b. (length (filter p (cond b (wait ∷ filter q others) (filter q others)))
    ≤ length (filter p (wait ∷ others))) × (length (filter p (cond b (wait ∷ filter q others) (filter q others)))
    ≤ length (cond b (wait ∷ filter q others) (filter q others)))) [
      | true ↦
          let both = filter_cons p wait (filter q others) in
          let one = same (p wait) (length (filter p (filter q others))) (length (filter p others)) rest.0 in
          let other = at_most (p wait) (length (filter p (filter q others))) (length (filter q others)) rest.1 in
          (omega (arith, both, some, one), omega (arith, both, other))
      | false ↦
          let one = longer (p wait) (length (filter p (filter q others))) (length (filter p others)) rest.0 in
          (omega (arith, some, one), rest.1)
    ]
  where
    same : (b : Bool) (m n : ℕ) → m ≤ n → more_if b m ≤ more_if b n
    same true m n h = omega (arith, h)
    same false m n h = h

    at_most : (b : Bool) (m n : ℕ) → m ≤ n → more_if b m ≤ suc n
    at_most true m n h = omega (arith, h)
    at_most false m n h = omega (arith, h)

    longer : (b : Bool) (m n : ℕ) → m ≤ n → m ≤ more_if b n
    longer true m n h = omega (arith, h)
    longer false m n h = h

in_both : (sender : Bool) (moment : ℕ) (waits : List Wait) →
    (length (waits_as sender (open_at moment waits)) ≤ length (waits_as sender waits))
    × (length (waits_as sender (open_at moment waits)) ≤ length (open_at moment waits))
in_both true moment waits = fewer_both (reports_next_as true) (is_open moment) waits
in_both false moment waits = fewer_both (reports_next_as false) (is_open moment) waits

one_of_role : (sender : Bool) (from width moment : ℕ) (joined : Joined) → Stands joined → (n : ℕ) →
    length (waits_as sender (open_at moment (waits_within from width joined))) + n
    ≤ more_if (nat_le 1 (length (later_as sender from width joined))) n
one_of_role sender from width moment joined is n =
    let one = one_each from width moment joined is in
    let both = in_both sender moment (waits_within from width joined) in
    let many = as_many_so sender joined.start (decided_within from width joined) in
    by (length (later_as sender from width joined)) (nat_le 1 (length (later_as sender from width joined))) refl
    (length (waits_as sender (open_at moment (waits_within from width joined)))) (omega (arith, both.0, many))
    (omega (arith, both.1, one))
  where
    by : (later : ℕ) (some : Bool) → nat_le 1 later ≡ some → (m : ℕ) → m ≤ later → m ≤ 1 → m + n ≤ more_if some n
    by later true is m h k = omega (arith, k)
    by later false is m h k =
        let none = leb-false 1 later is in
        omega (arith, none, h)

-- and of a role no more than send a later report in it.
pub few_open_so : (sender : Bool) (from width moment : ℕ) (all : List Joined) → All Stands all →
    length (waits_as sender (open_at moment (all_waits from width all))) ≤ length (those_as sender from width all)
few_open_so true from width moment [] h = omega arith
few_open_so false from width moment [] h = omega arith
few_open_so sender from width moment (joined ∷ others) h =
    let one = one_of_role sender from width moment joined (All-head Stands joined others h)
    (length (those_as sender from width others)) in
    let rest = few_open_so sender from width moment others (All-tail Stands joined others h) in
    let both = ap (λ (waits : List Wait). length (waits_as sender waits)) (open_in from width moment joined others) in
    let parts = role_append sender (open_at moment (waits_within from width joined))
    (open_at moment (all_waits from width others)) in
    let all = filter_cons (λ (joined : Joined). nat_le 1 (length (later_as sender from width joined))) joined others in
    omega (arith, one, rest, both, parts, all)

-- ---- A crowd counts those who wait

crowd_counts : (percent from width : ℕ) (all : List Joined) → All Stands all →
    All (λ joined. All (λ decided. CountsMost percent from width all (load_at decided))
    (later_within from width joined))
    all → (moment : ℕ) →
    All (λ wait. CountsWaiting percent (all_waits from width all) moment (load_at wait.next))
    (open_at moment (all_waits from width all))
crowd_counts percent from width all stands counts moment =
    let each = of_all_loads (CountsMost percent from width all) from width all counts in
    let those = All-filter (is_open moment) (λ (wait : Wait). CountsMost percent from width all (load_at wait.next))
    (all_waits from width all) each in
    let few = few_open from width moment all stands in
    λ k d inside.
    let load : Load = load_at (get_or (open_at moment (all_waits from width all)) k d).next in
    let most = those k d inside in
    record {
      everyone = le_trans (mul-le-mul_left 100 few) most.everyone;
      alike = le_trans (mul-le-mul_left 100 (few_open_so load.we_sent from width moment all stands)) most.alike;
    }

-- Where each counts one in so many of all that report in a window, those who wait do so.
pub crowd_is_counted : (terms : Terms) (from width : ℕ) (all : List Joined) → IsCrowd terms from width all →
    IsCounted terms from width all
crowd_is_counted terms from width all crowd = record {
  each = λ k d inside.
      let part = crowd k d inside in
      record { stands = part.stands; bandwidth = part.bandwidth };
  counted = λ k d inside.
      crowd_counts terms.percent from width all (λ k d inside. (crowd k d inside).stands)
      (λ k d inside. (crowd k d inside).counts) (get_or (all_waits from width all) k d).until;
}
