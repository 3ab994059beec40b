-- How many reports of one participant lie in a window: their intervals, but for the oldest, fit into it.
use Rattle.std.proofs.Common.{◌≡◌, ℕ, suc, ◌+◌, ◌-◌, ◌*◌, ◌/◌, ◌≤◌, ◌&&◌, nat_le, Bool, true, false, cond, List, [], ◌∷◌, length, filter, map, All, refl, sym, ap, ◌∙◌, arith, subst}
use Rattle.std.specs.List.{sum_by}
use Rattle.std.proofs.lemmas.Bool.{leb-true, and_parts}
use Rattle.std.proofs.lemmas.Nat.{le-div}
use Rattle.std.proofs.lemmas.List.{length-map}
use Rattle.std.proofs.lemmas.List.Elements.{All-head, All-tail}
use Rattle.std.proofs.lemmas.List.Sums.{sum_by-cons}
use Rattle.rtcp_engine.specs.answers.Histories.{History}
use Rattle.rtcp_engine.specs.state.Taken.{IsHistory}
use Rattle.rtcp_engine.specs.bounds.Sent.{Sent, reports_in, sent_at}
use Rattle.rtcp_engine.specs.answers.Setups.{is_within}
use Rattle.rtcp_engine.specs.bounds.Spacing.{AreSpaced, newest_moment, count_within}
use Rattle.rtcp_engine.proofs.LawLemmas.{sent_compounds_keep_apart}
use Rattle.rtcp_session.specs.Windows.{in_window, later_ones, intervals_of, Decided, Joined, is_inside, reports_within, decided_within, later_within}
use Rattle.rtcp_session.proofs.Deciding.{report_of, some_intervals, reports_decided_within}

abbrev HasInterval : Sent → Type 0
HasInterval report = 1 ≤ report.interval

-- the reports of a window so far, by a clock at which the participant's own began, with the moment of the newest of all
abbrev Fit : (from until start newest : ℕ) → List Sent → Type 0
Fit from until start newest [] = Unit {0}
Fit from until start newest (report ∷ earlier) =
    (report.moment ≤ newest) × (start + report.moment ≤ until)
    × (100000 * intervals_of (later_ones (report ∷ earlier)) + 2 * 121828 * from ≤ 2 * 121828 * (start + report.moment))

later_fit : (from until start newest moment : ℕ) (within : List Sent) → newest ≤ moment →
    Fit from until start newest within → Fit from until start moment within
later_fit from until start newest moment [] order h = tt
later_fit from until start newest moment (report ∷ earlier) order h = (omega (arith, order, h.0), h.1, h.2)

one_fits : (from until start newest : ℕ) (report : Sent) (within : List Sent) → from ≤ start + report.moment →
    start + report.moment ≤ until → newest ≤ report.moment
    → 100000 * report.interval ≤ 2 * 121828 * (report.moment - newest) → Fit from until start newest within →
    Fit from until start report.moment (report ∷ within)
one_fits from until start newest report [] after before order far h = (omega arith, before, omega (arith, after))
one_fits from until start newest report (earlier ∷ rest) after before order far h =
    let sum : intervals_of (report ∷ later_ones (earlier ∷ rest)) ≡ report.interval + intervals_of
    (later_ones (earlier ∷ rest)) =
    sum_by-cons (λ (sent : Sent). sent.interval) report (later_ones (earlier ∷ rest)) in
    (omega arith, before, omega (arith, sum, far, order, h.0, h.2))

fit_by : (from until start newest : ℕ) (report : Sent) (within : List Sent) (inside : Bool) →
    (nat_le from (start + report.moment) && nat_le (start + report.moment) until) ≡ inside
    → newest ≤ report.moment → 100000 * report.interval ≤ 2 * 121828 * (report.moment - newest) →
    Fit from until start newest within
    → Fit from until start report.moment (cond inside (report ∷ within) within)
fit_by from until start newest report within true is order far h =
    let parts = and_parts _ _ is in
    one_fits from until start newest report within (leb-true _ _ parts.0) (leb-true _ _ parts.1) order far h
fit_by from until start newest report within false is order far h = later_fit from until start newest report.moment
    within order h

fit_all : (from width start : ℕ) (reports : List Sent) → AreSpaced reports → All HasInterval reports
    → Fit from (from + width) start (newest_moment reports) (filter (is_inside from width start) reports)
fit_all from width start [] spaced some = tt
fit_all from width start (report ∷ earlier) spaced some =
    let far = spaced.0 in
    let one = All-head HasInterval report earlier some in
    fit_by from (from + width) start (newest_moment earlier) report (filter (is_inside from width start) earlier)
    (is_inside from width start report) refl (omega (arith, far, one)) far
    (fit_all from width start earlier spaced.1 (All-tail HasInterval report earlier some))

fit_in : (from width start newest : ℕ) (within : List Sent) → Fit from (from + width) start newest within →
    100000 * intervals_of (later_ones within) ≤ 2 * 121828 * width
fit_in from width start newest [] h = omega arith
fit_in from width start newest (report ∷ earlier) h = omega (arith, h.1, h.2)

pub intervals_fit : (joined : Joined) (from width : ℕ) → IsHistory joined.history →
    100000 * intervals_of (later_ones (reports_within from width joined)) ≤ 2 * 121828 * width
intervals_fit joined from width is =
    let history = joined.history in
    let reports = reports_in (sent_at history) in
    fit_in from width joined.start (newest_moment reports) (reports_within from width joined)
    (fit_all from width joined.start reports (sent_compounds_keep_apart history is).spaced (some_intervals history))

-- the same by what they were decided by
abbrev pub spans_of : List Decided → ℕ
spans_of all = sum_by (λ decided. decided.report.interval) all

same_spans : (all : List Decided) → spans_of (later_ones all) ≡ intervals_of (later_ones (map report_of all))
same_spans [] = refl
same_spans (newest ∷ []) = refl
same_spans (newest ∷ before ∷ earlier) =
    sum_by-cons (λ (decided : Decided). decided.report.interval) newest (later_ones (before ∷ earlier))
    ∙ ap (λ (n : ℕ). newest.report.interval + n) (same_spans (before ∷ earlier))
    ∙ sym (sum_by-cons (λ (sent : Sent). sent.interval) newest.report (later_ones (map report_of (before ∷ earlier))))

pub spans_fit : (joined : Joined) (from width : ℕ) → IsHistory joined.history →
    100000 * spans_of (later_within from width joined) ≤ 2 * 121828 * width
spans_fit joined from width is =
    let same : spans_of (later_within from width joined) ≡ intervals_of
    (later_ones (reports_within from width joined)) =
    same_spans (decided_within from width joined) ∙ ap (λ (reports : List Sent). intervals_of (later_ones reports))
    (reports_decided_within from width joined) in
    subst (λ (n : ℕ). 100000 * n ≤ 2 * 121828 * width) (sym same) (intervals_fit joined from width is)

-- ---- Counts

-- how many come after one that may count, and it, if it does
abbrev pub more_if : (counts : Bool) → ℕ → ℕ
more_if counts n = cond counts (suc n) n

pub filter_cons : {A : Type 0} (test : A → Bool) (newest : A) (earlier : List A) →
    length (filter test (newest ∷ earlier)) ≡ more_if (test newest) (length (filter test earlier))
filter_cons {A} test newest earlier =
    elim (test newest) as (λ b. length (cond b (newest ∷ filter test earlier) (filter test earlier))
    ≡ more_if b (length (filter test earlier))) [ true ↦ refl | false ↦ refl ]

one_fewer : {A : Type 0} (all : List A) → length all ≤ 1 + length (later_ones all)
one_fewer {A} [] = omega arith
one_fewer {A} (newest ∷ []) = omega arith
one_fewer {A} (newest ∷ before ∷ earlier) =
    let rest = one_fewer (before ∷ earlier) in
    omega (arith, rest)

-- A participant sends one report in a window beside the later ones.
pub one_and_later : (from width : ℕ) (joined : Joined) → length (reports_within from width joined) ≤ 1 + length
    (later_within from width joined)
one_and_later from width joined =
    let same = ap length (reports_decided_within from width joined) in
    let mapped = length-map (decided_within from width joined) report_of in
    let fewer = one_fewer (decided_within from width joined) in
    omega (arith, same, mapped, fewer)

-- so many of at least so much each
pub counted_up : {A : Type 0} (size : A → ℕ) (c b : ℕ) (all : List A) → All (λ x. c ≤ b * size x) all →
    c * length all ≤ b * sum_by size all
counted_up {A} size c b [] h = omega arith
counted_up {A} size c b (newest ∷ earlier) h =
    let P : A → Type 0 = λ (x : A). c ≤ b * size x in
    let rest = counted_up size c b earlier (All-tail P newest earlier h) in
    let one : c ≤ b * size newest = All-head P newest earlier h in
    let sum = sum_by-cons size newest earlier in
    subst (λ (n : ℕ). c * suc (length earlier) ≤ b * n) (sym sum)
    (plus (length earlier) (size newest) (sum_by size earlier) one rest)
  where
    plus : (n i sum : ℕ) → c ≤ b * i → c * n ≤ b * sum → c * suc n ≤ b * (i + sum)
    plus n i sum one rest = omega (arith, one, rest)

-- the intervals of so many, and what they fit into
few_of : (n sum least width : ℕ) → 1 ≤ least → least * n ≤ 1 * sum → 100000 * sum ≤ 2 * 121828 * width →
    n ≤ 2 * 121828 * width / (100000 * least)
few_of n sum least width some up fit = le-div n (2 * 121828 * width) (100000 * least) (omega (arith, some))
    (chain up fit)
  where
    chain : least * n ≤ 1 * sum → 100000 * sum ≤ 2 * 121828 * width → n * (100000 * least) ≤ 2 * 121828 * width
    chain h k = omega (arith, h, k)

alone_least : (least n : ℕ) → least ≤ n → least ≤ 1 * n
alone_least least n h = omega (arith, h)

pub few_within : (joined : Joined) (from width least : ℕ) → IsHistory joined.history → 1 ≤ least →
    All (λ decided. least ≤ decided.report.interval) (later_within from width joined)
    → length (reports_within from width joined) ≤ 1 + 2 * 121828 * width / (100000 * least)
few_within joined from width least is some h =
    let later : List Decided = later_within from width joined in
    let up = counted_up (λ (decided : Decided). decided.report.interval) least 1 later
    (λ k d inside. alone_least least _ (h k d inside)) in
    let few = few_of (length later) (spans_of later) least width some up (spans_fit joined from width is) in
    let more = one_and_later from width joined in
    omega (arith, few, more)

-- ---- By its own clock

-- a participant whose clock is that of the window
abbrev alone : History → Joined
alone history = record { history = history; start = 0 }

none_more : (n : ℕ) → 0 + n ≡ n
none_more n = omega arith

own_window : (from width : ℕ) (history : History) → reports_within from width (alone history) ≡ in_window from width
    (reports_in (sent_at history))
own_window from width history = λ i. filter (λ report. is_within from (from + width) (none_more report.moment i))
    (reports_in (sent_at history))

pub own_intervals_fit : (history : History) (from width : ℕ) → IsHistory history →
    100000 * intervals_of (later_ones (in_window from width (reports_in (sent_at history)))) ≤ 2 * 121828 * width
own_intervals_fit history from width is =
    subst (λ (reports : List Sent). 100000 * intervals_of (later_ones reports) ≤ 2 * 121828 * width)
    (own_window from width history) (intervals_fit (alone history) from width is)

pub own_few : (history : History) (from width least : ℕ) → IsHistory history → 1 ≤ least →
    All (λ report. least ≤ report.interval) (later_ones (in_window from width (reports_in (sent_at history))))
    → count_within from width (reports_in (sent_at history)) ≤ 1 + 2 * 121828 * width / (100000 * least)
own_few history from width least is some h =
    let reports : List Sent = in_window from width (reports_in (sent_at history)) in
    let up = counted_up (λ (sent : Sent). sent.interval) least 1 (later_ones reports)
    (λ k d inside. alone_least least _ (h k d inside)) in
    let few = few_of (length (later_ones reports)) (intervals_of (later_ones reports)) least width some up
    (own_intervals_fit history from width is) in
    let more = one_fewer reports in
    omega (arith, few, more)

-- ---- Those of long intervals alone

abbrev is_long : (least : ℕ) → Sent → Bool
is_long least report = nat_le least report.interval

long_fit : (least : ℕ) (reports : List Sent) → least * length (filter (is_long least) reports) ≤ intervals_of reports
long_fit least [] = omega arith
long_fit least (report ∷ earlier) =
    let sum = sum_by-cons (λ (sent : Sent). sent.interval) report earlier in
    subst (λ (n : ℕ). least * n ≤ intervals_of (report ∷ earlier)) (sym (filter_cons (is_long least) report earlier))
    (subst (λ (n : ℕ). least * more_if (is_long least report) (length (filter (is_long least) earlier)) ≤ n)
    (sym sum)
    (by (is_long least report) refl (length (filter (is_long least) earlier)) (intervals_of earlier)
    (long_fit least earlier)))
  where
    by : (long : Bool) → is_long least report ≡ long → (n total : ℕ) → least * n ≤ total →
        least * more_if long n ≤ report.interval + total
    by true is n total rest = (let enough = leb-true least report.interval is in omega (arith, enough, rest))
    by false is n total rest = omega (arith, rest)

long_later : (least : ℕ) (reports : List Sent) → length (filter (is_long least) reports) ≤ 1 + length
    (filter (is_long least) (later_ones reports))
long_later least [] = omega arith
long_later least (report ∷ []) =
    let cons = filter_cons (is_long least) report [] in
    let most = by (is_long least report) in
    omega (arith, cons, most)
  where
    by : (long : Bool) → more_if long 0 ≤ 1
    by true = omega arith
    by false = omega arith
long_later least (report ∷ before ∷ earlier) =
    let all = filter_cons (is_long least) report (before ∷ earlier) in
    let later = filter_cons (is_long least) report (later_ones (before ∷ earlier)) in
    let more = by (is_long least report) (length (filter (is_long least) (before ∷ earlier)))
    (length (filter (is_long least) (later_ones (before ∷ earlier)))) (long_later least (before ∷ earlier)) in
    omega (arith, all, later, more)
  where
    by : (long : Bool) (n m : ℕ) → n ≤ 1 + m → more_if long n ≤ 1 + more_if long m
    by true n m h = omega (arith, h)
    by false n m h = h

pub own_long_few : (history : History) (from width least : ℕ) → IsHistory history → 1 ≤ least
    → length (filter (λ report. nat_le least report.interval) (in_window from width (reports_in (sent_at history))))
    ≤ 1 + 2 * 121828 * width / (100000 * least)
own_long_few history from width least is some =
    let reports : List Sent = in_window from width (reports_in (sent_at history)) in
    let fits = long_fit least (later_ones reports) in
    let few = few_of (length (filter (is_long least) (later_ones reports))) (intervals_of (later_ones reports)) least
    width some (omega (arith, fits)) (own_intervals_fit history from width is) in
    let most = long_later least reports in
    omega (arith, most, few)
