-- Waits without their first microseconds: each is as long for its load as before, if the time is stretched.
use Rattle.std.proofs.Common.{◌≡◌, ℕ, ◌+◌, ◌-◌, ◌*◌, ◌/◌, ◌<◌, ◌≤◌, nat_le, Bool, true, false, cond, List, [], ◌∷◌, length, map, filter, get_or, All, refl, sym, ap, ◌∙◌, arith, subst}
use Rattle.std.proofs.Math.Nat.{le_trans, mul-le-mul_left}
use Rattle.std.proofs.lemmas.Bool.{and_from, le-leb}
use Rattle.std.proofs.lemmas.Nat.{le-div}
use Rattle.std.proofs.lemmas.List.Elements.{All-nil, All-cons, All-append, All-head, All-tail, All-map}
use Rattle.std.proofs.lemmas.List.Sums.{sum_by-cons}
use Rattle.rtcp_engine.specs.answers.Histories.{History}
use Rattle.rtcp_engine.specs.state.Taken.{IsHistory}
use Rattle.rtcp_engine.specs.bounds.Sent.{Sent}
use Rattle.rtcp_engine.specs.bounds.Spacing.{is_between}
use Rattle.rtcp_engine.proofs.LawLemmas.{sent_compounds_keep_apart}
use Rattle.rtcp_timer.specs.Loads.{interval_of, with_headers}
use Rattle.rtcp_session.specs.Windows.{Decided, load_at, decided_at, Joined, is_inside, decided_within, reports_within}
use Rattle.rtcp_session.specs.Crowds.{total_reports, total_octets, total_compounds, Terms}
use Rattle.rtcp_session.specs.Waits.{Wait, wait_between, waits_over, waits_within, all_waits, averages_of, rtcp_bw, reports_next_as, waits_as, HasBandwidth, HasAverage, KeepsToAverage}
use Rattle.rtcp_session.specs.Deliveries.{opened_after, waits_after, IsCountedAfter, least_wait, carried_after, octets_after}
use Rattle.rtcp_session.proofs.Deciding.{report_of, reports_decided}
use Rattle.rtcp_session.proofs.Pacing.{more_if, filter_cons}
use Rattle.rtcp_session.proofs.Compounds.{nine_more_each}
use Rattle.rtcp_session.proofs.Sessions.{few_of, one_each, octets_each, octets_waited, percent_of}
use Rattle.rtcp_session.proofs.Waiting.{IsWait, averages_fit, others_averages_fit}
use Rattle.rtcp_session.proofs.Waited.{widest, has_widest, waits_are, all_are_waits, all_later, fewer_both}

-- ---- The least wait

-- In a window of any width lies at most one more than so many microseconds fit into it.
abbrev AreFew : List Decided → Type 0
AreFew all = (from width : ℕ) →
    length (filter (λ decided. is_between from (from + width) decided.report) all) ≤ 1 + width / 2052074

few_in_all : (test : Sent → Bool) (all : List Decided) →
    length (filter (λ decided. test decided.report) all) ≡ length (filter test (map report_of all))
few_in_all test [] = refl
few_in_all test (decided ∷ earlier) =
    filter_cons (λ (decided : Decided). test decided.report) decided earlier
    ∙ ap (more_if (test decided.report)) (few_in_all test earlier)
    ∙ sym (filter_cons test decided.report (map report_of earlier))

all_few : (history : History) → IsHistory history → AreFew (decided_at history)
all_few history is from width =
    let count = few_in_all (is_between from (from + width)) (decided_at history) in
    let same = ap (λ (reports : List Sent). length (filter (is_between from (from + width)) reports))
    (reports_decided history) in
    let few = (sent_compounds_keep_apart history is).window from width in
    omega (arith, count, same, few)

fewer_later : (decided : Decided) (earlier : List Decided) → AreFew (decided ∷ earlier) → AreFew earlier
fewer_later decided earlier few from width =
    let all = few from width in
    let count = filter_cons (λ (decided : Decided). is_between from (from + width) decided.report) decided earlier in
    by (is_between from (from + width) decided.report)
    (length (filter (λ decided. is_between from (from + width) decided.report) earlier)) (1 + width / 2052074)
    (omega (arith, all, count))
  where
    by : (b : Bool) (n most : ℕ) → more_if b n ≤ most → n ≤ most
    by true n most h = omega (arith, h)
    by false n most h = h

-- So it is of those that pass some test.
some_few : (test : Decided → Bool) (all : List Decided) → AreFew all → AreFew (filter test all)
some_few test all few from width =
    let fewer = (fewer_both (λ (decided : Decided). is_between from (from + width) decided.report) test all).0 in
    le_trans fewer (few from width)

two_apart : (newest before : Decided) (earlier : List Decided) → before.report.moment ≤ newest.report.moment →
    AreFew (newest ∷ before ∷ earlier) → before.report.moment + 2052074 ≤ newest.report.moment
two_apart newest before earlier order few =
    let from : ℕ = before.report.moment in
    let width : ℕ = newest.report.moment - from in
    let all = few from width in
    let test : Decided → Bool = λ (decided : Decided). is_between from (from + width) decided.report in
    let first : test newest ≡ true = and_from (nat_le from newest.report.moment)
    (nat_le newest.report.moment (from + width)) (le-leb from newest.report.moment order)
    (le-leb newest.report.moment (from + width) (omega (arith, order))) in
    let second : test before ≡ true = and_from (nat_le from before.report.moment)
    (nat_le before.report.moment (from + width)) (le-leb from before.report.moment (omega arith))
    (le-leb before.report.moment (from + width) (omega arith)) in
    let one = filter_cons test newest (before ∷ earlier) in
    let other = filter_cons test before earlier in
    let counted = ap (λ (b : Bool). more_if b (length (filter test (before ∷ earlier)))) first in
    let counted_too = ap (λ (b : Bool). more_if b (length (filter test earlier))) second in
    let least : 2 ≤ 1 + width / 2052074 = omega (arith, all, one, other, counted, counted_too) in
    omega (arith, least, order)

abbrev pub LastsLong : Wait → Type 0
LastsLong wait = wait.since + least_wait ≤ wait.until

last_long : (start : ℕ) (all : List Decided) → AreFew all → All (λ wait. wait.since < wait.until) (waits_over start all)
    → All LastsLong (waits_over start all)
last_long start [] few ordered = All-nil LastsLong
last_long start (newest ∷ []) few ordered = All-nil LastsLong
last_long start (newest ∷ before ∷ earlier) few ordered =
    let Ordered : Wait → Type 0 = λ (wait : Wait). wait.since < wait.until in
    let one = All-head Ordered (wait_between start before newest) (waits_over start (before ∷ earlier)) ordered in
    let apart = two_apart newest before earlier (omega (arith, one)) few in
    All-cons LastsLong (wait_between start before newest) (waits_over start (before ∷ earlier)) (omega (arith, apart))
    (last_long start (before ∷ earlier) (fewer_later newest (before ∷ earlier) few)
    (All-tail Ordered (wait_between start before newest) (waits_over start (before ∷ earlier)) ordered))

pub waits_last : (from width : ℕ) (joined : Joined) → IsHistory joined.history →
    All LastsLong (waits_within from width joined)
waits_last from width joined is =
    let waits = waits_are widest from width joined (has_widest joined is) in
    last_long joined.start (decided_within from width joined)
    (some_few (λ decided. is_inside from width joined.start decided.report) (decided_at joined.history)
    (all_few joined.history is)) (λ k d inside. (waits k d inside).order)

all_last : (terms : Terms) (from width : ℕ) (all : List Joined) → All (HasBandwidth terms) all →
    All LastsLong (all_waits from width all)
all_last terms from width [] h = All-nil LastsLong
all_last terms from width (joined ∷ others) h =
    All-append LastsLong (waits_within from width joined) (all_waits from width others)
    (waits_last from width joined (All-head (HasBandwidth terms) joined others h).stands)
    (all_last terms from width others (All-tail (HasBandwidth terms) joined others h))

-- ---- Stretched waits

-- in 1/100,000 of the time that is left of the least wait, and 2.43656 times as much as stretches it
abbrev unit : (delay : ℕ) → ℕ
unit delay = 100000 * (least_wait - delay)

abbrev pace : ℕ
pace = 2 * 121828 * least_wait

abbrev IsStretched : (delay S R from width : ℕ) → Wait → Type 0
IsStretched delay S R from width wait = IsWait (unit delay) pace S R from width wait

stretched : (delay S R from width : ℕ) (wait : Wait) → delay < least_wait → IsWait 100000 (2 * 121828) S R from width
    wait → LastsLong wait → IsStretched delay S R from width (opened_after delay wait)
stretched delay S R from width wait soon is long = record {
  after = omega (arith, is.after);
  order = omega (arith, soon, long);
  before = is.before;
  long = enough (interval_of (load_at wait.next)) (wait.until - wait.since) (wait.until - (wait.since + delay))
      (least_wait - delay) is.long (longer (wait.until - wait.since) (wait.until - (wait.since + delay))
      (omega (arith, long, soon))
      (omega (arith, long)));
  for_senders = is.for_senders;
  for_others = is.for_others;
  some = is.some;
  some_more = is.some_more;
  ordered = is.ordered;
}
  where
    out_of : (less left : ℕ) → less ≤ left → less * (left + delay) ≤ (less + delay) * left
    out_of less left h =
        let more : delay * less ≤ delay * left = mul-le-mul_left delay h in
        omega (arith, more)

    longer : (span left : ℕ) → span ≡ left + delay → least_wait ≤ span →
        (least_wait - delay) * span ≤ least_wait * left
    longer span left same h =
        let less : ℕ = least_wait - delay in
        let parts : less + delay ≡ least_wait = omega (arith, soon) in
        subst (λ (n : ℕ). less * n ≤ least_wait * left) (sym same)
        (subst (λ (n : ℕ). less * (left + delay) ≤ n * left) parts (out_of less left (omega (arith, same, h, parts))))

    enough : (interval span left less : ℕ) → 100000 * interval ≤ 2 * 121828 * span → less * span ≤ least_wait * left →
        100000 * less * interval ≤ 2 * 121828 * least_wait * left
    enough interval span left less h k =
        let up : less * (100000 * interval) ≤ less * (2 * 121828 * span) = mul-le-mul_left less h in
        omega (arith, up, k)

all_stretched : (delay : ℕ) (terms : Terms) (from width : ℕ) (all : List Joined) → delay < least_wait →
    All (HasBandwidth terms) all →
    All (IsStretched delay terms.sender_bw terms.receiver_bw from width) (waits_after delay from width all)
all_stretched delay terms from width all soon each =
    let waits = all_are_waits terms from width all each in
    let last = all_last terms from width all each in
    All-map (IsStretched delay terms.sender_bw terms.receiver_bw from width) (opened_after delay)
    (all_waits from width all)
    (λ k d inside. stretched delay terms.sender_bw terms.receiver_bw from width (get_or (all_waits from width all) k d)
    soon (waits k d inside) (last k d inside))

-- ---- Averages

same_averages : (delay : ℕ) (waits : List Wait) → averages_of (map (opened_after delay) waits) ≡ averages_of waits
same_averages delay [] = refl
same_averages delay (wait ∷ others) =
    let late = sum_by-cons (λ (wait : Wait). (load_at wait.next).avg) (opened_after delay wait)
    (map (opened_after delay) others) in
    let soon = sum_by-cons (λ (wait : Wait). (load_at wait.next).avg) wait others in
    late ∙ ap (λ (n : ℕ). (load_at wait.next).avg + n) (same_averages delay others) ∙ sym soon

same_kept : (delay : ℕ) (test : Wait → Bool) → ((wait : Wait) → test (opened_after delay wait) ≡ test wait) →
    (waits : List Wait) → filter test (map (opened_after delay) waits) ≡ map (opened_after delay) (filter test waits)
same_kept delay test same [] = refl
same_kept delay test same (wait ∷ others) =
    ap (λ (b : Bool). cond b (opened_after delay wait ∷ filter test (map (opened_after delay) others))
    (filter test (map (opened_after delay) others))) (same wait)
    ∙ by (test wait) (filter test (map (opened_after delay) others)) (filter test others)
    (same_kept delay test same others)
  where
    by : (b : Bool) (late kept : List Wait) → late ≡ map (opened_after delay) kept →
        cond b (opened_after delay wait ∷ late) late ≡ map (opened_after delay) (cond b (wait ∷ kept) kept)
    by true late kept rest = ap (λ (waits : List Wait). opened_after delay wait ∷ waits) rest
    by false late kept rest = rest

turned : (less percent width b sum same : ℕ) → sum ≡ same →
    100 * (100000 * less) * 1000000 * sum ≤ percent * (pace * width * (256 * b)) →
    less * (100 * 100000 * 1000000 * same) ≤ least_wait * (percent * (2 * 121828 * width * (256 * b)))
turned less percent width b sum same is h =
    subst (λ (n : ℕ). less * (100 * 100000 * 1000000 * n) ≤ least_wait * (percent * (2 * 121828 * width * (256 * b))))
    is (omega (arith, h))

pub averages_keep_after : (delay : ℕ) (terms : Terms) (from width : ℕ) (all : List Joined) → delay < least_wait →
    IsCountedAfter delay terms from width all →
    (least_wait - delay) * (100 * 100000 * 1000000 * averages_of (all_waits from width all))
    ≤ least_wait * (terms.percent * (2 * 121828 * width * (256 * rtcp_bw terms)))
averages_keep_after delay terms from width all soon is =
    let fits = averages_fit (unit delay) pace terms.percent terms.sender_bw terms.receiver_bw from width
    (waits_after delay from width all) (all_stretched delay terms from width all soon is.each) is.counted in
    turned (least_wait - delay) terms.percent width (rtcp_bw terms) (averages_of (waits_after delay from width all))
    (averages_of (all_waits from width all)) (same_averages delay (all_waits from width all)) fits

pub others_keep_after : (delay : ℕ) (terms : Terms) (from width : ℕ) (all : List Joined) → delay < least_wait →
    IsCountedAfter delay terms from width all →
    (least_wait - delay) * (100 * 100000 * 1000000 * averages_of (waits_as false (all_waits from width all)))
    ≤ least_wait * (terms.percent * (2 * 121828 * width * (256 * terms.receiver_bw)))
others_keep_after delay terms from width all soon is =
    let fits = others_averages_fit (unit delay) pace terms.percent terms.sender_bw terms.receiver_bw from width
    (waits_after delay from width all) (all_stretched delay terms from width all soon is.each) is.counted in
    let kept = ap averages_of (same_kept delay (reports_next_as false) (λ wait. refl) (all_waits from width all)) in
    turned (least_wait - delay) terms.percent width terms.receiver_bw
    (averages_of (waits_as false (waits_after delay from width all)))
    (averages_of (waits_as false (all_waits from width all)))
    (kept ∙ same_averages delay (waits_as false (all_waits from width all))) fits

-- ---- Reports

pub reports_keep_after : (delay : ℕ) (terms : Terms) (from width : ℕ) (all : List Joined) → delay < least_wait →
    1 ≤ terms.size → IsCountedAfter delay terms from width all → All (HasAverage terms.size) (all_waits from width all)
    → total_reports from width all ≤ length all + carried_after delay width (rtcp_bw terms) terms
reports_keep_after delay terms from width all soon some is averages =
    let one = one_each from width all in
    let later = all_later from width all in
    let less : ℕ = least_wait - delay in
    let few = few_of (less * 100 * 100000 * 1000000)
    (least_wait * (terms.percent * (2 * 121828 * width * rtcp_bw terms))) terms.size (all_waits from width all)
    (omega (arith, soon)) some averages
    (keeps less (averages_of (all_waits from width all)) (averages_keep_after delay terms from width all soon is)) in
    omega (arith, one, later, few)
  where
    keeps : (less sum : ℕ) → less * (100 * 100000 * 1000000 * sum)
        ≤ least_wait * (terms.percent * (2 * 121828 * width * (256 * rtcp_bw terms))) →
        less * 100 * 100000 * 1000000 * sum
        ≤ 256 * (least_wait * (terms.percent * (2 * 121828 * width * rtcp_bw terms)))
    keeps less sum h = omega (arith, h)

pub compounds_keep_after : (delay : ℕ) (terms : Terms) (from width : ℕ) (all : List Joined) → delay < least_wait →
    1 ≤ terms.size → IsCountedAfter delay terms from width all → All (HasAverage terms.size) (all_waits from width all)
    → total_compounds from width all ≤ 10 * length all + carried_after delay width (rtcp_bw terms) terms
compounds_keep_after delay terms from width all soon some is averages =
    let more = nine_more_each from width all (λ k d inside. (is.each k d inside).stands) in
    let reports = reports_keep_after delay terms from width all soon some is averages in
    omega (arith, more, reports)

pub octets_keep_after : (delay : ℕ) (terms : Terms) (from width most percent : ℕ) (all : List Joined) →
    delay < least_wait → IsCountedAfter delay terms from width all →
    All (KeepsToAverage percent) (all_waits from width all) →
    All (λ joined. All (λ report. with_headers (length report.out.octets) ≤ most) (reports_within from width joined))
    all →
    total_octets from width all ≤ most * length all + octets_after delay width (rtcp_bw terms) percent terms
octets_keep_after delay terms from width most percent all soon is keeps at_most =
    let each = octets_each most from width all at_most in
    let waited = fits (least_wait - delay) (omega (arith, soon)) (octets_waited (all_waits from width all))
    (averages_of (all_waits from width all)) (percent_of percent (all_waits from width all) keeps)
    (averages_keep_after delay terms from width all soon is) in
    omega (arith, each, waited)
  where
    fits : (less : ℕ) → 1 ≤ less → (octets averages : ℕ) → 100 * (256 * octets) ≤ percent * averages →
        less * (100 * 100000 * 1000000 * averages)
        ≤ least_wait * (terms.percent * (2 * 121828 * width * (256 * rtcp_bw terms))) →
        octets ≤ least_wait * (terms.percent * percent * (2 * 121828 * width * rtcp_bw terms))
        / (less * 100 * 100 * 100000 * 1000000)
    fits less some octets averages h k =
        let b : ℕ = rtcp_bw terms in
        let one : less * (100 * (256 * octets)) ≤ less * (percent * averages) = mul-le-mul_left less h in
        let up : percent * (less * (100 * 100000 * 1000000 * averages))
        ≤ percent * (least_wait * (terms.percent * (2 * 121828 * width * (256 * b)))) =
        mul-le-mul_left percent k in
        le-div octets (least_wait * (terms.percent * percent * (2 * 121828 * width * b)))
        (less * 100 * 100 * 100000 * 1000000) (omega (arith, some)) (omega (arith, one, up))
