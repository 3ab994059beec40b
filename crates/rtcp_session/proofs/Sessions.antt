-- What the participants of a session send in a window, all together, where those who wait count each other.
use Rattle.std.proofs.Common.{ℕ, ◌+◌, ◌*◌, ◌/◌, ◌≤◌, false, List, [], ◌∷◌, map, length, get_or, All, sym, arith, subst}
use Rattle.std.specs.List.{sum_by}
use Rattle.std.proofs.Math.Nat.{mul-le-mul_left}
use Rattle.std.proofs.lemmas.Nat.{le-div}
use Rattle.std.proofs.lemmas.List.Elements.{All-head, All-tail, All-filter}
use Rattle.std.proofs.lemmas.List.Sums.{sum_by-cons, sum_by-append}
use Rattle.rtcp_timer.specs.declared.load.Load.{Load}
use Rattle.rtcp_timer.specs.Loads.{with_headers}
use Rattle.rtcp_engine.specs.bounds.Sent.{Sent}
use Rattle.rtcp_session.specs.Windows.{Decided, load_at, Joined, reports_within, decided_within, later_within}
use Rattle.rtcp_session.specs.Crowds.{total_reports, octets_of, total_octets, total_compounds, total_as, Terms, carried_in}
use Rattle.rtcp_session.specs.Waits.{octets_next, Wait, wait_between, waits_over, waits_within, all_waits, averages_of, rtcp_bw, waits_as, reports_next_as, IsCounted, HasAverage, HasSizes, KeepsToAverage, octets_in}
use Rattle.rtcp_session.proofs.Deciding.{report_of, each_later, reports_decided_within}
use Rattle.rtcp_session.proofs.Loads.{averages_of_sizes}
use Rattle.rtcp_session.proofs.Pacing.{counted_up, one_and_later}
use Rattle.rtcp_session.proofs.Compounds.{nine_more_each}
use Rattle.rtcp_session.proofs.Waiting.{averages_fit, others_averages_fit}
use Rattle.rtcp_session.proofs.Waited.{all_are_waits, all_later, all_later_so, of_all_loads}

-- ---- Averages

pub averages_keep : (terms : Terms) (from width : ℕ) (all : List Joined) → IsCounted terms from width all →
    100 * 100000 * 1000000 * averages_of (all_waits from width all)
    ≤ terms.percent * (2 * 121828 * width * (256 * (rtcp_bw terms)))
averages_keep terms from width all is =
    averages_fit 100000 (2 * 121828) terms.percent terms.sender_bw terms.receiver_bw from width
    (all_waits from width all)
    (all_are_waits terms from width all is.each) is.counted

pub others_keep : (terms : Terms) (from width : ℕ) (all : List Joined) → IsCounted terms from width all →
    100 * 100000 * 1000000 * averages_of (waits_as false (all_waits from width all))
    ≤ terms.percent * (2 * 121828 * width * (256 * terms.receiver_bw))
others_keep terms from width all is =
    others_averages_fit 100000 (2 * 121828) terms.percent terms.sender_bw terms.receiver_bw from width
    (all_waits from width all)
    (all_are_waits terms from width all is.each) is.counted

-- ---- Reports

pub one_each : (from width : ℕ) (all : List Joined) → total_reports from width all ≤ length all + sum_by
    (λ joined. length (later_within from width joined)) all
one_each from width [] = omega arith
one_each from width (joined ∷ others) =
    let one = one_and_later from width joined in
    let rest = one_each from width others in
    let total = sum_by-cons (λ (joined : Joined). length (reports_within from width joined)) joined others in
    let later = sum_by-cons (λ (joined : Joined). length (later_within from width joined)) joined others in
    omega (arith, one, rest, total, later)

-- Averages are no less than a size that no compound is below.
abbrev IsLarge : (size : ℕ) → Load → Type 0
IsLarge size load = 256 * size ≤ load.avg

pub averages_have_sizes : (size from width : ℕ) (all : List Joined) → All (HasSizes size) all →
    All (HasAverage size) (all_waits from width all)
averages_have_sizes size from width all sizes =
    of_all_loads (IsLarge size) from width all
    (λ k d inside.
    let joined : Joined = get_or all k d in
    each_later (λ (decided : Decided). IsLarge size (load_at decided)) from width joined
    (averages_of_sizes joined.history size (sizes k d inside).own (sizes k d inside).sizes))

-- So many compounds of at least a size, where their averages keep to a bandwidth.
pub few_of : (k z size : ℕ) (waits : List Wait) → 1 ≤ k → 1 ≤ size → All (HasAverage size) waits →
    k * averages_of waits ≤ 256 * z → length waits ≤ z / (k * size)
few_of k z size waits some some_size large keeps =
    let up = counted_up (λ (wait : Wait). (load_at wait.next).avg) (256 * size) 1 waits
    (λ k d inside. once (256 * size) (load_at (get_or waits k d).next).avg (large k d inside)) in
    let more : k * (256 * size * length waits) ≤ k * (1 * averages_of waits) = mul-le-mul_left k up in
    let parts : k * 1 ≤ k * size = mul-le-mul_left k some_size in
    le-div (length waits) z (k * size) (omega (arith, parts, some)) (omega (arith, more, keeps))
  where
    once : (a b : ℕ) → a ≤ b → a ≤ 1 * b
    once a b h = omega (arith, h)

few_waits : (size percent width b : ℕ) (waits : List Wait) → 1 ≤ size → All (HasAverage size) waits →
    100 * 100000 * 1000000 * averages_of waits ≤ percent * (2 * 121828 * width * (256 * b)) →
    length waits ≤ percent * (2 * 121828 * width * b) / (100 * 100000 * 1000000 * size)
few_waits size percent width b waits some large keeps =
    few_of (100 * 100000 * 1000000) (percent * (2 * 121828 * width * b)) size waits (omega arith) some large
    (omega (arith, keeps))

pub waits_keep : (terms : Terms) (from width : ℕ) (all : List Joined) → 1 ≤ terms.size →
    IsCounted terms from width all → All (HasAverage terms.size) (all_waits from width all) →
    length (all_waits from width all) ≤ carried_in width (rtcp_bw terms) terms
waits_keep terms from width all some is averages =
    few_waits terms.size terms.percent width (rtcp_bw terms) (all_waits from width all) some
    averages (averages_keep terms from width all is)

pub reports_keep : (terms : Terms) (from width : ℕ) (all : List Joined) → 1 ≤ terms.size →
    IsCounted terms from width all → All (HasAverage terms.size) (all_waits from width all) →
    total_reports from width all ≤ length all + carried_in width (rtcp_bw terms) terms
reports_keep terms from width all some is averages =
    let one = one_each from width all in
    let later = all_later from width all in
    let few = waits_keep terms from width all some is averages in
    omega (arith, one, later, few)

pub other_reports_keep : (terms : Terms) (from width : ℕ) (all : List Joined) → 1 ≤ terms.size →
    IsCounted terms from width all → All (HasAverage terms.size) (all_waits from width all) →
    total_as false from width all ≤ carried_in width terms.receiver_bw terms
other_reports_keep terms from width all some is averages =
    let later = all_later_so false from width all in
    let few = few_waits terms.size terms.percent width terms.receiver_bw (waits_as false (all_waits from width all))
    some
    (All-filter (reports_next_as false) (HasAverage terms.size) (all_waits from width all) averages)
    (others_keep terms from width all is) in
    omega (arith, later, few)

pub compounds_keep : (terms : Terms) (from width : ℕ) (all : List Joined) → 1 ≤ terms.size →
    IsCounted terms from width all → All (HasAverage terms.size) (all_waits from width all) →
    total_compounds from width all
    ≤ 10 * length all + carried_in width (rtcp_bw terms) terms
compounds_keep terms from width all some is averages =
    let more = nine_more_each from width all (λ k d inside. (is.each k d inside).stands) in
    let reports = reports_keep terms from width all some is averages in
    omega (arith, more, reports)

-- ---- Octets

abbrev pub size_of : Sent → ℕ
size_of report = with_headers (length report.out.octets)

abbrev pub octets_waited : List Wait → ℕ
octets_waited waits = sum_by (λ wait. octets_next wait) waits

-- the octets of the reports of one, but for its oldest
one_and_waits : (most start : ℕ) (all : List Decided) → All (λ report. size_of report ≤ most) (map report_of all) →
    sum_by size_of (map report_of all) ≤ most + octets_waited (waits_over start all)
one_and_waits most start [] h = omega arith
one_and_waits most start (newest ∷ []) h =
    let one : size_of newest.report ≤ most = All-head (λ (report : Sent). size_of report ≤ most) newest.report [] h in
    let sum = sum_by-cons size_of newest.report [] in
    omega (arith, one, sum)
one_and_waits most start (newest ∷ before ∷ earlier) h =
    let rest = one_and_waits most start (before ∷ earlier)
    (All-tail (λ (report : Sent). size_of report ≤ most) newest.report (map report_of (before ∷ earlier)) h) in
    let sizes = sum_by-cons size_of newest.report (map report_of (before ∷ earlier)) in
    let wait : Wait = wait_between start before newest in
    let waited = sum_by-cons (λ (wait : Wait). octets_next wait) wait (waits_over start (before ∷ earlier)) in
    omega (arith, rest, sizes, waited)

abbrev pub AreAtMost : (most from width : ℕ) → Joined → Type 0
AreAtMost most from width joined = All (λ report. size_of report ≤ most) (reports_within from width joined)

pub octets_each : (most from width : ℕ) (all : List Joined) → All (AreAtMost most from width) all →
    total_octets from width all ≤ most * length all + octets_waited (all_waits from width all)
octets_each most from width [] h = omega arith
octets_each most from width (joined ∷ others) h =
    let one = subst (λ (reports : List Sent). All (λ report. size_of report ≤ most) reports →
    sum_by size_of reports ≤ most + octets_waited (waits_within from width joined))
    (reports_decided_within from width joined)
    (one_and_waits most joined.start (decided_within from width joined))
    (All-head (AreAtMost most from width) joined others h) in
    let rest = octets_each most from width others (All-tail (AreAtMost most from width) joined others h) in
    let octets = sum_by-cons (λ (joined : Joined). octets_of (reports_within from width joined)) joined others in
    let waited = sum_by-append (λ (wait : Wait). octets_next wait) (waits_within from width joined)
    (all_waits from width others) in
    omega (arith, one, rest, octets, waited)

pub percent_of : (percent : ℕ) (waits : List Wait) → All (KeepsToAverage percent) waits →
    100 * (256 * octets_waited waits) ≤ percent * averages_of waits
percent_of percent [] h = omega arith
percent_of percent (wait ∷ others) h =
    let one : 100 * (256 * octets_next wait) ≤ percent * (load_at wait.next).avg =
    All-head (KeepsToAverage percent) wait others h in
    let rest = percent_of percent others (All-tail (KeepsToAverage percent) wait others h) in
    let octets = sum_by-cons (λ (wait : Wait). octets_next wait) wait others in
    let averages = sum_by-cons (λ (wait : Wait). (load_at wait.next).avg) wait others in
    subst (λ (n : ℕ). 100 * (256 * n) ≤ percent * averages_of (wait ∷ others)) (sym octets)
    (subst (λ (n : ℕ). 100 * (256 * (octets_next wait + octets_waited others)) ≤ percent * n) (sym averages)
    (plus (octets_next wait) (octets_waited others) (load_at wait.next).avg (averages_of others) one rest))
  where
    plus : (o os a as_ : ℕ) → 100 * (256 * o) ≤ percent * a → 100 * (256 * os) ≤ percent * as_ →
        100 * (256 * (o + os)) ≤ percent * (a + as_)
    plus o os a as_ one rest = omega (arith, one, rest)

pub octets_keep : (terms : Terms) (from width most percent : ℕ) (all : List Joined) →
    IsCounted terms from width all → All (KeepsToAverage percent) (all_waits from width all) →
    All (λ joined. All (λ report. with_headers (length report.out.octets) ≤ most) (reports_within from width joined))
    all →
    total_octets from width all
    ≤ most * length all + octets_in width (rtcp_bw terms) percent terms
octets_keep terms from width most percent all is keeps at_most =
    let each = octets_each most from width all at_most in
    let waited = fits (octets_waited (all_waits from width all)) (averages_of (all_waits from width all))
    (percent_of percent (all_waits from width all) keeps) (averages_keep terms from width all is) in
    omega (arith, each, waited)
  where
    fits : (octets averages : ℕ) → 100 * (256 * octets) ≤ percent * averages →
        100 * 100000 * 1000000 * averages
        ≤ terms.percent * (2 * 121828 * width * (256 * (rtcp_bw terms))) →
        octets ≤ octets_in width (rtcp_bw terms) percent terms
    fits octets averages h k =
        let b : ℕ = rtcp_bw terms in
        let up : percent * (100 * 100000 * 1000000 * averages)
        ≤ percent * (terms.percent * (2 * 121828 * width * (256 * b))) =
        mul-le-mul_left percent k in
        le-div octets (terms.percent * percent * (2 * 121828 * width * b)) (100 * 100 * 100000 * 1000000) (omega arith)
        (omega (arith, h, up))
