-- How many reports the participants of a session send in a window, all together.
use Rattle.std.proofs.Common.{ℕ, ◌+◌, ◌*◌, ◌/◌, ◌≤◌, false, List, [], ◌∷◌, map, length, All, sym, arith, subst}
use Rattle.std.specs.List.{sum_by}
use Rattle.std.proofs.Math.Nat.{mul-le-mul_left}
use Rattle.std.proofs.lemmas.List.Elements.{All-head, All-tail}
use Rattle.std.proofs.lemmas.List.Sums.{sum_by-cons, sum_by-le}
use Rattle.rtcp_timer.specs.Loads.{with_headers}
use Rattle.rtcp_engine.specs.bounds.Sent.{Sent}
use Rattle.rtcp_session.specs.Windows.{Joined, reports_within}
use Rattle.rtcp_session.specs.Crowds.{total_reports, total_octets, total_compounds, Paced, IsPaced, total_as, Terms, IsCrowd, carried_in}
use Rattle.rtcp_session.specs.Waits.{all_waits, HasAverage}
use Rattle.rtcp_session.proofs.Pacing.{few_within}
use Rattle.rtcp_session.proofs.Waited.{crowd_is_counted}
use Rattle.rtcp_session.proofs.Sessions.{averages_have_sizes, reports_keep, other_reports_keep, compounds_keep}

-- ---- One interval each

pub totals_paced : (all : List Paced) (from width : ℕ) → All (IsPaced from width) all
    → total_reports from width (map (λ paced. paced.joined) all) ≤ length all + sum_by
    (λ paced. 2 * 121828 * width / (100000 * paced.least)) all
totals_paced [] from width h = omega arith
totals_paced (paced ∷ others) from width h =
    let quotient : Paced → ℕ = λ (paced : Paced). 2 * 121828 * width / (100000 * paced.least) in
    let one = All-head (IsPaced from width) paced others h in
    let few = few_within paced.joined from width paced.least one.stands one.some one.least in
    let rest = totals_paced others from width (All-tail (IsPaced from width) paced others h) in
    let total = sum_by-cons (λ (joined : Joined). length (reports_within from width joined)) paced.joined
    (map (λ (paced : Paced). paced.joined) others) in
    let quotients = sum_by-cons quotient paced others in
    omega (arith, few, rest, total, quotients)

-- ---- A crowd

averages_of_crowd : (terms : Terms) (from width : ℕ) (all : List Joined) → IsCrowd terms from width all →
    All (HasAverage terms.size) (all_waits from width all)
averages_of_crowd terms from width all crowd =
    averages_have_sizes terms.size from width all
    (λ k d inside. record { own = (crowd k d inside).own; sizes = (crowd k d inside).sizes })

pub no_flood : (terms : Terms) (from width : ℕ) (all : List Joined) → 1 ≤ terms.size → IsCrowd terms from width all
    → total_reports from width all ≤ length all + carried_in width (terms.sender_bw + terms.receiver_bw) terms
no_flood terms from width all some crowd =
    reports_keep terms from width all some (crowd_is_counted terms from width all crowd)
    (averages_of_crowd terms from width all crowd)

pub no_flood_of_others : (terms : Terms) (from width : ℕ) (all : List Joined) → 1 ≤ terms.size →
    IsCrowd terms from width all
    → total_as false from width all ≤ carried_in width terms.receiver_bw terms
no_flood_of_others terms from width all some crowd =
    other_reports_keep terms from width all some (crowd_is_counted terms from width all crowd)
    (averages_of_crowd terms from width all crowd)

pub no_flood_of_compounds : (terms : Terms) (from width : ℕ) (all : List Joined) → 1 ≤ terms.size →
    IsCrowd terms from width all
    → total_compounds from width all ≤ 10 * length all + carried_in width (terms.sender_bw + terms.receiver_bw) terms
no_flood_of_compounds terms from width all some crowd =
    compounds_keep terms from width all some (crowd_is_counted terms from width all crowd)
    (averages_of_crowd terms from width all crowd)

-- ---- Octets

octets_by_total : (most from width : ℕ) (all : List Joined) →
    All (λ joined. All (λ report. with_headers (length report.out.octets) ≤ most) (reports_within from width joined))
    all
    → total_octets from width all ≤ total_reports from width all * most
octets_by_total most from width [] h = omega arith
octets_by_total most from width (joined ∷ others) h =
    let Fits : Joined → Type 0 = λ (joined : Joined). All (λ report. with_headers (length report.out.octets) ≤ most)
    (reports_within from width joined) in
    let size : Sent → ℕ = λ (report : Sent). with_headers (length report.out.octets) in
    let one = sum_by-le size most (reports_within from width joined) (All-head Fits joined others h) in
    let rest = octets_by_total most from width others (All-tail Fits joined others h) in
    let octets = sum_by-cons (λ (joined : Joined). sum_by size (reports_within from width joined)) joined others in
    let total = sum_by-cons (λ (joined : Joined). length (reports_within from width joined)) joined others in
    subst (λ (n : ℕ). n ≤ total_reports from width (joined ∷ others) * most) (sym octets)
    (subst (λ (n : ℕ). sum_by size (reports_within from width joined) + total_octets from width others ≤ n * most)
    (sym total) (omega (arith, one, rest)))

pub no_flood_of_octets : (terms : Terms) (from width most : ℕ) (all : List Joined) → 1 ≤ terms.size →
    IsCrowd terms from width all
    → All (λ joined. All (λ report. with_headers (length report.out.octets) ≤ most) (reports_within from width joined))
    all
    → total_octets from width all ≤ most * (length all + carried_in width (terms.sender_bw + terms.receiver_bw) terms)
no_flood_of_octets terms from width most all some crowd fit =
    let octets = octets_by_total most from width all fit in
    let total = mul-le-mul_left most (no_flood terms from width all some crowd) in
    chain _ _ _ octets total
  where
    chain : (x t n : ℕ) → x ≤ t * most → most * t ≤ most * n → x ≤ most * n
    chain x t n h k = omega (arith, h, k)
