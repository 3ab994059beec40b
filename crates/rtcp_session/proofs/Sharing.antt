-- What the reports of a window leave to others: their intervals bound how many they are, and what they weigh.
use Rattle.std.proofs.Common.{◌≡◌, ℕ, suc, ◌+◌, ◌-◌, ◌*◌, ◌≤◌, not, Bool, true, false, List, [], ◌∷◌, length, get_or, All, max, refl, sym, arith, subst}
use Rattle.std.specs.List.{sum_by}
use Rattle.std.proofs.Math.Nat.{le_trans, mul-le-mul_left, mul-le-mul_right}
use Rattle.std.proofs.lemmas.Grind.{div_ceil_times}
use Rattle.std.proofs.lemmas.List.Elements.{All-head, All-tail, All-filter, filter_passes}
use Rattle.std.proofs.lemmas.List.Filters.{sum_by-filter_both}
use Rattle.std.proofs.lemmas.List.Sums.{sum_by-cons}
use Rattle.rtcp_timer.specs.declared.load.Load.{Load}
use Rattle.rtcp_timer.specs.Loads.{interval_for, interval_of, minimum_of}
use Rattle.rtcp_timer.proofs.LawLemmas.{senders_have_the_shorter_interval-others}
use Rattle.rtcp_engine.specs.state.Taken.{IsHistory}
use Rattle.rtcp_session.specs.Windows.{Decided, load_at, Joined, later_within}
use Rattle.rtcp_session.specs.Crowds.{later_as, share_of_others, shares_within, total_shares, LeavesOthers, SharesBandwidth}
use Rattle.rtcp_session.proofs.Deciding.{IsOfLoad, each_later, later_intervals}
use Rattle.rtcp_session.proofs.Loads.{IsLoadOf, loads_of_setups}
use Rattle.rtcp_session.proofs.Pacing.{spans_of, spans_fit}

-- ---- Roles

-- What holds of each later report holds of those of a role.
pub each_as : (P : Decided → Type 0) (sender : Bool) (from width : ℕ) (joined : Joined) →
    All P (later_within from width joined) → All P (later_as sender from width joined)
each_as P true from width joined h = All-filter (λ (decided : Decided). (load_at decided).we_sent) P
    (later_within from width joined) h
each_as P false from width joined h = All-filter (λ (decided : Decided). not (load_at decided).we_sent) P
    (later_within from width joined) h

-- Each of a role was sent so.
pub sent_so : (sender : Bool) (from width : ℕ) (joined : Joined) → All (λ decided. (load_at decided).we_sent ≡ sender)
    (later_as sender from width joined)
sent_so true from width joined = filter_passes (λ (decided : Decided). (load_at decided).we_sent)
    (later_within from width joined)
sent_so false from width joined =
    let passes = filter_passes (λ (decided : Decided). not (load_at decided).we_sent)
    (later_within from width joined) in
    λ k d inside. not_true (load_at (get_or (later_as false from width joined) k d)).we_sent (passes k d inside)
  where
    not_true : (b : Bool) → not b ≡ true → b ≡ false
    not_true true h = absurd cc
    not_true false h = refl

-- The intervals of those of a role fit into the window.
pub spans_fit_as : (sender : Bool) (from width : ℕ) (joined : Joined) → IsHistory joined.history →
    100000 * spans_of (later_as sender from width joined) ≤ 2 * 121828 * width
spans_fit_as sender from width joined is = by sender
  where
    both : spans_of (later_within from width joined) ≡ spans_of (later_as true from width joined) + spans_of
        (later_as false from width joined)
    both =
        let sends = λ (decided : Decided). (load_at decided).we_sent in
        sym (sum_by-filter_both sends (λ decided. not (sends decided)) (λ decided. refl)
        (λ (decided : Decided). decided.report.interval) (later_within from width joined))

    fit : 100000 * spans_of (later_within from width joined) ≤ 2 * 121828 * width
    fit = spans_fit joined from width is

    by : (role : Bool) → 100000 * spans_of (later_as role from width joined) ≤ 2 * 121828 * width
    by true = (let all = both in let into = fit in omega (arith, all, into))
    by false = (let all = both in let into = fit in omega (arith, all, into))

-- ---- One load

-- what those that do not send have the longer one of
pub interval_of_others : (load : Load) → 1 ≤ load.sender_bw → 1 ≤ load.receiver_bw → load.senders ≤ load.members →
    load.we_sent ≡ false
    → (1000000 * (load.members - load.senders) * load.avg ≤ interval_of load * (256 * load.receiver_bw))
    × (1000000 * load.members * load.avg ≤ interval_of load * (256 * (load.sender_bw + load.receiver_bw)))
interval_of_others load some some_more ordered sends =
    let of_others : ℕ = interval_for (load.members - load.senders) load.receiver_bw load in
    let of_all : ℕ = interval_for load.members (load.sender_bw + load.receiver_bw) load in
    let longer : interval_of load ≡ max (minimum_of load.initial) (max of_others of_all) =
    senders_have_the_shorter_interval-others load some some_more ordered sends in
    let by_others : of_others ≤ interval_of load = omega (arith, longer) in
    let by_all : of_all ≤ interval_of load = omega (arith, longer) in (
      le_trans (div_ceil_times (1000000 * (load.members - load.senders) * load.avg) (256 * load.receiver_bw)
          (omega (arith, some_more))).0 (mul-le-mul_right (256 * load.receiver_bw) by_others),
      le_trans (div_ceil_times (1000000 * load.members * load.avg) (256 * (load.sender_bw + load.receiver_bw))
          (omega (arith, some))).0 (mul-le-mul_right (256 * (load.sender_bw + load.receiver_bw)) by_all),
    )

-- ---- Shares

weighed : (c b : ℕ) (weight : Decided → ℕ) (all : List Decided) →
    All (λ decided. c * weight decided ≤ b * decided.report.interval) all → c * sum_by weight all ≤ b * spans_of all
weighed c b weight [] h = omega arith
weighed c b weight (decided ∷ earlier) h =
    let P : Decided → Type 0 = λ (decided : Decided). c * weight decided ≤ b * decided.report.interval in
    let one = All-head P decided earlier h in
    let rest = weighed c b weight earlier (All-tail P decided earlier h) in
    let weights = sum_by-cons weight decided earlier in
    let spans = sum_by-cons (λ (decided : Decided). decided.report.interval) decided earlier in
    subst (λ (n : ℕ). c * n ≤ b * spans_of (decided ∷ earlier)) (sym weights)
    (subst (λ (n : ℕ). c * (weight decided + sum_by weight earlier) ≤ b * n) (sym spans)
    (plus (weight decided) (sum_by weight earlier) decided.report.interval (spans_of earlier) one rest))
  where
    plus : (w ws i is : ℕ) → c * w ≤ b * i → c * ws ≤ b * is → c * (w + ws) ≤ b * (i + is)
    plus w ws i is one rest = omega (arith, one, rest)

pub shares_fit : (joined : Joined) (from width receiver_bw : ℕ) → IsHistory joined.history →
    All (LeavesOthers receiver_bw) (later_within from width joined) →
    100000 * 1000000 * shares_within from width joined ≤ 2 * 121828 * width * (256 * receiver_bw)
shares_fit joined from width receiver_bw is leaves =
    let b : ℕ = 256 * receiver_bw in
    let others : List Decided = later_as false from width joined in
    let loads = each_as (λ (decided : Decided). IsLoadOf decided.setup (load_at decided)) false from width joined
    (each_later (λ (decided : Decided). IsLoadOf decided.setup (load_at decided)) from width joined
    (loads_of_setups joined.history is)) in
    let most = each_as (LeavesOthers receiver_bw) false from width joined leaves in
    let intervals = each_as IsOfLoad false from width joined (later_intervals from width joined) in
    let sends = sent_so false from width joined in
    let each : All (λ decided. 1000000 * share_of_others (load_at decided) ≤ b * decided.report.interval) others =
    λ k d inside.
    one (get_or others k d) (loads k d inside) (most k d inside) (intervals k d inside) (sends k d inside) in
    let fit = mul-le-mul_left b (spans_fit_as false from width joined is) in
    chain (shares_within from width joined) (spans_of others) b
    (weighed 1000000 b (λ (decided : Decided). share_of_others (load_at decided)) others each) fit
  where
    turned : (n avg interval bw most : ℕ) → 1000000 * n * avg ≤ interval * (256 * bw) →
        interval * bw ≤ interval * most → 1000000 * (n * avg) ≤ 256 * most * interval
    turned n avg interval bw most h k = omega (arith, h, k)

    one : (decided : Decided) → IsLoadOf decided.setup (load_at decided) → LeavesOthers receiver_bw decided →
        IsOfLoad decided → (load_at decided).we_sent ≡ false →
        1000000 * share_of_others (load_at decided) ≤ 256 * receiver_bw * decided.report.interval
    one decided load most interval sends =
        let keeps = interval_of_others (load_at decided) load.some load.some_more load.ordered sends in
        subst (λ (n : ℕ). 1000000 * share_of_others (load_at decided) ≤ 256 * receiver_bw * n) (sym interval)
        (turned ((load_at decided).members - (load_at decided).senders) (load_at decided).avg
        (interval_of (load_at decided)) (load_at decided).receiver_bw receiver_bw keeps.0
        (mul-le-mul_left (interval_of (load_at decided)) most))

    chain : (weight sum b : ℕ) → 1000000 * weight ≤ b * sum → b * (100000 * sum) ≤ b * (2 * 121828 * width) →
        100000 * 1000000 * weight ≤ 2 * 121828 * width * b
    chain weight sum b h k = omega (arith, h, k)

pub total_shares_fit : (all : List Joined) (from width receiver_bw : ℕ) →
    All (SharesBandwidth from width receiver_bw) all →
    100000 * 1000000 * total_shares from width all ≤ length all * (2 * 121828 * width * (256 * receiver_bw))
total_shares_fit [] from width receiver_bw h = omega arith
total_shares_fit (joined ∷ others) from width receiver_bw h =
    let one = All-head (SharesBandwidth from width receiver_bw) joined others h in
    let fit = shares_fit joined from width receiver_bw one.stands one.for_others in
    let rest = total_shares_fit others from width receiver_bw
    (All-tail (SharesBandwidth from width receiver_bw) joined others h) in
    let total = sum_by-cons (shares_within from width) joined others in
    plus (shares_within from width joined) (total_shares from width others) (total_shares from width (joined ∷ others))
    (length others) (2 * 121828 * width * (256 * receiver_bw)) total fit rest
  where
    plus : (w ws total n room : ℕ) → total ≡ w + ws → 100000 * 1000000 * w ≤ room → 100000 * 1000000 * ws ≤ n * room →
        100000 * 1000000 * total ≤ suc n * room
    plus w ws total n room is one rest = omega (arith, is, one, rest)
