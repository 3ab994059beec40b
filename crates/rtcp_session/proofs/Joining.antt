-- Those who join in a window: how many of them report there for the first time, and how many reports there are so.
use Rattle.std.proofs.Common.{◌≡◌, ℕ, ◌+◌, ◌-◌, ◌*◌, ◌≤◌, ◌⊎◌, inl, inr, nat_le, nat_lt, not, Bool, true, false, List, [], ◌∷◌, length, map, get_or, filter, All, if◌then◌else◌, refl, sym, ap, ◌∙◌, arith, subst}
use Rattle.std.proofs.Math.Nat.{le_trans, mul-le-mul_left}
use Rattle.std.proofs.lemmas.Bool.{cases_lt, and_parts, and_from, leb-true, ltb-false, le-leb}
use Rattle.std.proofs.lemmas.Nat.{le-div}
use Rattle.std.proofs.lemmas.List.{length-append, length-map}
use Rattle.std.proofs.lemmas.List.Elements.{All-nil, All-cons, All-append, All-head, All-tail, All-filter, filter-append, filter_passes}
use Rattle.std.proofs.lemmas.List.Filters.{length-filter_both}
use Rattle.std.proofs.lemmas.List.Sums.{sum_by-cons}
use Rattle.rtcp_engine.specs.state.Taken.{IsHistory}
use Rattle.rtcp_engine.specs.bounds.Spacing.{AreSpaced}
use Rattle.rtcp_engine.proofs.LawLemmas.{sent_compounds_keep_apart}
use Rattle.rtcp_session.specs.Windows.{Decided, load_at, decided_at, Joined, is_inside, reports_within, decided_within}
use Rattle.rtcp_session.specs.Crowds.{total_reports, Terms, carried_in}
use Rattle.rtcp_session.specs.Waits.{Wait, waits_within, all_waits, reports_next_as, waits_as, rtcp_bw, HasBandwidth, IsCounted, HasAverage, HasSizes}
use Rattle.rtcp_session.specs.Joins.{join_over, all_joins, joins_in, joins_within, reports_during, CountsJoining, began_before}
use Rattle.rtcp_session.proofs.Deciding.{report_of, reports_decided_within, some_interval, reports_decided}
use Rattle.rtcp_session.proofs.Loads.{averages_of_sizes}
use Rattle.rtcp_session.proofs.Pacing.{more_if, filter_cons, one_and_later}
use Rattle.rtcp_session.proofs.Covering.{HasRoom, all_inside}
use Rattle.rtcp_session.proofs.Waiting.{IsWait, sender_shares, other_shares}
use Rattle.rtcp_session.proofs.Waited.{IsGood, good_ones, widest, has_widest, as_many}
use Rattle.rtcp_session.proofs.Sessions.{waits_keep}

-- ---- One first report

-- what is known of a wait, whatever the window
abbrev IsLong : (S R : ℕ) → Wait → Type 0
IsLong S R wait = IsWait 100000 (2 * 121828) S R 0 wait.until wait

first_is_long : (terms : Terms) (start : ℕ) (all : List Decided) → AreSpaced (map report_of all) →
    All (IsGood terms) all → All (IsLong terms.sender_bw terms.receiver_bw) (join_over start all)
first_is_long terms start [] spaced good = All-nil (IsLong terms.sender_bw terms.receiver_bw)
first_is_long terms start (first ∷ []) spaced good =
    let one = All-head (IsGood terms) first [] good in
    let far = spaced.0 in
    let some = some_interval first one.0 in
    let join : Wait = record { since = start; until = start + first.report.moment; next = first } in
    All-cons (IsLong terms.sender_bw terms.receiver_bw) join []
    (record {
      after = omega arith;
      order = omega (arith, far, some);
      before = omega arith;
      long = subst (λ (n : ℕ). 100000 * n ≤ 2 * 121828 * ((start + first.report.moment) - start)) one.0
          (omega (arith, far));
      for_senders = omega (arith, one.1.for_senders, one.2.for_senders);
      for_others = omega (arith, one.1.for_others, one.2.for_others);
      some = one.1.some;
      some_more = one.1.some_more;
      ordered = one.1.ordered;
    })
    (All-nil (IsLong terms.sender_bw terms.receiver_bw))
first_is_long terms start (newest ∷ before ∷ earlier) spaced good =
    first_is_long terms start (before ∷ earlier) spaced.1 (All-tail (IsGood terms) newest (before ∷ earlier) good)

of_first : (P : Decided → Type 0) (start : ℕ) (all : List Decided) → All P all →
    All (λ wait. P wait.next) (join_over start all)
of_first P start [] h = All-nil (λ (wait : Wait). P wait.next)
of_first P start (first ∷ []) h =
    All-cons (λ (wait : Wait). P wait.next)
    (record { since = start; until = start + first.report.moment; next = first }) [] (All-head P first [] h)
    (All-nil (λ (wait : Wait). P wait.next))
of_first P start (newest ∷ before ∷ earlier) h = of_first P start (before ∷ earlier)
    (All-tail P newest (before ∷ earlier) h)

spaced_in : (joined : Joined) → IsHistory joined.history → AreSpaced (map report_of (decided_at joined.history))
spaced_in joined is =
    subst AreSpaced (sym (reports_decided joined.history)) (sent_compounds_keep_apart joined.history is).spaced

-- ---- All first reports

one_joins : (terms : Terms) (joined : Joined) → HasBandwidth terms joined →
    All (IsLong terms.sender_bw terms.receiver_bw) (join_over joined.start (decided_at joined.history))
one_joins terms joined has =
    first_is_long terms joined.start (decided_at joined.history) (spaced_in joined has.stands)
    (good_ones terms joined has)

joins_are : (terms : Terms) (all : List Joined) → All (HasBandwidth terms) all →
    All (IsLong terms.sender_bw terms.receiver_bw) (all_joins all)
joins_are terms [] h = All-nil (IsLong terms.sender_bw terms.receiver_bw)
joins_are terms (joined ∷ others) h =
    All-append (IsLong terms.sender_bw terms.receiver_bw) (join_over joined.start (decided_at joined.history))
    (all_joins others) (one_joins terms joined (All-head (HasBandwidth terms) joined others h))
    (joins_are terms others (All-tail (HasBandwidth terms) joined others h))

all_averages : (size : ℕ) (all : List Joined) → All (HasSizes size) all → All (HasAverage size) (all_joins all)
all_averages size [] h = All-nil (HasAverage size)
all_averages size (joined ∷ others) h =
    let sizes = All-head (HasSizes size) joined others h in
    All-append (HasAverage size) (join_over joined.start (decided_at joined.history)) (all_joins others)
    (of_first (λ (decided : Decided). 256 * size ≤ (load_at decided).avg) joined.start (decided_at joined.history)
    (averages_of_sizes joined.history size sizes.own sizes.sizes))
    (all_averages size others (All-tail (HasSizes size) joined others h))

-- Averages are no less than a size that no compound is below.
pub joins_have_sizes : (size from width : ℕ) (all : List Joined) → All (HasSizes size) all →
    All (HasAverage size) (joins_within from width all)
joins_have_sizes size from width all h =
    All-filter (joins_in from width) (HasAverage size) (all_joins all) (all_averages size all h)

-- ---- Room

-- A compound of so many octets from each of so many, where a bandwidth carries one of average size from each.
room_of : (n size avg percent b span : ℕ) → 256 * size ≤ avg →
    100 * 100000 * 1000000 * n * avg ≤ percent * (2 * 121828 * (256 * b)) * span →
    100 * 100000 * 1000000 * size * n ≤ percent * (2 * 121828 * b) * span
room_of n size avg percent b span large carries =
    let one : 100 * 100000 * 1000000 * n * (256 * size) ≤ 100 * 100000 * 1000000 * n * avg =
    mul-le-mul_left (100 * 100000 * 1000000 * n) large in
    omega (arith, one, carries)

more_room : (n avg percent s r span : ℕ) →
    100 * 100000 * 1000000 * n * avg ≤ percent * (2 * 121828 * (256 * s)) * span →
    100 * 100000 * 1000000 * n * avg ≤ percent * (2 * 121828 * (256 * (s + r))) * span
more_room n avg percent s r span h = omega (arith, h)

module _ (terms : Terms) (from width : ℕ) (all : List Joined) where
  abbrev joins : List Wait
  joins = joins_within from width all

  abbrev Counts : Wait → Type 0
  Counts join = CountsJoining terms.percent joins join

  abbrev IsOf : Wait → Type 0
  IsOf join = IsLong terms.sender_bw terms.receiver_bw join

  abbrev Has : (b : ℕ) → List Wait → Wait → Type 0
  Has b some join = HasRoom Wait (λ (join : Wait). join.since) (λ (join : Wait). join.until) from
      (100 * 100000 * 1000000 * terms.size) (terms.percent * (2 * 121828 * b)) some join

  alike : (join : Wait) → Counts join → (sends : Bool) → (load_at join.next).we_sent ≡ sends →
      100 * length (filter (reports_during join) (waits_as sends joins))
      ≤ terms.percent * (if sends then (load_at join.next).senders else
      (load_at join.next).members - (load_at join.next).senders)
  alike join counts sends same =
      subst (λ (b : Bool). 100 * length (filter (reports_during join) (waits_as b (joins_within from width all)))
      ≤ terms.percent * (if b then (load_at join.next).senders else
      (load_at join.next).members - (load_at join.next).senders)) same counts

  none_counted : (n : ℕ) → 0 ≤ n
  none_counted n = omega arith

  other_has_room : (join : Wait) → IsOf join → HasAverage terms.size join → Counts join →
      (load_at join.next).we_sent ≡ false →
      Has terms.receiver_bw (waits_as false joins) join
  other_has_room join long large counts sends =
      let n : ℕ = length (filter (reports_during join) (waits_as false joins)) in
      record {
        order = long.order;
        fits = room_of n terms.size (load_at join.next).avg terms.percent terms.receiver_bw (join.until - join.since)
            large
            (other_shares 100000 (2 * 121828) terms.percent terms.sender_bw terms.receiver_bw 0 join.until n 0 join long
            sends
            (alike join counts false sends) (none_counted (terms.percent * (load_at join.next).members))).0;
      }

  sender_has_room : (join : Wait) → IsOf join → HasAverage terms.size join → Counts join →
      (load_at join.next).we_sent ≡ true →
      Has (rtcp_bw terms) (waits_as true joins) join
  sender_has_room join long large counts sends =
      let n : ℕ = length (filter (reports_during join) (waits_as true joins)) in
      let counted = alike join counts true sends in
      let ordered = mul-le-mul_left terms.percent long.ordered in
      record {
        order = long.order;
        fits = room_of n terms.size (load_at join.next).avg terms.percent (rtcp_bw terms) (join.until - join.since)
            large
            (elim (sender_shares 100000 (2 * 121828) terms.percent terms.sender_bw terms.receiver_bw 0 join.until n n
            join long sends
            counted (le_trans counted ordered)) [
              | inl own ↦ more_room n (load_at join.next).avg terms.percent terms.sender_bw terms.receiver_bw
                  (join.until - join.since) own
              | inr shared ↦ shared
            ]);
      }

  -- what holds of each that joins in the window holds of those of a role
  each_as : (P : Wait → Type 0) (sender : Bool) → All P joins → All P (waits_as sender joins)
  each_as P true h = All-filter (reports_next_as true) P (joins_within from width all) h
  each_as P false h = All-filter (reports_next_as false) P (joins_within from width all) h

  sent_so : (sender : Bool) → All (λ join. (load_at join.next).we_sent ≡ sender) (waits_as sender joins)
  sent_so true = filter_passes (reports_next_as true) (joins_within from width all)
  sent_so false =
      let passes = filter_passes (reports_next_as false) (joins_within from width all) in
      λ k d inside. not_true (load_at (get_or (waits_as false (joins_within from width all)) k d).next).we_sent
      (passes k d inside)
    where
      not_true : (b : Bool) → not b ≡ true → b ≡ false
      not_true true h = absurd cc
      not_true false h = refl

  fit_as : (sender : Bool) (b : ℕ) → 1 ≤ terms.size →
      ((join : Wait) → IsOf join → HasAverage terms.size join → Counts join → (load_at join.next).we_sent ≡ sender →
      Has b (waits_as sender joins) join) → All (HasBandwidth terms) all → All (HasAverage terms.size) joins →
      All Counts joins → length (waits_as sender joins) ≤ carried_in width b terms
  fit_as sender b some has_room each averages counts =
      let those : List Wait = waits_as sender (joins_within from width all) in
      let long = each_as IsOf sender
      (All-filter (joins_in from width) IsOf (all_joins all) (joins_are terms all each)) in
      let large = each_as (HasAverage terms.size) sender averages in
      let counted = each_as Counts sender counts in
      let sends = sent_so sender in
      let inside = each_as (λ (join : Wait). joins_in from width join ≡ true) sender
      (filter_passes (joins_in from width) (all_joins all)) in
      let fit = all_inside Wait (λ (join : Wait). join.since) (λ (join : Wait). join.until) from
      (100 * 100000 * 1000000 * terms.size) (terms.percent * (2 * 121828 * b)) those
      (λ k d here.
      has_room (get_or those k d) (long k d here) (large k d here) (counted k d here) (sends k d here)) width inside in
      le-div (length those) (terms.percent * (2 * 121828 * width * b)) (100 * 100000 * 1000000 * terms.size)
      (omega (arith, some)) (omega (arith, fit))

  pub few_others_join : 1 ≤ terms.size → All (HasBandwidth terms) all → All (HasAverage terms.size) joins →
      All Counts joins → length (waits_as false joins) ≤ carried_in width terms.receiver_bw terms
  few_others_join some each averages counts = fit_as false terms.receiver_bw some other_has_room each averages counts

  pub few_senders_join : 1 ≤ terms.size → All (HasBandwidth terms) all → All (HasAverage terms.size) joins →
      All Counts joins → length (waits_as true joins) ≤ carried_in width (rtcp_bw terms) terms
  few_senders_join some each averages counts =
      fit_as true (rtcp_bw terms) some sender_has_room each averages counts

-- ---- All reports

-- Of one that began in a window its first report lies there, if any does.
module _ (terms : Terms) (from width start : ℕ) where
  low : (decided : Decided) (earlier : List Decided) → AreSpaced (map report_of (decided ∷ earlier)) →
      All (IsGood terms) (decided ∷ earlier) → from ≤ start → start + decided.report.moment ≤ from + width →
      1 ≤ length (filter (joins_in from width) (join_over start (decided ∷ earlier)))
  low decided [] spaced good began inside =
      let join : Wait = record { since = start; until = start + decided.report.moment; next = decided } in
      let all = filter_cons (joins_in from width) join [] in
      let one = ap (λ (b : Bool). more_if b 0)
      (and_from (nat_le from start) (nat_le (start + decided.report.moment) (from + width))
      (le-leb from start began) (le-leb (start + decided.report.moment) (from + width) inside)) in
      omega (arith, all, one)
  low decided (before ∷ earlier) spaced good began inside =
      let far = spaced.0 in
      let some = some_interval decided (All-head (IsGood terms) decided (before ∷ earlier) good).0 in
      low before earlier spaced.1 (All-tail (IsGood terms) decided (before ∷ earlier) good) began
      (omega (arith, inside, far, some))

  first_inside : (all : List Decided) → AreSpaced (map report_of all) → All (IsGood terms) all → from ≤ start →
      1 ≤ length (filter (λ decided. is_inside from width start decided.report) all) →
      1 ≤ length (filter (joins_in from width) (join_over start all))
  first_inside [] spaced good began some = absurd (omega (arith, some))
  first_inside (decided ∷ []) spaced good began some =
      let all = filter_cons (λ (decided : Decided). is_inside from width start decided.report) decided [] in
      by (is_inside from width start decided.report) refl
      (omega (arith, all, some))
    where
      by : (inside : Bool) → is_inside from width start decided.report ≡ inside → 1 ≤ more_if inside 0 →
          1 ≤ length (filter (joins_in from width) (join_over start (decided ∷ [])))
      by true is some =
          let parts = and_parts (nat_le from (start + decided.report.moment))
          (nat_le (start + decided.report.moment) (from + width)) is in
          low decided [] spaced good began (leb-true (start + decided.report.moment) (from + width) parts.1)
      by false is some = absurd (omega (arith, some))
  first_inside (decided ∷ before ∷ earlier) spaced good began some =
      let all = filter_cons (λ (decided : Decided). is_inside from width start decided.report) decided
      (before ∷ earlier) in
      by (is_inside from width start decided.report) refl (omega (arith, all, some))
      (first_inside (before ∷ earlier) spaced.1 (All-tail (IsGood terms) decided (before ∷ earlier) good) began)
    where
      by : (inside : Bool) → is_inside from width start decided.report ≡ inside →
          1 ≤ more_if inside
          (length (filter (λ decided. is_inside from width start decided.report) (before ∷ earlier))) →
          (1 ≤ length (filter (λ decided. is_inside from width start decided.report) (before ∷ earlier)) →
          1 ≤ length (filter (joins_in from width) (join_over start (before ∷ earlier)))) →
          1 ≤ length (filter (joins_in from width) (join_over start (before ∷ earlier)))
      by true is some rest =
          let parts = and_parts (nat_le from (start + decided.report.moment))
          (nat_le (start + decided.report.moment) (from + width)) is in
          low decided (before ∷ earlier) spaced good began
          (leb-true (start + decided.report.moment) (from + width) parts.1)
      by false is some rest = rest some

-- Beside its waits each that began before a window sends one report there, and each other its first.
one_total : (from width : ℕ) (joined : Joined) → IsHistory joined.history → (n : ℕ) →
    length (reports_within from width joined) + n
    ≤ length (waits_within from width joined)
    + (length (filter (joins_in from width) (join_over joined.start (decided_at joined.history)))
    + more_if (nat_lt joined.start from) n)
one_total from width joined is n =
    let one = one_and_later from width joined in
    let many = as_many joined.start (decided_within from width joined) in
    let same = ap length (reports_decided_within from width joined) in
    let mapped = length-map (decided_within from width joined) report_of in
    by (nat_lt joined.start from) refl (length (reports_within from width joined))
    (length (waits_within from width joined))
    (length (filter (joins_in from width) (join_over joined.start (decided_at joined.history))))
    (omega (arith, one, many))
    (λ began some. first_inside widest from width joined.start (decided_at joined.history)
    (spaced_in joined is) (good_ones widest joined (has_widest joined is)) began (omega (arith, some, same, mapped)))
  where
    some_or_zero : (m : ℕ) → (m ≡ 0) ⊎ (1 ≤ m)
    some_or_zero m = elim (cases_lt 0 m) [
      | inl some ↦ inr (omega (arith, some))
      | inr none ↦ inl (omega (arith, none))
    ]

    by : (before : Bool) → nat_lt joined.start from ≡ before → (reports waits firsts : ℕ) → reports ≤ 1 + waits →
        (from ≤ joined.start → 1 ≤ reports → 1 ≤ firsts) →
        reports + n ≤ waits + (firsts + more_if before n)
    by true is reports waits firsts one first = omega (arith, one)
    by false is reports waits firsts one first = elim (some_or_zero reports) [
      | inl none ↦ omega (arith, none)
      | inr some ↦
          let there = first (ltb-false joined.start from is) some in
          omega (arith, one, there)
    ]

abbrev Stands : Joined → Type 0
Stands joined = IsHistory joined.history

totals : (from width : ℕ) (all : List Joined) → All Stands all →
    total_reports from width all
    ≤ length (all_waits from width all) + (length (joins_within from width all) + length (began_before from all))
totals from width [] h = omega arith
totals from width (joined ∷ others) h =
    let one = one_total from width joined (All-head Stands joined others h) (length (began_before from others)) in
    let rest = totals from width others (All-tail Stands joined others h) in
    let total = sum_by-cons (λ (joined : Joined). length (reports_within from width joined)) joined others in
    let waits = length-append (waits_within from width joined) (all_waits from width others) in
    let joins = ap length (filter-append (joins_in from width)
    (join_over joined.start (decided_at joined.history)) (all_joins others))
    ∙ length-append (filter (joins_in from width) (join_over joined.start (decided_at joined.history)))
    (joins_within from width others) in
    let began = filter_cons (λ (joined : Joined). nat_lt joined.start from) joined others in
    omega (arith, one, rest, total, waits, joins, began)

pub joined_reports : (terms : Terms) (from width : ℕ) (all : List Joined) → 1 ≤ terms.size →
    IsCounted terms from width all → All (HasAverage terms.size) (all_waits from width all) →
    All (HasAverage terms.size) (joins_within from width all) →
    All (CountsJoining terms.percent (joins_within from width all)) (joins_within from width all) →
    total_reports from width all
    ≤ length (began_before from all) + (carried_in width (rtcp_bw terms) terms
    + (carried_in width (rtcp_bw terms) terms + carried_in width terms.receiver_bw terms))
joined_reports terms from width all some is averages first_averages counts =
    let total = totals from width all (λ k d inside. (is.each k d inside).stands) in
    let waits = waits_keep terms from width all some is averages in
    let senders = few_senders_join terms from width all some is.each first_averages counts in
    let others = few_others_join terms from width all some is.each first_averages counts in
    let roles = length-filter_both (reports_next_as true) (reports_next_as false) (λ wait. refl)
    (joins_within from width all) in
    omega (arith, total, waits, senders, others, roles)
