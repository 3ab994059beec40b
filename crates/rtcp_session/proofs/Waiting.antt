-- What those who wait may send: at each moment their averages, over the time that each waits, keep to the bandwidth.
use Rattle.std.proofs.Common.{◌≡◌, ℕ, suc, ◌+◌, ◌-◌, ◌*◌, ◌<◌, ◌≤◌, ◌⊎◌, inl, inr, nat_le, not, Bool, true, false, cond, List, [], ◌∷◌, length, filter, get_or, All, if◌then◌else◌, refl, sym, ap, ◌∙◌, arith, subst}
use Rattle.std.specs.List.{sum_by}
use Rattle.std.proofs.Math.Nat.{mul-le-mul_left, mul-le-mul_right, le_of_mul-le-mul_left, le_of_mul-le-mul_right}
use Rattle.std.proofs.lemmas.Bool.{cases_lt}
use Rattle.std.proofs.lemmas.List.Elements.{All-head, All-tail, All-filter, filter_passes}
use Rattle.std.proofs.lemmas.List.Filters.{sum_by-filter_both}
use Rattle.std.proofs.lemmas.List.Sums.{sum_by-cons}
use Rattle.rtcp_timer.specs.declared.load.Load.{Load}
use Rattle.rtcp_timer.specs.Loads.{Sharers, the_senders, the_others, everyone, count_of, bandwidth_of, interval_of}
use Rattle.rtcp_timer.proofs.LawLemmas.{interval_keeps_to_share}
use Rattle.rtcp_session.specs.Windows.{load_at}
use Rattle.rtcp_session.specs.Waits.{Wait, is_open, open_at, reports_next_as, waits_as, CountsWaiting, AreCounted}
use Rattle.rtcp_session.proofs.Sharing.{interval_of_others}
use Rattle.rtcp_session.proofs.Moments.{span_of, spent, all_spent, each_moment, at_ends, whole_of, are_parted, some_whole, parts_of, parts_are}

-- ---- Waits

-- what is known of a wait in a window
pub record IsWait (unit pace sender_bw receiver_bw from width : ℕ) (wait : Wait) : Type 0 where
  pub after : from ≤ wait.since
  pub order : wait.since < wait.until
  pub before : wait.until ≤ from + width
  pub long : unit * interval_of (load_at wait.next) ≤ pace * (wait.until - wait.since)
  pub for_senders : (load_at wait.next).sender_bw ≤ sender_bw
  pub for_others : (load_at wait.next).receiver_bw ≤ receiver_bw
  pub some : 1 ≤ (load_at wait.next).sender_bw
  pub some_more : 1 ≤ (load_at wait.next).receiver_bw
  pub ordered : (load_at wait.next).senders ≤ (load_at wait.next).members

-- ---- Shares

-- A share of the bandwidth carries, in the time that one waits, a compound of its average size from each of so many.
abbrev pub Carries : (unit pace percent n b : ℕ) → Wait → Type 0
Carries unit pace percent n b wait =
    100 * unit * 1000000 * n * (load_at wait.next).avg ≤ percent * (pace * (256 * b)) * span_of wait

carried : (unit pace n m avg percent b interval span : ℕ) → 100 * n ≤ percent * m →
    1000000 * m * avg ≤ interval * (256 * b) →
    unit * interval ≤ pace * span → 100 * unit * 1000000 * n * avg ≤ percent * (pace * (256 * b)) * span
carried unit pace n m avg percent b interval span counted keeps long =
    let one : unit * avg * (100 * n) ≤ unit * avg * (percent * m) = mul-le-mul_left (unit * avg) counted in
    let two : unit * percent * (1000000 * m * avg) ≤ unit * percent * (interval * (256 * b)) =
    mul-le-mul_left (unit * percent) keeps in
    let three : percent * b * (unit * interval) ≤ percent * b * (pace * span) =
    mul-le-mul_left (percent * b) long in
    omega (arith, one, two, three)

-- What a bandwidth carries a greater one does.
widened : (unit pace percent n b c avg span : ℕ) → b ≤ c →
    100 * unit * 1000000 * n * avg ≤ percent * (pace * (256 * b)) * span →
    100 * unit * 1000000 * n * avg ≤ percent * (pace * (256 * c)) * span
widened unit pace percent n b c avg span less h =
    let up : percent * pace * span * b ≤ percent * pace * span * c = mul-le-mul_left (percent * pace * span) less in
    omega (arith, up, h)

-- Another share carries one from each of others that are no more for their bandwidth.
carried_too : (unit pace n b m d avg percent span : ℕ) → 1 ≤ b → m * b ≤ n * d →
    100 * unit * 1000000 * n * avg ≤ percent * (pace * (256 * b)) * span →
    100 * unit * 1000000 * m * avg ≤ percent * (pace * (256 * d)) * span
carried_too unit pace n b m d avg percent span some fewer h =
    let one : 100 * unit * 1000000 * avg * (m * b) ≤ 100 * unit * 1000000 * avg * (n * d) =
    mul-le-mul_left (100 * unit * 1000000 * avg) fewer in
    let two : d * (100 * unit * 1000000 * n * avg) ≤ d * (percent * (pace * (256 * b)) * span) =
    mul-le-mul_left d h in
    let both : 100 * unit * 1000000 * m * avg * b ≤ percent * (pace * (256 * d)) * span * b =
    omega (arith, one, two) in
    le_of_mul-le-mul_right both some

of_sender : (Keeps : Sharers → Type 0) (few sends : Bool) → sends ≡ true →
    Keeps (if few then (if sends then the_senders else the_others) else everyone) → Keeps the_senders ⊎ Keeps everyone
of_sender Keeps true true is h = inl h
of_sender Keeps true false is h = absurd cc
of_sender Keeps false sends is h = inr h

-- ---- Rates

-- what a wait brings at each of its moments
abbrev rate : (whole : ℕ) → Wait → ℕ
rate whole wait = (load_at wait.next).avg * parts_of whole wait

-- It goes in equal parts.
abbrev IsEven : (whole : ℕ) → Wait → Type 0
IsEven whole wait = parts_of whole wait * span_of wait ≡ whole

module _ (unit pace percent whole b : ℕ) where
  abbrev rates : List Wait → ℕ
  rates waits = sum_by (rate whole) waits

  abbrev most : ℕ
  most = percent * (pace * (256 * b))

  -- where each carries a compound from each of so many
  one_rate : (n : ℕ) (wait : Wait) → Carries unit pace percent n b wait → IsEven whole wait →
      100 * unit * 1000000 * n * rate whole wait ≤ most * whole
  one_rate n wait h even =
      by (load_at wait.next).avg (parts_of whole wait) (span_of wait) whole most even
      (mul-le-mul_right (parts_of whole wait) h)
    where
      by : (avg parts span whole most : ℕ) → parts * span ≡ whole →
          100 * unit * 1000000 * n * avg * parts ≤ most * span * parts →
          100 * unit * 1000000 * n * (avg * parts) ≤ most * whole
      by avg parts span whole most is h =
          subst (λ (w : ℕ). 100 * unit * 1000000 * n * (avg * parts) ≤ most * w) is (omega (arith, h))

  some_rates : (n : ℕ) (waits : List Wait) → All (Carries unit pace percent n b) waits → All (IsEven whole) waits →
      100 * unit * 1000000 * n * rates waits ≤ length waits * (most * whole)
  some_rates n [] h even = omega arith
  some_rates n (wait ∷ others) h even =
      let one = one_rate n wait (All-head (Carries unit pace percent n b) wait others h)
      (All-head (IsEven whole) wait others even)
      in
      let rest = some_rates n others (All-tail (Carries unit pace percent n b) wait others h)
      (All-tail (IsEven whole) wait others even) in
      subst (λ (t : ℕ). 100 * unit * 1000000 * n * t ≤ suc (length others) * (most * whole))
      (sym (sum_by-cons (rate whole) wait others))
      (plus (rate whole wait) (rates others) (length others) (most * whole) one rest)
    where
      plus : (r rs l z : ℕ) → 100 * unit * 1000000 * n * r ≤ z → 100 * unit * 1000000 * n * rs ≤ l * z →
          100 * unit * 1000000 * n * (r + rs) ≤ suc l * z
      plus r rs l z one rest = omega (arith, one, rest)

  -- where each carries one from each of all these
  all_rates : (waits : List Wait) → All (Carries unit pace percent (length waits) b) waits → All (IsEven whole) waits →
      100 * unit * 1000000 * rates waits ≤ most * whole
  all_rates [] h even = omega arith
  all_rates (wait ∷ others) h even =
      cancel (length others) (rates (wait ∷ others)) (most * whole)
      (some_rates (suc (length others)) (wait ∷ others) h even)
    where
      cancel : (l t z : ℕ) → 100 * unit * 1000000 * suc l * t ≤ suc l * z → 100 * unit * 1000000 * t ≤ z
      cancel l t z h =
          let some : 0 < suc l = omega arith in
          let scaled : suc l * (100 * unit * 1000000 * t) ≤ suc l * z = omega (arith, h) in
          le_of_mul-le-mul_left scaled some

-- ---- One moment

module _ (unit pace percent S R from width : ℕ) where
  abbrev IsOf : Wait → Type 0
  IsOf wait = IsWait unit pace S R from width wait

  -- One that sends shares the bandwidth of the senders with those of them that wait, or all of it with all that wait.
  pub sender_shares : (n m : ℕ) (wait : Wait) → IsOf wait → (load_at wait.next).we_sent ≡ true →
      100 * n ≤ percent * (load_at wait.next).senders → 100 * m ≤ percent * (load_at wait.next).members →
      Carries unit pace percent n S wait ⊎ Carries unit pace percent m
      (S + R) wait
  sender_shares n m wait is sends alike among_all =
      let load = load_at wait.next in
      let Keeps : Sharers → Type 0 = λ (sharers : Sharers). 1000000 * count_of sharers load * load.avg ≤ interval_of
      load * (256 * bandwidth_of sharers load) in
      elim (of_sender Keeps (nat_le (load.senders * (load.sender_bw + load.receiver_bw))
      (load.members * load.sender_bw)) load.we_sent sends (interval_keeps_to_share load is.some is.some_more)) [
        | inl keeps ↦
            inl (widened unit pace percent n load.sender_bw S load.avg (span_of wait) is.for_senders
            (carried unit pace n load.senders load.avg percent load.sender_bw (interval_of load) (span_of wait) alike
            keeps
            is.long))
        | inr keeps ↦
            inr (widened unit pace percent m (load.sender_bw + load.receiver_bw) (S + R) load.avg (span_of wait)
            (both_are load is.for_senders is.for_others)
            (carried unit pace m load.members load.avg percent (load.sender_bw + load.receiver_bw) (interval_of load)
            (span_of wait) among_all keeps is.long))
      ]
    where
      both_are : (load : Load) → load.sender_bw ≤ S → load.receiver_bw ≤ R → load.sender_bw + load.receiver_bw ≤ S + R
      both_are load one other = omega (arith, one, other)

  pub other_shares : (n m : ℕ) (wait : Wait) → IsOf wait → (load_at wait.next).we_sent ≡ false →
      100 * n ≤ percent * ((load_at wait.next).members - (load_at wait.next).senders) →
      100 * m ≤ percent * (load_at wait.next).members →
      Carries unit pace percent n R wait × Carries unit pace percent m (S + R) wait
  other_shares n m wait is sends alike among_all =
      let load = load_at wait.next in
      let keeps = interval_of_others load is.some is.some_more is.ordered sends in (
        widened unit pace percent n load.receiver_bw R load.avg (span_of wait) is.for_others
            (carried unit pace n (load.members - load.senders) load.avg percent load.receiver_bw (interval_of load)
            (span_of wait)
            alike keeps.0 is.long),
        widened unit pace percent m (load.sender_bw + load.receiver_bw) (S + R) load.avg (span_of wait)
            (both_are load is.for_senders is.for_others)
            (carried unit pace m load.members load.avg percent (load.sender_bw + load.receiver_bw) (interval_of load)
            (span_of wait) among_all keeps.1 is.long),
      )
    where
      both_are : (load : Load) → load.sender_bw ≤ S → load.receiver_bw ≤ R → load.sender_bw + load.receiver_bw ≤ S + R
      both_are load one other = omega (arith, one, other)

  some_sender : (load : Load) → 1 ≤ load.sender_bw → load.sender_bw ≤ S → 1 ≤ S
  some_sender load some same = omega (arith, some, same)

  -- While senders are few for their part of the bandwidth, each carries in its role.
  in_role : (n m : ℕ) → n * (S + R) ≤ m * S → (wait : Wait) → IsOf wait → (load_at wait.next).we_sent ≡ true →
      100 * n ≤ percent * (load_at wait.next).senders → 100 * m ≤ percent * (load_at wait.next).members →
      Carries unit pace percent n S wait
  in_role n m few wait is sends alike among_all =
      elim (sender_shares n m wait is sends alike among_all) [
        | inl h ↦ h
        | inr h ↦ carried_too unit pace m (S + R) n S (load_at wait.next).avg percent (span_of wait)
            (more S R (some_sender (load_at wait.next) is.some is.for_senders)) few h
      ]
    where
      more : (s r : ℕ) → 1 ≤ s → 1 ≤ s + r
      more s r h = omega (arith, h)

  -- While they are not, each carries among all.
  in_all : (n m : ℕ) → m * S ≤ n * (S + R) → (wait : Wait) → IsOf wait → (load_at wait.next).we_sent ≡ true →
      100 * n ≤ percent * (load_at wait.next).senders → 100 * m ≤ percent * (load_at wait.next).members →
      Carries unit pace percent m (S + R) wait
  in_all n m many wait is sends alike among_all =
      elim (sender_shares n m wait is sends alike among_all) [
        | inl h ↦ carried_too unit pace n S m (S + R) (load_at wait.next).avg percent (span_of wait)
            (some_sender (load_at wait.next) is.some is.for_senders) many h
        | inr h ↦ h
      ]

  module _ (waits : List Wait) (moment : ℕ) where
    abbrev those : List Wait
    those = open_at moment waits

    abbrev those_as : Bool → List Wait
    those_as sender = waits_as sender those

    abbrev count : Bool → ℕ
    count sender = length (those_as sender)

    -- what holds of each that waits holds of those of a role
    each_as : (P : Wait → Type 0) (sender : Bool) → All P those → All P (those_as sender)
    each_as P true h = All-filter (reports_next_as true) P those h
    each_as P false h = All-filter (reports_next_as false) P those h

    sent_so : (sender : Bool) → All (λ wait. (load_at wait.next).we_sent ≡ sender) (those_as sender)
    sent_so true = filter_passes (reports_next_as true) those
    sent_so false =
        let passes = filter_passes (reports_next_as false) those in
        λ k d inside. not_true (load_at (get_or (those_as false) k d).next).we_sent (passes k d inside)
      where
        not_true : (b : Bool) → not b ≡ true → b ≡ false
        not_true true h = absurd cc
        not_true false h = refl

    abbrev Counts : Wait → Type 0
    Counts wait = CountsWaiting percent waits moment (load_at wait.next)

    alike : (wait : Wait) → Counts wait → (sends : Bool) → (load_at wait.next).we_sent ≡ sends →
        100 * count sends ≤ percent * (if sends then (load_at wait.next).senders else
        (load_at wait.next).members - (load_at wait.next).senders)
    alike wait counts sends same =
        subst (λ (b : Bool). 100 * length (waits_as b (open_at moment waits))
        ≤ percent * (if b then (load_at wait.next).senders else
        (load_at wait.next).members - (load_at wait.next).senders)) same counts.alike

    senders_carry : count true * (S + R) ≤ length those * S → All IsOf those → All Counts those →
        All (Carries unit pace percent (count true) S) (those_as true)
    senders_carry few all counts =
        let each = each_as IsOf true all in
        let counted = each_as Counts true counts in
        let sends = sent_so true in
        λ k d inside.
        let wait : Wait = get_or (those_as true) k d in
        in_role (count true) (length those) few wait (each k d inside) (sends k d inside)
        (alike wait (counted k d inside) true (sends k d inside)) (counted k d inside).everyone

    others_carry : All IsOf those → All Counts those → All (Carries unit pace percent (count false) R) (those_as false)
    others_carry all counts =
        let each = each_as IsOf false all in
        let counted = each_as Counts false counts in
        let sends = sent_so false in
        λ k d inside.
        let wait : Wait = get_or (those_as false) k d in
        (other_shares (count false) (length those) wait (each k d inside) (sends k d inside)
        (alike wait (counted k d inside) false (sends k d inside)) (counted k d inside).everyone).0

    all_carry : length those * S ≤ count true * (S + R) → All IsOf those → All Counts those →
        All (Carries unit pace percent (length those) (S + R)) those
    all_carry many all counts =
        λ k d inside.
        let wait : Wait = get_or those k d in
        by wait (all k d inside) (counts k d inside) (load_at wait.next).we_sent refl
      where
        by : (wait : Wait) → IsOf wait → Counts wait → (sends : Bool) → (load_at wait.next).we_sent ≡ sends →
            Carries unit pace percent (length those) (S + R) wait
        by wait is counted true sends = in_all (count true) (length those) many wait is sends
            (alike wait counted true sends) counted.everyone
        by wait is counted false sends = (other_shares (count false) (length those) wait is sends
            (alike wait counted false sends) counted.everyone).1

    -- What all that wait bring at a moment keeps to the bandwidth, and what the others bring to their part of it.
    pub others_fit : (whole : ℕ) → All IsOf those → All (IsEven whole) those → All Counts those →
        100 * unit * 1000000 * sum_by (rate whole) (those_as false) ≤ percent * (pace * (256 * R)) * whole
    others_fit whole all even counts =
        all_rates unit pace percent whole R (those_as false) (others_carry all counts)
        (each_as (IsEven whole) false even)

    pub all_fit : (whole : ℕ) → All IsOf those → All (IsEven whole) those → All Counts those →
        100 * unit * 1000000 * sum_by (rate whole) those ≤ percent * (pace * (256 * (S + R))) * whole
    all_fit whole all even counts = elim (cases_lt (length those * S) (count true * (S + R))) [
      | inl many ↦
          all_rates unit pace percent whole (S + R) those (all_carry (omega (arith, many)) all counts) even
      | inr few ↦
          both (sum_by (rate whole) (those_as true)) (sum_by (rate whole) (those_as false))
          (sum_by (rate whole) those)
          (sum_by-filter_both (reports_next_as true) (reports_next_as false) (λ wait. refl) (rate whole) those)
          (all_rates unit pace percent whole S (those_as true) (senders_carry few all counts)
          (each_as (IsEven whole) true even))
          (others_fit whole all even counts)
    ]
      where
        both : (a b t : ℕ) → a + b ≡ t →
            100 * unit * 1000000 * a ≤ percent * (pace * (256 * S)) * whole →
            100 * unit * 1000000 * b ≤ percent * (pace * (256 * R)) * whole →
            100 * unit * 1000000 * t ≤ percent * (pace * (256 * (S + R))) * whole
        both a b t is one two =
            subst (λ (n : ℕ). 100 * unit * 1000000 * n ≤ percent * (pace * (256 * (S + R))) * whole) is
            (omega (arith, one, two))

  -- ---- A window

  -- what each brings in all its time
  averages_are : (whole : ℕ) (waits : List Wait) → All IsOf waits → All (IsEven whole) waits →
      whole * sum_by (λ wait. (load_at wait.next).avg) waits ≤ sum_by (λ wait. rate whole wait * spent from width wait)
      waits
  averages_are whole [] all even = omega arith
  averages_are whole (wait ∷ others) all even =
      let is = All-head IsOf wait others all in
      let same = All-head (IsEven whole) wait others even in
      let rest = averages_are whole others (All-tail IsOf wait others all) (All-tail (IsEven whole) wait others even) in
      let long = all_spent from width wait is.after is.before in
      let weights = sum_by-cons (λ (wait : Wait). (load_at wait.next).avg) wait others in
      let rated = sum_by-cons (λ (wait : Wait). rate whole wait * spent from width wait) wait others in
      subst (λ (n : ℕ). whole * n ≤ sum_by (λ wait. rate whole wait * spent from width wait) (wait ∷ others))
      (sym weights)
      (subst (λ (n : ℕ). whole * ((load_at wait.next).avg + sum_by (λ wait. (load_at wait.next).avg) others) ≤ n)
      (sym rated)
      (plus (load_at wait.next).avg (parts_of whole wait) (span_of wait) (spent from width wait)
      (sum_by (λ wait. (load_at wait.next).avg) others)
      (sum_by (λ wait. rate whole wait * spent from width wait) others) same long rest))
    where
      plus : (avg parts span moments avgs rest : ℕ) → parts * span ≡ whole → span ≤ moments → whole * avgs ≤ rest →
          whole * (avg + avgs) ≤ avg * parts * moments + rest
      plus avg parts span moments avgs rest is long h =
          let up : avg * parts * span ≤ avg * parts * moments = mul-le-mul_left (avg * parts) long in
          let same : avg * (parts * span) ≡ avg * whole = ap (λ (n : ℕ). avg * n) is in
          omega (arith, up, same, h)

  -- so much at each moment, and all of it in a window
  in_window : (whole z : ℕ) (waits : List Wait) → 1 ≤ whole → All IsOf waits → All (IsEven whole) waits →
      ((moment : ℕ) → 100 * unit * 1000000 * sum_by (rate whole) (open_at moment waits) ≤ z * whole) →
      100 * unit * 1000000 * sum_by (λ wait. (load_at wait.next).avg) waits ≤ width * z
  in_window whole z waits some all even most =
      cancel (sum_by (λ (wait : Wait). (load_at wait.next).avg) waits)
      (sum_by (λ (wait : Wait). rate whole wait * spent from width wait) waits)
      (averages_are whole waits all even)
      (each_moment (rate whole) from (100 * unit * 1000000) (z * whole) waits most width)
    where
      cancel : (avgs brought : ℕ) → whole * avgs ≤ brought → 100 * unit * 1000000 * brought ≤ width * (z * whole) →
          100 * unit * 1000000 * avgs ≤ width * z
      cancel avgs brought h k =
          let up : 100 * unit * 1000000 * (whole * avgs) ≤ 100 * unit * 1000000 * brought =
          mul-le-mul_left (100 * unit * 1000000) h in
          let scaled : whole * (100 * unit * 1000000 * avgs) ≤ whole * (width * z) = omega (arith, up, k) in
          le_of_mul-le-mul_left scaled some

  evenly : (waits : List Wait) → All IsOf waits → All (IsEven (whole_of waits)) waits
  evenly waits all =
      let parted = are_parted waits in
      λ k d inside. parts_are (whole_of waits) (get_or waits k d) (all k d inside).order (parted k d inside)

  open_such : (P : Wait → Type 0) (waits : List Wait) (moment : ℕ) → All P waits → All P (open_at moment waits)
  open_such P waits moment h = All-filter (is_open moment) P waits h

  pub averages_fit : (waits : List Wait) → All IsOf waits → AreCounted percent waits →
      100 * unit * 1000000 * sum_by (λ wait. (load_at wait.next).avg) waits
      ≤ percent * (pace * width * (256 * (S + R)))
  averages_fit waits all counts =
      let whole : ℕ = whole_of waits in
      let even = evenly waits all in
      turned (sum_by (λ (wait : Wait). (load_at wait.next).avg) waits)
      (in_window whole (percent * (pace * (256 * (S + R)))) waits
      (some_whole waits (λ k d inside. (all k d inside).order)) all even
      (at_ends (rate whole) (100 * unit * 1000000) (percent * (pace * (256 * (S + R))) * whole) waits waits
      (λ P h. h)
      (λ k d inside.
      let moment : ℕ = (get_or waits k d).until in
      all_fit waits moment whole (open_such IsOf waits moment all) (open_such (IsEven whole) waits moment even)
      (counts k d inside))))
    where
      turned : (t : ℕ) → 100 * unit * 1000000 * t ≤ width * (percent * (pace * (256 * (S + R)))) →
          100 * unit * 1000000 * t ≤ percent * (pace * width * (256 * (S + R)))
      turned t h = omega (arith, h)

  -- Those that do not send keep so to their part of the bandwidth.
  swapped : (p q : Wait → Bool) (waits : List Wait) → filter p (filter q waits) ≡ filter q (filter p waits)
  swapped p q [] = refl
  swapped p q (wait ∷ others) = by (p wait) refl (q wait) refl (swapped p q others)
    where
      by : (one : Bool) → p wait ≡ one → (other : Bool) → q wait ≡ other →
          filter p (filter q others) ≡ filter q (filter p others) →
          filter p (cond other (wait ∷ filter q others) (filter q others))
          ≡ filter q (cond one (wait ∷ filter p others) (filter p others))
      by true one true other rest =
          ap (λ (b : Bool). cond b (wait ∷ filter p (filter q others)) (filter p (filter q others))) one
          ∙ ap (λ (list : List Wait). wait ∷ list) rest
          ∙ sym (ap (λ (b : Bool). cond b (wait ∷ filter q (filter p others)) (filter q (filter p others))) other)
      by true one false other rest =
          rest ∙ sym (ap (λ (b : Bool). cond b (wait ∷ filter q (filter p others)) (filter q (filter p others))) other)
      by false one true other rest =
          ap (λ (b : Bool). cond b (wait ∷ filter p (filter q others)) (filter p (filter q others))) one ∙ rest
      by false one false other rest = rest

  pub others_averages_fit : (waits : List Wait) → All IsOf waits → AreCounted percent waits →
      100 * unit * 1000000 * sum_by (λ wait. (load_at wait.next).avg) (waits_as false waits)
      ≤ percent * (pace * width * (256 * R))
  others_averages_fit waits all counts =
      let whole : ℕ = whole_of waits in
      let even = evenly waits all in
      turned (sum_by (λ (wait : Wait). (load_at wait.next).avg) (waits_as false waits))
      (in_window whole (percent * (pace * (256 * R))) (waits_as false waits)
      (some_whole waits (λ k d inside. (all k d inside).order)) (All-filter (reports_next_as false) IsOf waits all)
      (All-filter (reports_next_as false) (IsEven whole) waits even)
      (at_ends (rate whole) (100 * unit * 1000000) (percent * (pace * (256 * R)) * whole) waits
      (waits_as false waits)
      (λ P h. All-filter (reports_next_as false) P waits h)
      (λ k d inside.
      let moment : ℕ = (get_or waits k d).until in
      subst (λ (list : List Wait). 100 * unit * 1000000 * sum_by (rate whole) list
      ≤ percent * (pace * (256 * R)) * whole) (swapped (reports_next_as false) (is_open moment) waits)
      (others_fit waits moment whole (open_such IsOf waits moment all)
      (open_such (IsEven whole) waits moment even) (counts k d inside)))))
    where
      turned : (t : ℕ) → 100 * unit * 1000000 * t ≤ width * (percent * (pace * (256 * R))) →
          100 * unit * 1000000 * t ≤ percent * (pace * width * (256 * R))
      turned t h = omega (arith, h)
