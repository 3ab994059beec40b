-- What goes on at a rate while each waits, moment by moment: what all bring in a window is at most what they may bring
-- at a moment, for each moment of it.
use Rattle.std.proofs.Common.{◌≡◌, ℕ, zero, suc, ◌+◌, ◌-◌, ◌*◌, ◌/◌, ◌<◌, ◌≤◌, ◌⊎◌, ◌&&◌, inl, inr, nat_le, nat_lt, Bool, true, false, cond, List, [], ◌∷◌, filter, All, refl, sym, ap, ◌∙◌, arith, subst}
use Rattle.std.specs.List.{sum_by}
use Rattle.std.proofs.Math.Nat.{le_trans, mul-le-mul_left}
use Rattle.std.proofs.lemmas.Bool.{cases_lt, and_cases, and_parts, and_from, both_ways, leb-true, leb-false, ltb-true, ltb-false, lt-ltb, le-leb}
use Rattle.std.proofs.lemmas.Nat.{div-mul-add}
use Rattle.std.proofs.lemmas.List.Elements.{All-nil, All-cons, All-head, All-tail, All-weaker}
use Rattle.std.proofs.lemmas.List.Sums.{sum_by-cons}
use Rattle.rtcp_session.specs.Waits.{Wait, is_open, open_at}
use Rattle.rtcp_session.proofs.Pacing.{more_if}

-- ---- Moments

abbrev pub span_of : Wait → ℕ
span_of wait = wait.until - wait.since

-- at how many of the first moments after one it is open
abbrev pub spent : (from n : ℕ) → Wait → ℕ
spent from zero wait = 0
spent from (suc n) wait = more_if (is_open (from + suc n) wait) (spent from n wait)

one_more : (since until last t m s : ℕ) (opens : Bool) → t ≡ suc last → (nat_lt since t && nat_le t until) ≡ opens →
    m ≤ until → m ≤ t → ((k : ℕ) → k ≤ until → k ≤ last → k ≤ since + s) → m ≤ since + more_if opens s
one_more since until last t m s true next is before within rest = elim (cases_lt last m) [
  | inl beyond ↦
      let so_far = rest last (omega (arith, beyond, before)) (omega arith) in
      omega (arith, so_far, within, next)
  | inr early ↦
      let so_far = rest m before early in
      omega (arith, so_far)
]
one_more since until last t m s false next is before within rest = elim (cases_lt last m) [
  | inl beyond ↦ elim (and_cases (nat_lt since t) (nat_le t until) is) [
    | inl not_yet ↦
        let later = ltb-false since t not_yet in
        omega (arith, later, within)
    | inr over ↦
        let earlier = leb-false t until over in
        absurd (omega (arith, earlier, before, beyond, next))
  ]
  | inr early ↦ rest m before early
]

-- It is open at as many as it waits for.
reached : (from n : ℕ) (wait : Wait) → from ≤ wait.since → (m : ℕ) → m ≤ wait.until → m ≤ from + n →
    m ≤ wait.since + spent from n wait
reached from zero wait after m before within = omega (arith, after, within)
reached from (suc n) wait after m before within =
    one_more wait.since wait.until (from + n) (from + suc n) m (spent from n wait) (is_open (from + suc n) wait)
    (omega arith) refl before within (reached from n wait after)

pub all_spent : (from width : ℕ) (wait : Wait) → from ≤ wait.since → wait.until ≤ from + width →
    span_of wait ≤ spent from width wait
all_spent from width wait after before =
    let up = reached from width wait after wait.until (omega arith) before in
    omega (arith, up)

-- ---- Sums over moments

module _ (rate : Wait → ℕ) (from : ℕ) where
  abbrev brought : (n : ℕ) → Wait → ℕ
  brought n wait = rate wait * spent from n wait

  none_yet : (waits : List Wait) → sum_by (brought 0) waits ≡ 0
  none_yet [] = refl
  none_yet (wait ∷ others) =
      let sum = sum_by-cons (brought 0) wait others in
      let rest = none_yet others in
      omega (arith, sum, rest)

  at_rate : (opens : Bool) (wait : Wait) (others : List Wait) (a b c : ℕ) → a ≡ b + c → sum_by rate others ≡ c
      → (s : ℕ) → rate wait * more_if opens s + a ≡ rate wait * s + b + sum_by rate (cond opens (wait ∷ others) others)
  at_rate true wait others a b c is same s =
      let sum = sum_by-cons rate wait others in
      omega (arith, sum, is, same)
  at_rate false wait others a b c is same s = omega (arith, is, same)

  next_moment : (n : ℕ) (waits : List Wait) →
      sum_by (brought (suc n)) waits ≡ sum_by (brought n) waits + sum_by rate (open_at (from + suc n) waits)
  next_moment n [] = refl
  next_moment n (wait ∷ others) =
      let longer = sum_by-cons (brought (suc n)) wait others in
      let shorter = sum_by-cons (brought n) wait others in
      let one = at_rate (is_open (from + suc n) wait) wait (open_at (from + suc n) others)
      (sum_by (brought (suc n)) others) (sum_by (brought n) others)
      (sum_by rate (open_at (from + suc n) others)) (next_moment n others) refl (spent from n wait) in
      longer ∙ one ∙ ap (λ (t : ℕ). t + sum_by rate (open_at (from + suc n) (wait ∷ others))) (sym shorter)

  -- so much at each moment
  pub each_moment : (x z : ℕ) (waits : List Wait) → ((moment : ℕ) → x * sum_by rate (open_at moment waits) ≤ z) →
      (n : ℕ) → x * sum_by (brought n) waits ≤ n * z
  each_moment x z waits most zero =
      subst (λ (t : ℕ). x * t ≤ 0 * z) (sym (none_yet waits)) (omega arith)
  each_moment x z waits most (suc n) =
      subst (λ (t : ℕ). x * t ≤ suc n * z) (sym (next_moment n waits))
      (plus (sum_by (brought n) waits) (sum_by rate (open_at (from + suc n) waits)) n (each_moment x z waits most n)
      (most (from + suc n)))
    where
      plus : (a b n : ℕ) → x * a ≤ n * z → x * b ≤ z → x * (a + b) ≤ suc n * z
      plus a b n rest one = omega (arith, rest, one)

-- ---- The ends of waits

module _ (P : ℕ → Type 0) (moment : ℕ) where
  abbrev IsShut : Wait → Type 0
  IsShut wait = is_open moment wait ≡ false

  abbrev LastsTo : (end : ℕ) → Wait → Type 0
  LastsTo end wait = is_open moment wait ≡ true → end ≤ wait.until

  -- Those who wait at a moment still wait when the first of them sends its next report.
  abbrev FirstEnd : List Wait → Type 0
  FirstEnd waits = (end : ℕ) × P end × (moment ≤ end) × All (LastsTo end) waits

  first_end : (waits : List Wait) → All (λ next. P next.until) waits → All IsShut waits ⊎ FirstEnd waits
  first_end [] h = inl (All-nil IsShut)
  first_end (wait ∷ others) h =
      let ends : Wait → Type 0 = λ (next : Wait). P next.until in
      by (is_open moment wait) refl (All-head ends wait others h) (first_end others (All-tail ends wait others h))
    where
      by : (opens : Bool) → is_open moment wait ≡ opens → P wait.until → All IsShut others ⊎ FirstEnd others →
          All IsShut (wait ∷ others) ⊎ FirstEnd (wait ∷ others)
      by false is here (inl none) = inl (All-cons IsShut wait others is none)
      by false is here (inr found) =
          inr (
            found.0,
            found.1,
            found.2,
            All-cons (LastsTo found.0) wait others
                (λ opens. absurd (both_ways (is_open moment wait) is opens)) found.3,
          )
      by true is here (inl none) =
          inr (
            wait.until,
            here,
            leb-true moment wait.until (and_parts _ _ is).1,
            All-cons (LastsTo wait.until) wait others (λ opens. omega arith)
                (All-weaker IsShut (LastsTo wait.until)
                (λ other shut opens. absurd (both_ways (is_open moment other) shut opens)) others none),
          )
      by true is here (inr found) = elim (cases_lt found.0 wait.until) [
        | inl sooner ↦
            inr (
              found.0,
              found.1,
              found.2,
              All-cons (LastsTo found.0) wait others (λ opens. omega (arith, sooner))
                  found.3,
            )
        | inr later ↦
            inr (
              wait.until,
              here,
              leb-true moment wait.until (and_parts _ _ is).1,
              All-cons (LastsTo wait.until) wait others (λ opens. omega arith)
                  (All-weaker (LastsTo found.0) (LastsTo wait.until)
                  (λ other lasts opens. le_trans later (lasts opens)) others found.3),
            )
      ]

still_open : (moment end : ℕ) (wait : Wait) → moment ≤ end → (is_open moment wait ≡ true → end ≤ wait.until) →
    is_open moment wait ≡ true → is_open end wait ≡ true
still_open moment end wait later lasts opens =
    let parts = and_parts _ _ opens in
    let begun = ltb-true wait.since moment parts.0 in
    and_from (nat_lt wait.since end) (nat_le end wait.until) (lt-ltb wait.since end (omega (arith, begun, later)))
    (le-leb end wait.until (lasts opens))

-- Sums over more of a list are no less.
more_of : (rate : Wait → ℕ) (p q : Wait → Bool) (waits : List Wait) →
    All (λ wait. p wait ≡ true → q wait ≡ true) waits → sum_by rate (filter p waits) ≤ sum_by rate (filter q waits)
more_of rate p q [] h = omega arith
more_of rate p q (wait ∷ others) h =
    let Goes : Wait → Type 0 = λ (wait : Wait). p wait ≡ true → q wait ≡ true in
    by (p wait) (q wait) (All-head Goes wait others h) (more_of rate p q others (All-tail Goes wait others h))
  where
    by : (one other : Bool) → (one ≡ true → other ≡ true) →
        sum_by rate (filter p others) ≤ sum_by rate (filter q others) →
        sum_by rate (cond one (wait ∷ filter p others) (filter p others))
        ≤ sum_by rate (cond other (wait ∷ filter q others) (filter q others))
    by true true goes rest =
        let some = sum_by-cons rate wait (filter p others) in
        let more = sum_by-cons rate wait (filter q others) in
        omega (arith, some, more, rest)
    by true false goes rest = absurd (both_ways false refl (goes refl))
    by false true goes rest =
        let more = sum_by-cons rate wait (filter q others) in
        omega (arith, more, rest)
    by false false goes rest = rest

none_of : (rate : Wait → ℕ) (moment : ℕ) (waits : List Wait) → All (λ wait. is_open moment wait ≡ false) waits →
    sum_by rate (open_at moment waits) ≡ 0
none_of rate moment [] h = refl
none_of rate moment (wait ∷ others) h =
    let Shut : Wait → Type 0 = λ (wait : Wait). is_open moment wait ≡ false in
    ap (λ (b : Bool). sum_by rate (cond b (wait ∷ open_at moment others) (open_at moment others)))
    (All-head Shut wait others h) ∙ none_of rate moment others (All-tail Shut wait others h)

-- What holds whenever one of them sends its next report holds at each moment.
pub at_ends : (rate : Wait → ℕ) (x z : ℕ) (waits some : List Wait) →
    ((P : Wait → Type 0) → All P waits → All P some) →
    All (λ next. x * sum_by rate (open_at next.until some) ≤ z) waits → (moment : ℕ) →
    x * sum_by rate (open_at moment some) ≤ z
at_ends rate x z waits some part most moment =
    elim (first_end (λ (end : ℕ). x * sum_by rate (open_at end some) ≤ z) moment waits most) [
      | inl none ↦
          subst (λ (t : ℕ). x * t ≤ z)
          (sym (none_of rate moment some (part (λ (wait : Wait). is_open moment wait ≡ false) none))) (omega arith)
      | inr found ↦
          let still : All (λ wait. is_open moment wait ≡ true → is_open found.0 wait ≡ true) some =
          All-weaker (λ (wait : Wait). is_open moment wait ≡ true → found.0 ≤ wait.until)
          (λ (wait : Wait). is_open moment wait ≡ true → is_open found.0 wait ≡ true)
          (λ wait lasts opens. still_open moment found.0 wait found.2 lasts opens) some
          (part (λ (wait : Wait). is_open moment wait ≡ true → found.0 ≤ wait.until) found.3) in
          le_trans (mul-le-mul_left x (more_of rate (is_open moment) (is_open found.0) some still)) found.1
    ]

-- ---- Rates

-- A number that the time which a wait takes divides, so that what it brings in all that time goes in equal parts.
abbrev pub IsParted : (whole : ℕ) → Wait → Type 0
IsParted whole wait = (parts : ℕ) × (parts * span_of wait ≡ whole)

-- one for all of them
abbrev pub whole_of : List Wait → ℕ
whole_of [] = 1
whole_of (wait ∷ others) = span_of wait * whole_of others

pub are_parted : (waits : List Wait) → All (IsParted (whole_of waits)) waits
are_parted [] = All-nil (IsParted 1)
are_parted (wait ∷ others) =
    let whole = whole_of others in
    All-cons (IsParted (span_of wait * whole)) wait others (whole, turned (span_of wait) whole)
    (All-weaker (IsParted whole) (IsParted (span_of wait * whole))
    (λ other is. (span_of wait * is.0, more (span_of wait) is.0 (span_of other) whole is.1)) others (are_parted others))
  where
    turned : (a b : ℕ) → b * a ≡ a * b
    turned a b = omega arith

    more : (a parts span whole : ℕ) → parts * span ≡ whole → a * parts * span ≡ a * whole
    more a parts span whole is = assoc a parts span ∙ ap (λ (n : ℕ). a * n) is
      where
        assoc : (a p s : ℕ) → a * p * s ≡ a * (p * s)
        assoc a p s = omega arith

pub some_whole : (waits : List Wait) → All (λ wait. wait.since < wait.until) waits → 1 ≤ whole_of waits
some_whole [] h = omega arith
some_whole (wait ∷ others) h =
    let P : Wait → Type 0 = λ (wait : Wait). wait.since < wait.until in
    let one = All-head P wait others h in
    let rest = some_whole others (All-tail P wait others h) in
    grow (span_of wait) (whole_of others) (omega (arith, one)) rest
  where
    grow : (a b : ℕ) → 1 ≤ a → 1 ≤ b → 1 ≤ a * b
    grow a b h k =
        let up : a * 1 ≤ a * b = mul-le-mul_left a k in
        omega (arith, up, h)

-- how many parts there are
abbrev pub parts_of : (whole : ℕ) → Wait → ℕ
parts_of whole wait = whole / span_of wait

pub parts_are : (whole : ℕ) (wait : Wait) → wait.since < wait.until → IsParted whole wait →
    parts_of whole wait * span_of wait ≡ whole
parts_are whole wait order is =
    by is.0 (span_of wait) whole (omega (arith, order)) is.1
  where
    nothing_more : (n : ℕ) → n + 0 ≡ n
    nothing_more n = omega arith

    by : (parts span whole : ℕ) → 0 < span → parts * span ≡ whole → whole / span * span ≡ whole
    by parts span whole some is =
        subst (λ (n : ℕ). n / span * span ≡ n) (nothing_more (parts * span) ∙ is)
        (ap (λ (n : ℕ). n * span) (div-mul-add parts span 0 some) ∙ sym (nothing_more (parts * span)))
