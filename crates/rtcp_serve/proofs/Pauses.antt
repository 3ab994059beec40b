-- Pauses of a session that ends at a moment.
use Rattle.std.proofs.Common.{◌≡◌, ◌≤◌, ◌<◌, ◌/◌, ℕ, Bool, true, false, ◌⊎◌, inl, inr, Some, subst, arith}
use Rattle.std.proofs.lemmas.Bool.Decides.{nat_tests}
use Rattle.rtcp_serve.specs.Endings.{is_past, MayAnswer, IsCut, IsHeeded, Pause}

-- what is said of a turn, before the leave or after it
goes_on : (moment most made : ℕ) (one : Pause) (left : Bool)
    → IsHeeded (Some (is_past moment one.has_left one.moment)) most made one.is_over → one.is_over ≡ false
    → one.has_left ≡ left → false ≡ is_past moment left one.moment
goes_on moment most made one left heeded on is =
    subst (λ left. false ≡ is_past moment left one.moment) is
    (subst (λ over. IsHeeded (Some (is_past moment one.has_left one.moment)) most made over) on heeded)

pub turn_before : (moment most made : ℕ) (one : Pause)
    → IsHeeded (Some (is_past moment one.has_left one.moment)) most made one.is_over → one.is_over ≡ false
    → one.has_left ≡ false → one.moment < moment
turn_before moment most made one heeded on is =
    let tested = goes_on moment most made one false heeded on is in grind (arith, nat_tests, tested)

pub turn_after : (moment most made : ℕ) (one : Pause)
    → IsHeeded (Some (is_past moment one.has_left one.moment)) most made one.is_over → one.is_over ≡ false
    → one.has_left ≡ true → one.moment / 2 < moment
turn_after moment most made one heeded on is =
    let tested = goes_on moment most made one true heeded on is in grind (arith, nat_tests, tested)

-- Fewer turns than may be were made only once the moment had come.
past_by : (moment most made at : ℕ) (left : Bool) → (made ≡ most) ⊎ MayAnswer (Some (is_past moment left at)) true
    → made < most → true ≡ is_past moment left at
past_by moment most made at left (inl whole) fewer = absurd (omega (arith, whole, fewer))
past_by moment most made at left (inr past) fewer = past

pub past_before : (moment most made at : ℕ) → IsCut (Some (is_past moment false at)) most made → made < most
    → moment ≤ at
past_before moment most made at cut fewer =
    let tested = past_by moment most made at false cut.whole fewer in grind (arith, nat_tests, tested)

pub past_after : (moment most made at : ℕ) → IsCut (Some (is_past moment true at)) most made → made < most
    → moment ≤ at / 2
past_after moment most made at cut fewer =
    let tested = past_by moment most made at true cut.whole fewer in grind (arith, nat_tests, tested)
