-- Lemmas on counts of failed calls.
use Rattle.std.proofs.Common.{◌≡◌, ◌≢◌, ℕ, zero, suc, List, Result, Ok, false, eqb, refl, arith}
use Rattle.std.proofs.lemmas.Bool.Decides.{nat_tests}
use Rattle.rtcp_text.specs.Counted.{count_after, took_nothing}

-- A write that took something leaves the count.
pub count_after-took : {E : Type 0} (r : Result ℕ E) (taken : ℕ) (octets : List ℕ) (old new : ℕ) → r ≡ Ok taken →
    taken ≢ 0
    → new ≡ count_after (took_nothing r octets) old → new ≡ old
count_after-took r taken octets old new is some counted =
    let e : eqb taken 0 ≡ false = grind (arith, nat_tests) in
    let counted' = rw is at counted in
    rw e at counted'

-- A count that cannot be anything else is zero.
pub zero_unless : (count : ℕ) → (count ≢ 0 → ⊥) → count ≡ 0
zero_unless zero h = refl
zero_unless (suc count) h = absurd (h (λ e. omega arith))
