-- What is there of an option, and a bit as a number.
use Rattle.std.proofs.Common.{◌≡◌, Bool, true, false, Some, None, refl, ap}
use Rattle.std.specs.Int.{from_bool}
use Rattle.jalwedd_host.specs.Answers.{one_if}

-- Where two are there and are the same, so are their values.
pub some_same : {A : Type 0} (a b : A) → Some a ≡ Some b → a ≡ b
some_same a b is = ap (λ o. elim o [ None ↦ a | Some x ↦ x ]) is

pub bit_number : (bit : Bool) → from_bool bit ≡ one_if bit
bit_number true = refl
bit_number false = refl
