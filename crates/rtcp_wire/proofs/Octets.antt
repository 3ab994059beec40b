-- Octets that are below 256: the numbers that they say have a size, and what holds of each value that is joined.
use Rattle.std.proofs.Common.{◌≡◌, ℕ, zero, suc, ◌^◌, ◌<◌, List, [], ◌∷◌, ◌++◌, All, drop, subst, arith}
use Rattle.std.specs.Prelude.{slice_index}
use Rattle.std.proofs.lemmas.List.Elements.{All-nil, All-cons, All-head, All-tail, All-drop}
use Rattle.byteorder.specs.Endian.{big_number}
use Rattle.byteorder.specs.Numbers.{big_from-lt}
use Rattle.rtcp_wire.specs.Grammar.{Joins, AreOctets}

-- ---- Numbers

-- each octet, and the 0 that stands for those past the end
pub octet_at : (octets : List ℕ) → AreOctets octets → (k : ℕ) → slice_index octets k < 256
octet_at [] all k = omega arith
octet_at (x ∷ xs) all zero = All-head (λ o. o < 256) x xs all
octet_at (x ∷ xs) all (suc k) = octet_at xs (All-tail (λ o. o < 256) x xs all) k

pub number_fits : (n : ℕ) (octets : List ℕ) → AreOctets octets → big_number n octets < 256 ^ n
number_fits n octets all = big_from-lt 0 n octets (octet_at octets all)

-- the number after k octets
pub number_fits_after : (k n : ℕ) (octets : List ℕ) → AreOctets octets → big_number n (drop k octets) < 256 ^ n
number_fits_after k n octets all = number_fits n (drop k octets) (All-drop (λ o. o < 256) k octets all)

-- ---- Parts

all_left : {A : Type 0} (P : A → Type 0) (xs ys : List A) → All P (xs ++ ys) → All P xs
all_left P [] ys all = All-nil P
all_left P (x ∷ xs) ys all =
    All-cons P x xs (All-head P x (xs ++ ys) all) (all_left P xs ys (All-tail P x (xs ++ ys) all))

all_right : {A : Type 0} (P : A → Type 0) (xs ys : List A) → All P (xs ++ ys) → All P ys
all_right P [] ys all = all
all_right P (x ∷ xs) ys all = all_right P xs ys (All-tail P x (xs ++ ys) all)

-- Both parts of octets are octets.
pub both_octets : (b a c : List ℕ) → b ≡ a ++ c → AreOctets b → AreOctets a × AreOctets c
both_octets b a c parts all =
    let joined : AreOctets (a ++ c) = subst (λ (t : List ℕ). AreOctets t) parts all in
    (all_left (λ o. o < 256) a c joined, all_right (λ o. o < 256) a c joined)

-- What holds of each value that octets say holds of all that are joined.
pub each_joined : {A : Type 0} (Spells : A → List ℕ → Type 0) (P : A → Type 0)
    → ((x : A) (octets : List ℕ) → AreOctets octets → Spells x octets → P x)
    → (xs : List A) (octets : List ℕ) → AreOctets octets → Joins Spells xs octets → All P xs
each_joined Spells P each [] octets all h = All-nil P
each_joined Spells P each (x ∷ xs) octets all h =
    let both = both_octets octets h.0 h.1 h.2 all in
    All-cons P x xs (each x h.0 both.0 h.3) (each_joined Spells P each xs h.1 both.1 h.4)
