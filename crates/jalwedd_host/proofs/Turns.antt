-- Of changes by rising SSRC, the first from a number on.
use Rattle.std.proofs.Common.{◌≡◌, ◌≤◌, ◌&&◌, ℕ, suc, zero, not, nat_le, nat_lt, Bool, true, false, cond, List, [], ◌∷◌, Option, Some, slice_get, refl, sym, ap, ◌∙◌, arith}
use Rattle.std.proofs.lemmas.Bool.Decides.{nat_tests}
use Rattle.std.specs.List.{find}
use Rattle.rtcp_listing.specs.declared.change.Change.{Change}
use Rattle.rtcp_listing.specs.Differences.{changes_rise_from}
use Rattle.jalwedd_host.proofs.Options.{some_same}

abbrev pub first_from : ℕ → List Change → Option Change
first_from from changes = find (λ (change : Change). nat_le from change.ssrc) changes

both_true : (a b : Bool) → a && b ≡ true → (a ≡ true) × (b ≡ true)
both_true true b e = (refl, e)
both_true false b e = absurd cc

pub first_of_all : (changes : List Change) → first_from 0 changes ≡ slice_get changes 0
first_of_all [] = refl
first_of_all (change ∷ rest) =
    let test : nat_le 0 change.ssrc ≡ true = grind (arith, nat_tests) in
    ap (λ (b : Bool). cond b (Some change) (first_from 0 rest)) test

first_of_rising : (low : ℕ) (changes : List Change) → changes_rise_from low changes ≡ true →
    first_from low changes ≡ slice_get changes 0
first_of_rising low [] e = refl
first_of_rising low (change ∷ rest) e =
    let both = both_true (not (nat_lt change.ssrc low)) (changes_rise_from (suc change.ssrc) rest) e in
    let test : nat_le low change.ssrc ≡ true = grind (arith, nat_tests, both.0) in
    ap (λ (b : Bool). cond b (Some change) (first_from low rest)) test

-- No change lies below where they rise from.
above : (low index : ℕ) (changes : List Change) (change : Change) → changes_rise_from low changes ≡ true →
    slice_get changes index ≡ Some change → low ≤ change.ssrc
above low index [] change e at = absurd cc
above low zero (first ∷ rest) change e at =
    let both = both_true (not (nat_lt first.ssrc low)) (changes_rise_from (suc first.ssrc) rest) e in
    let same : first ≡ change = some_same first change at in
    grind (arith, nat_tests, both.0, same)
above low (suc index) (first ∷ rest) change e at =
    let both = both_true (not (nat_lt first.ssrc low)) (changes_rise_from (suc first.ssrc) rest) e in
    let further : suc first.ssrc ≤ change.ssrc = above (suc first.ssrc) index rest change both.1 at in
    grind (arith, nat_tests, both.0, further)

pub next_of_rising : (low index : ℕ) (changes : List Change) (change : Change) → changes_rise_from low changes ≡ true →
    slice_get changes index ≡ Some change
    → first_from (suc change.ssrc) changes ≡ slice_get changes (suc index)
next_of_rising low index [] change e at = absurd cc
next_of_rising low zero (first ∷ rest) change e at =
    let both = both_true (not (nat_lt first.ssrc low)) (changes_rise_from (suc first.ssrc) rest) e in
    let same : first ≡ change = some_same first change at in
    let test : nat_le (suc change.ssrc) first.ssrc ≡ false = grind (arith, nat_tests, same) in
    ap (λ (b : Bool). cond b (Some first) (first_from (suc change.ssrc) rest)) test
    ∙ first_of_rising (suc change.ssrc) rest (ap (λ (c : Change). changes_rise_from (suc c.ssrc) rest) (sym same)
    ∙ both.1)
next_of_rising low (suc index) (first ∷ rest) change e at =
    let both = both_true (not (nat_lt first.ssrc low)) (changes_rise_from (suc first.ssrc) rest) e in
    let further : suc first.ssrc ≤ change.ssrc = above (suc first.ssrc) index rest change both.1 at in
    let test : nat_le (suc change.ssrc) first.ssrc ≡ false = grind (arith, nat_tests, further) in
    ap (λ (b : Bool). cond b (Some first) (first_from (suc change.ssrc) rest)) test
    ∙ next_of_rising (suc first.ssrc) index rest change both.1 at
