-- The identifiers of a participant (RFC 3550, 8.2).
use Rattle.std.specs.Prelude.{ℕ, ◌≡◌, ◌<◌, ◌+◌, ◌%◌, ◌^◌, Bool, true, false, List, [], ◌∷◌}
use Rattle.rtcp_engine.specs.answers.Changes.{is_among}
pub use Rattle.rtcp_engine.specs.answers.Changes.{with_ssrc, most_changes, may_change, first_free}

-- no number stands twice
abbrev pub AreApart : List ℕ → Type 0
AreApart [] = Unit {0}
AreApart (number ∷ numbers) = (is_among numbers number ≡ false) × AreApart numbers

-- The same in other words: a number is the first of another and those that follow it, modulo 2^32, that is not taken.
pub record IsFirstFree (is_taken : ℕ → Bool) (from number : ℕ) : Type 0 where
  pub tries : ℕ
  pub here : number ≡ (from + tries) % 2 ^ 32
  pub free : is_taken number ≡ false
  pub sooner : (n : ℕ) → n < tries → is_taken ((from + n) % 2 ^ 32) ≡ true
