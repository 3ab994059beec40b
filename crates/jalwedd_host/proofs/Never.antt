-- 2^64 - 1 stands for no moment, and for nothing else.
use Rattle.std.proofs.Common.{◌≡◌, ◌↔◌, ◌≤◌, ◌<◌, ◌+◌, ◌-◌, ◌^◌, ℕ, Option, Some, None, IfSome, refl, sym, subst, ◌∙◌, arith}
use Rattle.rtcp_members.specs.Listings.{StateValue}
use Rattle.rtcp_members.proofs.LawLemmas as tables
use Rattle.rtcp_engine.specs.answers.Histories.{History, last_moment, life_at, setup_at}
use Rattle.rtcp_engine.specs.answers.Leaving.{Life, present, backing_off, finished}
use Rattle.rtcp_engine.specs.answers.Lives.{ListsInLife}
use Rattle.rtcp_engine.specs.answers.Setups.{Setup}
use Rattle.rtcp_engine.specs.state.Taken.{IsHistory}
use Rattle.rtcp_engine.proofs.LawLemmas as engine
use Rattle.jalwedd_host.specs.declared.source.HostSource.{HostSource}
use Rattle.jalwedd_host.specs.Answers.{moment_shown}
use Rattle.jalwedd_host.specs.Sources.{IsShown, last_report_shown}
use Rattle.jalwedd_host.proofs.Options.{some_same}

-- ---- Moments of taken calls

pub in_range : {A : Type 0} (start : ℕ) (moment : A → ℕ) (latest : ℕ) (known : Option A) → start < 2 ^ 63 →
    latest ≤ 2 ^ 50 → IfSome known (λ x. moment x ≤ latest) → IfSome known (λ x. start + moment x < 2 ^ 64 - 1)
in_range start moment latest None low range past = tt
in_range start moment latest (Some x) low range past = omega (arith, low, range, past)

-- ---- What stands for none

-- a moment is told of what is known, and else this one
or_never : {A : Type 0} (start : ℕ) (moment : A → ℕ) (shown : Option A → ℕ) (known : Option A) (n : ℕ) →
    shown None ≡ 2 ^ 64 - 1 → ((x : A) → shown (Some x) ≡ start + moment x) → n ≡ shown known →
    IfSome known (λ x. start + moment x < 2 ^ 64 - 1) → (n ≡ 2 ^ 64 - 1) ↔ (known ≡ None)
or_never start moment shown None n none some is before = (λ never. refl, λ same. is ∙ none)
or_never start moment shown (Some x) n none some is before =
    (λ never. absurd (omega (arith, is, some x, never, before)), λ same. absurd cc)

-- ---- What a host is given

-- Only one thing may be told.
listed_once : (setup : Setup) (after : Option ℕ) (life : Life) (a b : Option StateValue) →
    ListsInLife setup after life a → ListsInLife setup after life b → a ≡ b
listed_once setup after (present outcome) a b one other =
    tables.listings_follow_traces-only after setup.capacity outcome.trace a b one other
listed_once setup after (backing_off outcome backoff) a b one other = one ∙ sym other
listed_once setup after (finished outcome) a b one other = one ∙ sym other

-- So a source that says what is told says whatever may be told.
pub shows_this : (setup : Setup) (after : Option ℕ) (life : Life) (told state : StateValue) (start : ℕ)
    (shown : HostSource)
    → ListsInLife setup after life (Some told) → IsShown start shown told → ListsInLife setup after life (Some state)
    → IsShown start shown state
shows_this setup after life told state start shown tells shows this =
    let same = listed_once setup after life (Some told) (Some state) tells this in
    subst (IsShown start shown) (some_same told state same) shows

module _ (history : History) (is : IsHistory history) (after : Option ℕ) (state : StateValue)
    (tells : ListsInLife (setup_at history) after (life_at history) (Some state))
    (start : ℕ) (low : start < 2 ^ 63) (shown : HostSource) (shows : IsShown start shown state) where
  abbrev latest : ℕ
  latest = last_moment history.acts

  range : latest ≤ 2 ^ 50
  range = engine.listed_moments_have_passed-range history is

  pub shows_left : (shown.left ≡ 2 ^ 64 - 1) ↔ (state.left ≡ None)
  shows_left =
      or_never start (λ left. left) (moment_shown start) state.left shown.left refl (λ left. refl) shows.left
      (in_range start (λ left. left) latest state.left low range
      (engine.listed_moments_have_passed-left history is after state tells))

  pub shows_report : (shown.told ≡ 2 ^ 64 - 1) ↔ (state.last_report ≡ None)
  shows_report =
      or_never start (λ told. told.moment) (λ told. (last_report_shown start told).moment) state.last_report shown.told
      refl
      (λ told. refl) shows.told (in_range start (λ told. told.moment) latest state.last_report low range
      (engine.listed_moments_have_passed-last_report history is after state tells))
