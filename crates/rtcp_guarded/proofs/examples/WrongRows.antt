-- What would be wrong: each statement here is a law without one of its premises, or a little stronger, and there is a
-- history of which it does not hold.
use Rattle.std.proofs.Common.{arith, ◌≡◌, ℕ, true, false, List, [], ◌∷◌, Option, Some, is_some, refl, ap}
use Rattle.rtcp_guard.specs.Guarding.{GuardValue}
use Rattle.rtcp_guard.specs.Histories.{claim_of}
use Rattle.rtcp_guard.specs.declared.verdict.Verdict.TheVariants.{Pass, Stranger}
use Rattle.rtcp_engine.specs.answers.Acts.{Act, ticked}
use Rattle.rtcp_engine.specs.state.Taken.{IsHistory}
use Rattle.rtcp_guarded.specs.Claimed.{AllNameFew, IsHeldBack, IsNotMoved, IsPresentThroughout, followed, is_present, owner_at}
use Rattle.rtcp_guarded.specs.Guarded.{passed_at, GuardedAct, GuardedHistory, told, expected, course_at, guard_at, with_told}
use Rattle.rtcp_guarded.proofs.examples.GuardedRows.{after, came_taken, usable, goodbye, one_came, packet, peer}

-- A source may be claimed that is not there: one that the host expects.
claimed_are_present : ((history : GuardedHistory) (ssrc : ℕ) →
    is_some (claim_of history.settings ssrc (course_at history).steps) ≡ true → is_present ssrc history ≡ true) → ⊥
claimed_are_present law =
    let there : false ≡ true = law (after (expected 7 1 5 ∷ [])) 7 refl in cc

-- The host may move a source that is present.
never_moved : ((older : GuardedHistory) (newer : List GuardedAct) (ssrc owner : ℕ) →
    IsPresentThroughout ssrc newer older → owner_at ssrc older ≡ Some owner →
    owner_at ssrc (followed older newer) ≡ Some owner) → ⊥
never_moved law =
    let by : ℕ → Option ℕ = λ origin. Some origin in
    let same : by 2 ≡ by 1 = law one_came (expected 7 2 6 ∷ []) 7 1 (refl, refl) refl in cc

-- What is passed on changes what comes later.
datagrams_change_nothing : ((older : GuardedHistory) (act : Act) (ssrc : ℕ) →
    is_present ssrc (with_told older act) ≡ is_present ssrc older) → ⊥
datagrams_change_nothing law =
    let same : true ≡ false = law (after []) (packet 5 (peer 1 5004) 7) 7 in cc

-- An entry may outlive its claim where the host's clock goes back to what it expects: the claim is older then.
abbrev expected_earlier : GuardedHistory
expected_earlier = after (told (ticked 12500003 0 0) ∷ expected 7 1 0 ∷ one_came.acts)

earlier_taken : IsHistory (passed_at expected_earlier)
earlier_taken = record {
  usable = usable;
  word = omega arith;
  taken = (refl, (omega arith, omega arith), came_taken.taken);
}

claimed_in_any_order : ((history : GuardedHistory) (ssrc : ℕ) → IsHistory (passed_at history) →
    AllNameFew history.acts → is_present ssrc history ≡ true →
    is_some (claim_of history.settings ssrc (course_at history).steps) ≡ true) → ⊥
claimed_in_any_order law =
    let there : false ≡ true = law expected_earlier 7 earlier_taken (omega arith, tt) refl in cc

-- A source that was gone in between may be another origin's.
always_its : ((older : GuardedHistory) (newer : List GuardedAct) (ssrc owner : ℕ) → IsNotMoved ssrc newer →
    owner_at ssrc older ≡ Some owner → owner_at ssrc (followed older newer) ≡ Some owner) → ⊥
always_its law =
    let by : ℕ → Option ℕ = λ origin. Some origin in
    let same : by 2 ≡ by 1 = law one_came
    (told (packet 1000000000 (peer 2 5004) 7) ∷ told (ticked 1000000000 0 0) ∷ []) 7 1 tt refl in cc

-- The guard counts what it holds back.
guard_is_the_same : ((older : GuardedHistory) (act : Act) → IsHeldBack older act →
    guard_at (with_told older act) ≡ guard_at older) → ⊥
guard_is_the_same law =
    let stops : Stranger ≡ Pass → ⊥ = λ is. cc in
    let count : ℕ → ℕ = λ n. n in
    let same : count 1 ≡ count 0 = ap (λ (guard : GuardValue). guard.held_back.strangers)
    (law one_came (goodbye 6 (peer 2 5004) 7) (refl, stops)) in cc
