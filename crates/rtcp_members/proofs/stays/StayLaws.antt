-- Stays and senders in other words: prefixes of the trace, and the newest counted packets in them.
use Rattle.std.proofs.Common.{◌≡◌, ℕ, ◌<◌, true, false, true≢false, if◌then◌else◌, nat_lt, List, [], ◌∷◌, ◌++◌, Option, Some, None, refl, sym, ap, subst, ◌∙◌, arith}
use Rattle.std.proofs.lemmas.Bool.{ltb-true}
use Rattle.std.proofs.lemmas.Bool.Decides.{nat_tests}
use Rattle.rtcp_members.specs.Traces.{TraceStep, fact_came, check_made, block_made_of, source_forgotten, is_naming, names}
use Rattle.rtcp_members.specs.Stays.{ends_stay, present_among, stay_with, stay_of, OutlastsChecks, NeverForgotten, IsStay}

none_is_no_stay : {X : Type 0} (stay : X) → None ≡ Some stay → ⊥
none_is_no_stay stay e = absurd cc

-- ---- Checks in a stay

-- A check that ends no stay removes no source.
outlasts_step : (ssrc : ℕ) (step : TraceStep) (stay : List TraceStep) → ends_stay ssrc step stay ≡ false →
    OutlastsChecks ssrc stay → OutlastsChecks ssrc (step ∷ stay)
outlasts_step ssrc step stay stays before [] horizons older is =
    let same : step ≡ check_made horizons = cc in
    let rest : stay ≡ older = cc in
    (λ i. ends_stay ssrc (sym same i) (sym rest i)) ∙ stays
outlasts_step ssrc step stay stays before (x ∷ newer) horizons older is = let rest : stay ≡ newer ++ check_made
    horizons ∷ older = cc in before newer horizons older rest

outlasts_later : (ssrc : ℕ) (step : TraceStep) (stay : List TraceStep) → OutlastsChecks ssrc (step ∷ stay) →
    OutlastsChecks ssrc stay
outlasts_later ssrc step stay all newer horizons older is = all (step ∷ newer) horizons older
    (ap (λ (t : List TraceStep). step ∷ t) is)

-- The host forgets no source by a step that ends no stay.
kept_step : (ssrc : ℕ) (step : TraceStep) (stay : List TraceStep) → ends_stay ssrc step stay ≡ false →
    NeverForgotten ssrc stay → NeverForgotten ssrc (step ∷ stay)
kept_step ssrc step stay stays before [] other older is =
    let same : step ≡ source_forgotten other = cc in
    let rest : stay ≡ older = cc in
    (λ i. ends_stay ssrc (sym same i) (sym rest i)) ∙ stays
kept_step ssrc step stay stays before (x ∷ newer) other older is =
    let rest : stay ≡ newer ++ source_forgotten other ∷ older = cc in before newer other older rest

kept_later : (ssrc : ℕ) (step : TraceStep) (stay : List TraceStep) → NeverForgotten ssrc (step ∷ stay) →
    NeverForgotten ssrc stay
kept_later ssrc step stay all newer other older is = all (step ∷ newer) other older
    (ap (λ (t : List TraceStep). step ∷ t) is)

stays_on : (ssrc : ℕ) (step : TraceStep) (stay : List TraceStep) → OutlastsChecks ssrc (step ∷ stay) →
    NeverForgotten ssrc (step ∷ stay) → ends_stay ssrc step stay ≡ false
stays_on ssrc (fact_came fact moment) stay all kept = refl
stays_on ssrc (check_made horizons) stay all kept = all [] horizons stay refl
stays_on ssrc (block_made_of other) stay all kept = refl
stays_on ssrc (source_forgotten other) stay all kept = kept [] other stay refl

-- ---- A stay is a prefix of the trace

outlasts_naming : (ssrc : ℕ) (step : TraceStep) → is_naming ssrc step ≡ true → OutlastsChecks ssrc (step ∷ [])
outlasts_naming ssrc step naming [] horizons older is =
    let same : step ≡ check_made horizons = cc in absurd (true≢false (sym naming ∙ ap (is_naming ssrc) same))
outlasts_naming ssrc step naming (x ∷ []) horizons older is = absurd cc
outlasts_naming ssrc step naming (x ∷ y ∷ newer) horizons older is = absurd cc

kept_naming : (ssrc : ℕ) (step : TraceStep) → is_naming ssrc step ≡ true → NeverForgotten ssrc (step ∷ [])
kept_naming ssrc step naming [] other older is =
    let same : step ≡ source_forgotten other = cc in absurd (true≢false (sym naming ∙ ap (is_naming ssrc) same))
kept_naming ssrc step naming (x ∷ []) other older is = absurd cc
kept_naming ssrc step naming (x ∷ y ∷ newer) other older is = absurd cc

module _ (capacity : ℕ) (step : TraceStep) (earlier : List TraceStep) (ssrc : ℕ) where
  admitted_now : stay_of capacity earlier ssrc ≡ None → (stay : List TraceStep) →
      stay_with capacity step (names earlier) (stay_of capacity earlier) ssrc None ≡ Some stay →
      IsStay capacity (step ∷ earlier) ssrc stay
  admitted_now absent stay =
      let present = present_among (names earlier) (stay_of capacity earlier) in
      elim (is_naming ssrc step) as (λ naming. is_naming ssrc step ≡ naming →
      elim naming [ false ↦ None | true ↦ if nat_lt present capacity then Some (step ∷ []) else None ]
      ≡ Some stay → IsStay capacity (step ∷ earlier) ssrc stay) [
        | false ↦ λ naming none. absurd (none_is_no_stay stay none)
        | true ↦ λ naming. elim (nat_lt present capacity) as (λ room. nat_lt present capacity ≡ room →
            (if room then Some (step ∷ []) else None) ≡ Some stay → IsStay capacity (step ∷ earlier) ssrc stay) [
              | false ↦ λ room none. absurd (none_is_no_stay stay none)
              | true ↦ λ room is.
                  let whole : stay ≡ step ∷ [] = cc in
                  record {
                    since = [];
                    admission = step;
                    before = earlier;
                    parts = refl;
                    whole = whole;
                    named = naming;
                    absent = absent;
                    room = ltb-true present capacity room;
                    outlasts = subst (OutlastsChecks ssrc) (sym whole) (outlasts_naming ssrc step naming);
                    kept = subst (NeverForgotten ssrc) (sym whole) (kept_naming ssrc step naming);
                  }
            ] refl
      ] refl

  stays_now : (kept : List TraceStep) → IsStay capacity earlier ssrc kept → (stay : List TraceStep) →
      stay_with capacity step (names earlier) (stay_of capacity earlier) ssrc (Some kept) ≡ Some stay →
      IsStay capacity (step ∷ earlier) ssrc stay
  stays_now kept before stay =
      elim (ends_stay ssrc step kept) as (λ ends. ends_stay ssrc step kept ≡ ends →
      (if ends then None else Some (step ∷ kept)) ≡ Some stay → IsStay capacity (step ∷ earlier) ssrc stay) [
        | true ↦ λ ends none. absurd (none_is_no_stay stay none)
        | false ↦ λ ends is.
            let whole : stay ≡ step ∷ kept = cc in
            record {
              since = step ∷ before.since;
              admission = before.admission;
              before = before.before;
              parts = ap (λ (t : List TraceStep). step ∷ t) before.parts;
              whole = whole ∙ ap (λ (t : List TraceStep). step ∷ t) before.whole;
              named = before.named;
              absent = before.absent;
              room = before.room;
              outlasts = subst (OutlastsChecks ssrc) (sym whole) (outlasts_step ssrc step kept ends before.outlasts);
              kept = subst (NeverForgotten ssrc) (sym whole) (kept_step ssrc step kept ends before.kept);
            }
      ] refl

  by_stay : (known : Option (List TraceStep)) → stay_of capacity earlier ssrc ≡ known →
      ((kept : List TraceStep) → stay_of capacity earlier ssrc ≡ Some kept → IsStay capacity earlier ssrc kept)
      → (stay : List TraceStep) → stay_with capacity step (names earlier) (stay_of capacity earlier) ssrc known
      ≡ Some stay → IsStay capacity (step ∷ earlier) ssrc stay
  by_stay None is before stay found = admitted_now is stay found
  by_stay (Some kept) is before stay found = stays_now kept (before kept is) stay found

pub stay_is_prefix : (capacity : ℕ) (trace : List TraceStep) (ssrc : ℕ) (stay : List TraceStep) →
    stay_of capacity trace ssrc ≡ Some stay → IsStay capacity trace ssrc stay
stay_is_prefix capacity [] ssrc stay found = absurd (none_is_no_stay stay found)
stay_is_prefix capacity (step ∷ earlier) ssrc stay found =
    by_stay capacity step earlier ssrc (stay_of capacity earlier ssrc) refl (stay_is_prefix capacity earlier ssrc) stay
    found

-- ---- Each such prefix is the stay

module _ (capacity ssrc : ℕ) (admission : TraceStep) (before : List TraceStep) (named : is_naming ssrc admission ≡ true)
    (absent : stay_of capacity before ssrc ≡ None)
    (room : present_among (names before) (stay_of capacity before) < capacity) where
  begins : stay_of capacity (admission ∷ before) ssrc ≡ Some (admission ∷ [])
  begins =
      let present = present_among (names before) (stay_of capacity before) in
      let has_room : nat_lt present capacity ≡ true = grind (arith, nat_tests, room) in
      ap (stay_with capacity admission (names before) (stay_of capacity before) ssrc) absent
      ∙ (λ i. elim (named i) [ false ↦ None | true ↦ if has_room i then Some (admission ∷ []) else None ])

  prefix_is_it : (since : List TraceStep) → OutlastsChecks ssrc (since ++ admission ∷ []) →
      NeverForgotten ssrc (since ++ admission ∷ []) →
      stay_of capacity (since ++ admission ∷ before) ssrc ≡ Some (since ++ admission ∷ [])
  prefix_is_it [] all never = begins
  prefix_is_it (step ∷ since) all never =
      let earlier = since ++ admission ∷ before in
      let kept = since ++ admission ∷ [] in
      ap (stay_with capacity step (names earlier) (stay_of capacity earlier) ssrc)
      (prefix_is_it since (outlasts_later ssrc step kept all) (kept_later ssrc step kept never))
      ∙ ap (λ ends. if ends then None else Some (step ∷ kept)) (stays_on ssrc step kept all never)

pub prefix_is_stay : (capacity : ℕ) (trace : List TraceStep) (ssrc : ℕ) (stay : List TraceStep) →
    IsStay capacity trace ssrc stay → stay_of capacity trace ssrc ≡ Some stay
prefix_is_stay capacity trace ssrc stay is =
    ap (λ t. stay_of capacity t ssrc) is.parts
    ∙ prefix_is_it capacity ssrc is.admission is.before is.named is.absent is.room is.since
    (subst (OutlastsChecks ssrc) is.whole is.outlasts) (subst (NeverForgotten ssrc) is.whole is.kept)
    ∙ ap Some (sym is.whole)
