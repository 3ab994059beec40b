-- Senders in other words: the newest counted packet of a stay, and the checks since.
use Rattle.std.proofs.Common.{◌≡◌, ℕ, ◌≤◌, Bool, true, false, true≢false, if◌then◌else◌, ◌&&◌, nat_lt, is_some, List, [], ◌∷◌, ◌++◌, Option, Some, None, option_map, refl, sym, ap, subst, ◌∙◌, arith}
use Rattle.std.proofs.lemmas.Bool.{ltb-false, and_parts, or_left, or_right}
use Rattle.std.proofs.lemmas.Bool.Decides.{nat_tests}
use Rattle.rtcp_wire.specs.declared.fact.Fact.{Fact}
use Rattle.rtcp_members.specs.Traces.{Horizons, TraceStep, fact_came, check_made, block_made_of, source_forgotten}
use Rattle.rtcp_members.specs.Stays.{mark_of, before_mark, stay_of}
use Rattle.rtcp_members.specs.Entries.{given_of, is_counted_fact, is_counted_by, gives_name, is_valid, still_sending, sending_of, entry_of, entry_at, is_sender, is_such, IsSendingSince, IsSenderAt}
use Rattle.rtcp_members.proofs.StepByStep.{sending_after_fact, valid_after}
use Rattle.rtcp_members.proofs.stays.Staying.{entry_with, entry_unmarked}

none_is_no_moment : {X : Type 0} (x : X) → None ≡ Some x → ⊥
none_is_no_moment x e = absurd cc

-- ---- From the newest counted packet

module _ (ssrc : ℕ) where
  -- another step since it, which is no counted packet and no check with a later horizon
  abbrev IsQuiet : TraceStep → List TraceStep → (moment : ℕ) → Type 0
  IsQuiet (fact_came fact at) earlier moment = is_counted_fact ssrc fact (given_of ssrc earlier) ≡ false
  IsQuiet (check_made horizons) earlier moment = horizons.idle ≤ moment
  IsQuiet (block_made_of other) earlier moment = Unit {0}
  IsQuiet (source_forgotten other) earlier moment = Unit {0}

  newest_later : (moment : ℕ) (step : TraceStep) (since : List TraceStep) (packet : Fact) (before : List TraceStep) →
      IsQuiet step (since ++ fact_came packet moment ∷ before) moment
      → ((newer : List TraceStep) (other : Fact) (at : ℕ) (older : List TraceStep) →
      since ≡ newer ++ fact_came other at ∷ older →
      is_counted_fact ssrc other (given_of ssrc (older ++ fact_came packet moment ∷ before)) ≡ false)
      → (newer : List TraceStep) (other : Fact) (at : ℕ) (older : List TraceStep) →
      step ∷ since ≡ newer ++ fact_came other at ∷ older →
      is_counted_fact ssrc other (given_of ssrc (older ++ fact_came packet moment ∷ before)) ≡ false
  newest_later moment step since packet before quiet all [] other at older is =
      let same : step ≡ fact_came other at = cc in
      let rest : since ≡ older = cc in
      subst (λ t. is_counted_fact ssrc other (given_of ssrc (t ++ fact_came packet moment ∷ before)) ≡ false) rest
      (subst (λ s. IsQuiet s (since ++ fact_came packet moment ∷ before) moment) same quiet)
  newest_later moment step since packet before quiet all (x ∷ newer) other at older is =
      let rest : since ≡ newer ++ fact_came other at ∷ older = cc in all newer other at older rest

  recent_later : (moment : ℕ) (step : TraceStep) (since earlier : List TraceStep) → IsQuiet step earlier moment
      → ((newer : List TraceStep) (horizons : Horizons) (older : List TraceStep) →
      since ≡ newer ++ check_made horizons ∷ older → horizons.idle ≤ moment)
      → (newer : List TraceStep) (horizons : Horizons) (older : List TraceStep) →
      step ∷ since ≡ newer ++ check_made horizons ∷ older → horizons.idle ≤ moment
  recent_later moment step since earlier quiet all [] horizons older is =
      let same : step ≡ check_made horizons = cc in subst (λ s. IsQuiet s earlier moment) same quiet
  recent_later moment step since earlier quiet all (x ∷ newer) horizons older is =
      let rest : since ≡ newer ++ check_made horizons ∷ older = cc in all newer horizons older rest

  one_step_later : (step : TraceStep) (earlier : List TraceStep) (moment : ℕ) →
      IsSendingSince ssrc earlier moment → IsQuiet step earlier moment →
      IsSendingSince ssrc (step ∷ earlier) moment
  one_step_later step earlier moment before quiet =
      let still : IsQuiet step (before.since ++ fact_came before.packet moment ∷ before.before) moment =
      subst (λ t. IsQuiet step t moment) before.parts quiet in
      record {
        since = step ∷ before.since;
        packet = before.packet;
        before = before.before;
        parts = ap (λ (t : List TraceStep). step ∷ t) before.parts;
        counted = before.counted;
        newest = newest_later moment step before.since before.packet before.before still before.newest;
        recent = recent_later moment step before.since earlier quiet before.recent;
      }

  nothing_since : {X : Type 0} (x : X) (newer : List X) (older : List X) → [] ≡ newer ++ x ∷ older → ⊥
  nothing_since x [] older is = absurd cc
  nothing_since x (y ∷ newer) older is = absurd cc

  sent_now : (packet : Fact) (at moment : ℕ) (earlier : List TraceStep) →
      is_counted_fact ssrc packet (given_of ssrc earlier) ≡ true → at ≡ moment →
      IsSendingSince ssrc (fact_came packet at ∷ earlier) moment
  sent_now packet at moment earlier counted same =
      record {
        since = [];
        packet = packet;
        before = earlier;
        parts = ap (λ m. fact_came packet m ∷ earlier) same;
        counted = counted;
        newest = λ newer other at older is. absurd (nothing_since _ newer older is);
        recent = λ newer horizons older is. absurd (nothing_since _ newer older is);
      }

  -- ---- What is kept says so

  pub kept_is_newest : (own : List TraceStep) (moment : ℕ) → sending_of ssrc own ≡ Some moment →
      IsSendingSince ssrc own moment
  kept_is_newest [] moment found = absurd (none_is_no_moment moment found)
  kept_is_newest (fact_came fact at ∷ earlier) moment found =
      elim (is_counted_fact ssrc fact (given_of ssrc earlier)) as (λ counted. is_counted_fact ssrc fact
      (given_of ssrc earlier) ≡ counted → (if counted then Some at else sending_of ssrc earlier)
      ≡ Some moment → IsSendingSince ssrc (fact_came fact at ∷ earlier) moment) [
        | true ↦ λ counted is. let same : at ≡ moment = cc in sent_now fact at moment earlier counted same
        | false ↦ λ quiet is. one_step_later (fact_came fact at) earlier moment (kept_is_newest earlier moment is) quiet
      ] refl (sym (sending_after_fact ssrc at fact earlier) ∙ found)
  kept_is_newest (check_made horizons ∷ earlier) moment found =
      elim (sending_of ssrc earlier) as (λ sending. sending_of ssrc earlier ≡ sending →
      still_sending horizons sending ≡ Some moment →
      IsSendingSince ssrc (check_made horizons ∷ earlier) moment) [
        | None ↦ λ _ none. absurd (none_is_no_moment moment none)
        | Some sent ↦ λ before. elim (nat_lt sent horizons.idle) as (λ late. nat_lt sent horizons.idle ≡ late →
            (if late then None else Some sent) ≡ Some moment →
            IsSendingSince ssrc (check_made horizons ∷ earlier) moment) [
              | true ↦ λ _ none. absurd (none_is_no_moment moment none)
              | false ↦ λ recent is.
                  let same : sent ≡ moment = cc in
                  let still : horizons.idle ≤ moment = subst (λ m. horizons.idle ≤ m) same
                  (ltb-false sent horizons.idle recent) in
                  one_step_later (check_made horizons) earlier moment (kept_is_newest earlier moment (before ∙ is))
                  still
            ] refl
      ] refl found
  kept_is_newest (block_made_of other ∷ earlier) moment found = one_step_later (block_made_of other) earlier moment
      (kept_is_newest earlier moment found) tt
  kept_is_newest (source_forgotten other ∷ earlier) moment found = one_step_later (source_forgotten other) earlier
      moment (kept_is_newest earlier moment found) tt

  -- ---- And the newest is kept

  still_kept : (step : TraceStep) (earlier : List TraceStep) (moment : ℕ) → IsQuiet step earlier moment →
      sending_of ssrc earlier ≡ Some moment → sending_of ssrc (step ∷ earlier) ≡ Some moment
  still_kept (fact_came fact at) earlier moment quiet kept =
      sending_after_fact ssrc at fact earlier
      ∙ ap (λ counted. if counted then Some at else sending_of ssrc earlier) quiet ∙ kept
  still_kept (check_made horizons) earlier moment quiet kept =
      let recent : nat_lt moment horizons.idle ≡ false = grind (arith, nat_tests, quiet) in
      ap (still_sending horizons) kept ∙ ap (λ late. if late then None else Some moment) recent
  still_kept (block_made_of other) earlier moment quiet kept = kept
  still_kept (source_forgotten other) earlier moment quiet kept = kept

  quiet_first : (moment : ℕ) (packet : Fact) (before : List TraceStep) (step : TraceStep) (since : List TraceStep)
      → ((newer : List TraceStep) (other : Fact) (at : ℕ) (older : List TraceStep) →
      step ∷ since ≡ newer ++ fact_came other at ∷ older →
      is_counted_fact ssrc other (given_of ssrc (older ++ fact_came packet moment ∷ before)) ≡ false)
      → ((newer : List TraceStep) (horizons : Horizons) (older : List TraceStep) →
      step ∷ since ≡ newer ++ check_made horizons ∷ older → horizons.idle ≤ moment)
      → IsQuiet step (since ++ fact_came packet moment ∷ before) moment
  quiet_first moment packet before (fact_came fact at) since newest recent = newest [] fact at since refl
  quiet_first moment packet before (check_made horizons) since newest recent = recent [] horizons since refl
  quiet_first moment packet before (block_made_of other) since newest recent = tt
  quiet_first moment packet before (source_forgotten other) since newest recent = tt

  kept_since : (moment : ℕ) (packet : Fact) (before : List TraceStep) →
      is_counted_fact ssrc packet (given_of ssrc before) ≡ true → (since : List TraceStep)
      → ((newer : List TraceStep) (other : Fact) (at : ℕ) (older : List TraceStep) →
      since ≡ newer ++ fact_came other at ∷ older →
      is_counted_fact ssrc other (given_of ssrc (older ++ fact_came packet moment ∷ before)) ≡ false)
      → ((newer : List TraceStep) (horizons : Horizons) (older : List TraceStep) →
      since ≡ newer ++ check_made horizons ∷ older → horizons.idle ≤ moment)
      → sending_of ssrc (since ++ fact_came packet moment ∷ before) ≡ Some moment
  kept_since moment packet before counted [] newest recent =
      sending_after_fact ssrc moment packet before ∙ ap (λ b. if b then Some moment else sending_of ssrc before) counted
  kept_since moment packet before counted (step ∷ since) newest recent =
      let later = kept_since moment packet before counted since
      (λ newer other at older is. newest (step ∷ newer) other at older (ap (λ (t : List TraceStep). step ∷ t) is))
      (λ newer horizons older is. recent (step ∷ newer) horizons older (ap (λ (t : List TraceStep). step ∷ t) is)) in
      still_kept step (since ++ fact_came packet moment ∷ before) moment
      (quiet_first moment packet before step since newest recent) later

  pub newest_is_kept : (own : List TraceStep) (moment : ℕ) → IsSendingSince ssrc own moment →
      sending_of ssrc own ≡ Some moment
  newest_is_kept own moment is = ap (sending_of ssrc) is.parts ∙ kept_since moment is.packet is.before is.counted
      is.since is.newest is.recent

  -- ---- Who sends is valid

  counted_is_valid : (step : TraceStep) (earlier : List TraceStep) →
      is_counted_by ssrc step (given_of ssrc earlier) ≡ true → is_valid ssrc (step ∷ earlier) ≡ true
  counted_is_valid step earlier counted = valid_after ssrc earlier step
      ∙ or_left _ _ (or_right (gives_name ssrc step) _ counted)

  valid_since : (since : List TraceStep) (own : List TraceStep) → is_valid ssrc own ≡ true →
      is_valid ssrc (since ++ own) ≡ true
  valid_since [] own valid = valid
  valid_since (step ∷ since) own valid =
      valid_after ssrc (since ++ own) step ∙ or_right _ _ (valid_since since own valid)

  pub sending_is_valid : (own : List TraceStep) (moment : ℕ) → IsSendingSince ssrc own moment →
      is_valid ssrc own ≡ true
  sending_is_valid own moment is =
      ap (is_valid ssrc) is.parts ∙ valid_since is.since (fact_came is.packet moment ∷ is.before)
      (counted_is_valid (fact_came is.packet moment) is.before is.counted)

-- ---- Senders

module _ (capacity : ℕ) (trace : List TraceStep) (ssrc : ℕ) where
  sender_by : (stay : List TraceStep) → stay_of capacity trace ssrc ≡ Some stay → mark_of ssrc stay ≡ None →
      (sending : Option ℕ) → sending_of ssrc stay ≡ sending → (is_valid ssrc stay && true && is_some sending)
      ≡ true → IsSenderAt capacity trace ssrc
  sender_by stay present unmarked None sending sends =
      absurd (true≢false (sym (and_parts (is_valid ssrc stay && true) false sends).1))
  sender_by stay present unmarked (Some moment) sending sends =
      record {
        stay = stay;
        present = present;
        unmarked = unmarked;
        moment = moment;
        sending = kept_is_newest ssrc stay moment sending;
      }

  marked_is_none : (valid sends : Bool) → (valid && false && sends) ≡ true → ⊥
  marked_is_none true true h = absurd cc
  marked_is_none valid sends h = absurd cc

  sender_stays : (stay : Option (List TraceStep)) → stay_of capacity trace ssrc ≡ stay →
      is_such is_sender (option_map (entry_of ssrc) stay) ≡ true → IsSenderAt capacity trace ssrc
  sender_stays None present sends = absurd cc
  sender_stays (Some stay) present sends =
      elim (mark_of ssrc stay) as (λ m. mark_of ssrc stay ≡ m → IsSenderAt capacity trace ssrc) [
        | None ↦ λ unmarked. sender_by stay present unmarked (sending_of ssrc stay) refl
            (ap is_sender (sym (entry_unmarked ssrc stay unmarked)) ∙ sends)
        | Some mark ↦ λ marked. absurd
            (marked_is_none (is_valid ssrc (before_mark ssrc stay))
            (is_some (sending_of ssrc (before_mark ssrc stay)))
            (ap (λ m. is_sender (entry_with ssrc (before_mark ssrc stay) m)) (sym marked) ∙ sends))
      ] refl

  pub sender_sends : is_such is_sender (entry_at capacity trace ssrc) ≡ true → IsSenderAt capacity trace ssrc
  sender_sends sends = sender_stays (stay_of capacity trace ssrc) refl sends

  pub who_sends_is_sender : IsSenderAt capacity trace ssrc → is_such is_sender (entry_at capacity trace ssrc)
      ≡ true
  who_sends_is_sender is =
      ap (λ o. is_such is_sender (option_map (entry_of ssrc) o)) is.present
      ∙ ap is_sender (entry_unmarked ssrc is.stay is.unmarked)
      ∙ (λ i. sending_is_valid ssrc is.stay is.moment is.sending i && true && is_some
      (newest_is_kept ssrc is.stay is.moment is.sending i))
