-- The new sources among a datagram's names, each once, and the verdict by them.
use Rattle.std.proofs.Common.{◌≡◌, ◌≤◌, ◌+◌, ◌==◌, ◌||◌, ◌++◌, ◌<◌, ℕ, true, false, cond, List, [], ◌∷◌, length, Some, None, arith, refl, sym, ap, subst, ◌∙◌}
use Rattle.std.proofs.lemmas.Bool.{eqb-true}
use Rattle.std.proofs.lemmas.List.{append-nil, length_push}
use Rattle.rtcp_guard.specs.Claims.{Claim, AreOwn, owner_in, is_named, is_of_another}
use Rattle.rtcp_guard.specs.Guarding.{judged}
use Rattle.rtcp_guard.specs.declared.verdict.Verdict.TheVariants.{Pass, Stranger, Crowd}
use Rattle.rtcp_guard.specs.Tables.{AreRising, IsSpare}
use Rattle.rtcp_guard.proofs.Counting.{IsCounted, counted_none, counted_all, counted_as, counted_own, counted_again, counted_new, judged_strange, judged_crowd, judged_pass, named_more}

-- These are the new sources of the names that were seen, each once.
pub record AreNew (origin : ℕ) (claims : List Claim) (seen fresh : List ℕ) : Type 0 where
  pub counted : (moment : ℕ) → IsCounted origin moment claims seen (length fresh)
  pub same : (n : ℕ) → owner_in n claims ≡ None → is_named n fresh ≡ is_named n seen

none_named : (origin : ℕ) (claims : List Claim) (own : List ℕ) → AreOwn origin own claims → (n : ℕ) →
    owner_in n claims ≡ None → is_named n own ≡ false
none_named origin claims own its n none = elim (is_named n own) as (λ b. is_named n own ≡ b → b ≡ false) [
  | true ↦ λ e. let is = its n e in absurd cc
  | false ↦ λ e. refl
] refl

-- The origin's own sources are not new.
pub new_first : (origin : ℕ) (claims : List Claim) (own : List ℕ) → AreRising claims → AreOwn origin own claims →
    AreNew origin claims (own ++ []) []
new_first origin claims own rising its = subst (λ seen. AreNew origin claims seen []) (sym (append-nil own)) (record {
  counted = λ moment. counted_all origin moment claims [] own rising its (counted_none origin moment claims);
  same = λ n none. sym (none_named origin claims own its n none);
})

module _ (origin : ℕ) (claims : List Claim) (seen fresh : List ℕ) (n : ℕ) (rising : AreRising claims)
    (so : AreNew origin claims seen fresh) where
  -- another name is that of no new source
  other_named : (m : ℕ) → (owner_in m claims ≡ None → n == m ≡ true → is_named m seen ≡ true) →
      owner_in m claims ≡ None → is_named m fresh ≡ is_named m (seen ++ n ∷ [])
  other_named m known none =
      so.same m none ∙ elim (is_named m seen) as (λ b. is_named m seen ≡ b → b ≡ (b || (n == m || false))) [
        | true ↦ λ e. refl
        | false ↦ λ e. elim (n == m) as (λ b. n == m ≡ b → false ≡ (b || false)) [
          | true ↦ λ is. let it = known none is in absurd cc
          | false ↦ λ is. refl
        ] refl
      ] refl ∙ sym (named_more m n seen)

  pub new_own : owner_in n claims ≡ Some origin → AreNew origin claims (seen ++ n ∷ []) fresh
  new_own own = record {
    counted = λ moment. counted_own origin moment claims seen (length fresh) n rising (so.counted moment) own;
    same = λ m none. other_named m (λ missing is. let same = eqb-true n m is in absurd cc) none;
  }

  pub new_again : owner_in n claims ≡ None → is_named n fresh ≡ true → AreNew origin claims (seen ++ n ∷ []) fresh
  new_again none named = record {
    counted = λ moment. counted_again origin moment claims seen (length fresh) n rising (so.counted moment) none
        (sym (so.same n none) ∙ named);
    same = λ m missing. other_named m (λ it is. ap (λ k. is_named k seen) (sym (eqb-true n m is))
        ∙ sym (so.same n none) ∙ named) missing;
  }

  pub new_more : owner_in n claims ≡ None → is_named n fresh ≡ false →
      AreNew origin claims (seen ++ n ∷ []) (fresh ++ n ∷ [])
  new_more none apart = record {
    counted = λ moment. counted_as origin moment claims (seen ++ n ∷ []) (seen ++ n ∷ []) (length fresh + 1)
        (length (fresh ++ n ∷ [])) refl (length_push fresh n)
        (counted_new origin moment claims seen (length fresh) n rising (so.counted moment) none
        (sym (so.same n none) ∙ apart));
    same = λ m missing. named_more m n fresh ∙ ap (λ b. b || (n == m || false)) (so.same m missing)
        ∙ sym (named_more m n seen);
  }

  -- however it is put among those, unless it is there
  pub new_put : (more : List ℕ) → owner_in n claims ≡ None →
      ((m : ℕ) → is_named m more ≡ is_named m (fresh ++ n ∷ [])) →
      length more ≡ length fresh + cond (is_named n fresh) 0 1 → AreNew origin claims (seen ++ n ∷ []) more
  new_put more none alike once = record {
    counted = λ moment. elim (is_named n fresh) as (λ b. is_named n fresh ≡ b →
        length more ≡ length fresh + cond b 0 1 → IsCounted origin moment claims (seen ++ n ∷ []) (length more)) [
          | true ↦ λ e long. counted_as origin moment claims (seen ++ n ∷ []) (seen ++ n ∷ []) (length fresh)
              (length more)
              refl (omega (arith, long)) ((new_again none e).counted moment)
          | false ↦ λ e long. counted_as origin moment claims (seen ++ n ∷ []) (seen ++ n ∷ [])
              (length (fresh ++ n ∷ []))
              (length more) refl (omega (arith, long, length_push fresh n)) ((new_more none e).counted moment)
        ] refl once;
    same = λ m missing. alike m ∙ named_more m n fresh ∙ ap (λ b. b || (n == m || false)) (so.same m missing)
        ∙ sym (named_more m n seen);
  }

-- ---- The verdict

module _ (limit room origin moment : ℕ) (claims : List Claim) (seen fresh : List ℕ) (spare : ℕ)
    (rising : AreRising claims) (room_left : IsSpare limit room origin claims spare)
    (so : AreNew origin claims seen fresh) where
  pub then_strange : length fresh ≤ spare → (n : ℕ) (rest : List ℕ) → is_of_another origin (owner_in n claims) ≡ true →
      Stranger ≡ judged limit room origin moment (seen ++ n ∷ rest) claims
  then_strange fits n rest strange = judged_strange limit room origin moment claims seen (length fresh) rest
      (so.counted moment) n (omega (arith, fits, room_left.least, room_left.few))
      (omega (arith, fits, room_left.least, room_left.within)) strange

  pub then_crowd : (rest : List ℕ) → spare < length fresh →
      Crowd ≡ judged limit room origin moment (seen ++ rest) claims
  then_crowd rest over = judged_crowd limit room origin moment claims seen (length fresh) rest (so.counted moment)
      rising
      (λ few. omega (arith, few, over, room_left.least, room_left.few, room_left.within))

  pub then_pass : length fresh ≤ spare → Pass ≡ judged limit room origin moment seen claims
  then_pass fits = judged_pass limit room origin moment claims seen (length fresh) (so.counted moment)
      (omega (arith, fits, room_left.least, room_left.few)) (omega (arith, fits, room_left.least, room_left.within))
