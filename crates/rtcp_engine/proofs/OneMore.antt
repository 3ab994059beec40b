-- One event more of a run.
use Rattle.std.proofs.Common.{◌≡◌, ℕ, zero, suc, ◌+◌, ◌<◌, List, [], ◌∷◌, ◌++◌, length, map, take, true, false, Result, Ok, Err, refl, ap, ◌∙◌, arith}
use Rattle.std.specs.Result.{is_err, OnErr, OnOk}
use Rattle.std.proofs.Math.ListN.{get_or}
use Rattle.std.proofs.lemmas.List.{length-map, take_more}
use Rattle.rtcp_engine.specs.declared.event.Event.{Event}
use Rattle.rtcp_engine.specs.declared.event.Event.TheVariants.{ArriveRtcp, ArriveRtp, SentRtp, Tick, Leave, Configure, Forget}
use Rattle.rtcp_engine.specs.answers.Acts.{Act, act_of, ticked, AnswerValue, act_told}
use Rattle.rtcp_engine.specs.answers.Histories.{History}
use Rattle.rtcp_engine.specs.answers.Answers.{answer_of, answers_to, followed_by, followed_by_all}
use Rattle.rtcp_engine.specs.state.Views.{event_value}

pub answers_more : (h : History) (acts : List Act) (act : Act) →
    answers_to h (acts ++ act ∷ []) ≡ answers_to h acts ++ answer_of (followed_by_all h acts) act ∷ []
answers_more h [] act = refl
answers_more h (first ∷ acts) act = ap (λ (others : List AnswerValue). answer_of h first ∷ others)
    (answers_more (followed_by h first) acts act)

pub followed_more : (h : History) (acts : List Act) (act : Act) → followed_by_all h (acts ++ act ∷ []) ≡ followed_by
    (followed_by_all h acts) act
followed_more h [] act = refl
followed_more h (first ∷ acts) act = followed_more (followed_by h first) acts act

act_of_place : (events : List Event) (place : ℕ) (event : Event) (act : Act) → place < length events →
    get_or (map act_told events) place act ≡ act_told (get_or events place event)
act_of_place [] place d e within = absurd (omega (arith, within))
act_of_place (event ∷ events) zero d e within = refl
act_of_place (event ∷ events) (suc place) d e within = act_of_place events place d e (omega (arith, within))

-- What an event tells is its act.
act_of_told : (event : Event) → act_told event ≡ act_of (event_value event)
act_of_told (ArriveRtcp now peer word bytes) = refl
act_of_told (ArriveRtp now peer word bytes) = refl
act_of_told (SentRtp now timestamp octets) = refl
act_of_told (Tick now first_word second_word) = refl
act_of_told (Leave now word) = refl
act_of_told (Configure now settings) = refl
act_of_told (Forget now ssrc) = refl

pub of_no_error : {A B : Type 0} {P : Type 0} (result : Result A B) → is_err result ≡ false → OnOk result P → P
of_no_error (Ok x) none h = h
of_no_error (Err x) none h = absurd cc

pub of_error : {A B : Type 0} {P : Type 0} (result : Result A B) → is_err result ≡ true → OnErr result P → P
of_error (Ok x) some h = absurd cc
of_error (Err x) some h = h

-- the act of the event at a place, with those of the events before
pub record NextAct (events : List Event) (told place : ℕ) : Type 0 where
  pub act : Act
  pub more : take (told + 1) (map act_told events) ≡ take told (map act_told events) ++ act ∷ []
  pub is_act : (event : Event) → act ≡ act_of (event_value (get_or events place event))

pub next_act : (events : List Event) (told place : ℕ) → told ≡ place → place < length events →
    NextAct events told place
next_act events told place same within =
    let none : Act = ticked 0 0 0 in
    let acts : List Act = map act_told events in
    record {
      act = get_or acts place none;
      more = take_more acts told none (omega (arith, within, same, length-map events act_told))
          ∙ ap (λ (n : ℕ). take told acts ++ get_or acts n none ∷ []) same;
      is_act = λ event. act_of_place events place event none within ∙ act_of_told (get_or events place event);
    }
