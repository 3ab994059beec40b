-- Who was heard lately enough stays, and a member stays one.
use Rattle.std.proofs.Common.{◌≡◌, ℕ, ◌≤◌, ◌&&◌, ◌||◌, nat_lt, Bool, true, false, List, [], ◌∷◌, ◌++◌, All, Option, Some, None, is_some, is_none, option_map, if◌then◌else◌, refl, sym, ap, ◌∙◌, arith, subst}
use Rattle.std.proofs.lemmas.Bool.{and_parts}
use Rattle.std.proofs.lemmas.Bool.Decides.{nat_tests}
use Rattle.std.proofs.lemmas.List.Elements.{All-head, All-tail}
use Rattle.rtcp_members.specs.Traces.{Horizons, TraceStep, fact_came, check_made, block_made_of, source_forgotten, is_naming, names}
use Rattle.rtcp_members.specs.Stays.{mark_at, mark_of, before_mark, step_moment, last_naming, last_sighting, is_removed, ends_stay, stay_with, stay_of}
use Rattle.rtcp_members.specs.Lasting.{says_bye, is_forgetting, IsLeftAlone, IsHeardAtChecks, LooksBackTo, NamesFrom}
use Rattle.rtcp_members.specs.Entries.{gives_name, is_counted_by, given_of, is_valid, entry_of, entry_at, is_member, is_such}
use Rattle.rtcp_members.proofs.StepByStep.{mark_after, valid_after}
use Rattle.rtcp_members.proofs.stays.StayLaws.{stay_is_prefix}

-- ---- One step

-- how far back a step asks for a sighting
abbrev pub silent_before : TraceStep → ℕ
silent_before (check_made horizons) = horizons.silent
silent_before step = 0

-- A step that ends no stay of a source which was named last at this moment.
pub record Spares (ssrc naming : ℕ) (step : TraceStep) : Type 0 where
  pub quiet : says_bye ssrc step ≡ false
  pub kept : is_forgetting ssrc step ≡ false
  pub heard : silent_before step ≤ naming

pub all_before : (ssrc : ℕ) (stay : List TraceStep) → mark_of ssrc stay ≡ None → before_mark ssrc stay ≡ stay
all_before ssrc [] none = refl
all_before ssrc (step ∷ earlier) none =
    ap (λ (mark : Option ℕ). if is_some mark then before_mark ssrc earlier else step ∷ earlier) none

sighted_last : (ssrc : ℕ) (stay : List TraceStep) → mark_of ssrc stay ≡ None →
    last_sighting ssrc stay ≡ last_naming ssrc stay
sighted_last ssrc stay none = ap (last_naming ssrc) (all_before ssrc stay none)

not_silent : (sighting : ℕ) (horizons : Horizons) → horizons.silent ≤ sighting →
    is_removed horizons sighting None ≡ false
not_silent sighting horizons heard =
    let late : nat_lt sighting horizons.silent ≡ false = grind (arith, nat_tests, heard) in
    ap (λ (b : Bool). b || false) late

spared : (ssrc : ℕ) (step : TraceStep) (stay : List TraceStep) → mark_of ssrc stay ≡ None →
    Spares ssrc (last_naming ssrc stay) step → ends_stay ssrc step stay ≡ false
spared ssrc (fact_came fact moment) stay none spares = refl
spared ssrc (check_made horizons) stay none spares =
    (λ i. is_removed horizons (sighted_last ssrc stay none i) (none i))
    ∙ not_silent (last_naming ssrc stay) horizons spares.heard
spared ssrc (block_made_of other) stay none spares = refl
spared ssrc (source_forgotten other) stay none spares =
    ap (λ (b : Bool). b && is_none (mark_of ssrc stay)) spares.kept

pub unmarked_by : (ssrc : ℕ) (step : TraceStep) (stay : List TraceStep) → says_bye ssrc step ≡ false →
    mark_of ssrc stay ≡ None → mark_of ssrc (step ∷ stay) ≡ None
unmarked_by ssrc (fact_came fact moment) stay quiet none =
    mark_after ssrc (fact_came fact moment) stay
    ∙ ap (mark_at ssrc (fact_came fact moment)) none ∙ ap (λ (b : Bool). if b then Some moment else None) quiet
unmarked_by ssrc step stay quiet none = none

-- ---- The newest naming of a trace is that of the stay

same_naming : (ssrc : ℕ) (since : List TraceStep) (admission : TraceStep) (before : List TraceStep) →
    is_naming ssrc admission ≡ true →
    last_naming ssrc (since ++ admission ∷ before) ≡ last_naming ssrc (since ++ admission ∷ [])
same_naming ssrc [] admission before named =
    ap (λ (b : Bool). if b then step_moment admission else last_naming ssrc before) named
    ∙ sym (ap (λ (b : Bool). if b then step_moment admission else 0) named)
same_naming ssrc (step ∷ since) admission before named =
    ap (λ (n : ℕ). if is_naming ssrc step then step_moment step else n) (same_naming ssrc since admission before named)

pub naming_of_stay : (capacity ssrc : ℕ) (trace stay : List TraceStep) → stay_of capacity trace ssrc ≡ Some stay →
    last_naming ssrc trace ≡ last_naming ssrc stay
naming_of_stay capacity ssrc trace stay found =
    let is = stay_is_prefix capacity trace ssrc stay found in
    ap (last_naming ssrc) is.parts ∙ same_naming ssrc is.since is.admission is.before is.named
    ∙ sym (ap (last_naming ssrc) is.whole)

-- ---- Stays

-- a source is present without a mark, with this stay
pub record IsUnmarkedStay (capacity ssrc : ℕ) (trace stay : List TraceStep) : Type 0 where
  pub found : stay_of capacity trace ssrc ≡ Some stay
  pub unmarked : mark_of ssrc stay ≡ None

pub stays_on : (capacity ssrc : ℕ) (step : TraceStep) (trace stay : List TraceStep) →
    IsUnmarkedStay capacity ssrc trace stay → Spares ssrc (last_naming ssrc trace) step →
    IsUnmarkedStay capacity ssrc (step ∷ trace) (step ∷ stay)
stays_on capacity ssrc step trace stay is spares =
    let known = naming_of_stay capacity ssrc trace stay is.found in
    let lasts = spared ssrc step stay is.unmarked (subst (λ (n : ℕ). Spares ssrc n step) known spares) in
    record {
      found =
          ap (stay_with capacity step (names trace) (stay_of capacity trace) ssrc) is.found
          ∙ ap (λ (ends : Bool). if ends then None else Some (step ∷ stay)) lasts;
      unmarked = unmarked_by ssrc step stay spares.quiet is.unmarked;
    }

left_alone_before : (ssrc : ℕ) (step : TraceStep) (since : List TraceStep) → IsLeftAlone ssrc (step ∷ since) →
    IsLeftAlone ssrc since
left_alone_before ssrc step since alone = record {
  no_bye = All-tail (λ (step : TraceStep). says_bye ssrc step ≡ false) step since alone.no_bye;
  kept = All-tail (λ (step : TraceStep). is_forgetting ssrc step ≡ false) step since alone.kept;
}

heard_before : (ssrc : ℕ) (step : TraceStep) (since before : List TraceStep) →
    IsHeardAtChecks ssrc (step ∷ since) before → IsHeardAtChecks ssrc since before
heard_before ssrc step since before heard newer horizons older is =
    heard (step ∷ newer) horizons older (ap (λ (t : List TraceStep). step ∷ t) is)

heard_now : (ssrc : ℕ) (step : TraceStep) (since before : List TraceStep) →
    IsHeardAtChecks ssrc (step ∷ since) before → silent_before step ≤ last_naming ssrc (since ++ before)
heard_now ssrc (check_made horizons) since before heard = heard [] horizons since refl
heard_now ssrc step since before heard = omega arith

spares_now : (ssrc : ℕ) (step : TraceStep) (since before : List TraceStep) → IsLeftAlone ssrc (step ∷ since) →
    IsHeardAtChecks ssrc (step ∷ since) before → Spares ssrc (last_naming ssrc (since ++ before)) step
spares_now ssrc step since before alone heard = record {
  quiet = All-head (λ (step : TraceStep). says_bye ssrc step ≡ false) step since alone.no_bye;
  kept = All-head (λ (step : TraceStep). is_forgetting ssrc step ≡ false) step since alone.kept;
  heard = heard_now ssrc step since before heard;
}

lasts : (capacity ssrc : ℕ) (since before stay : List TraceStep) → IsUnmarkedStay capacity ssrc before stay →
    IsLeftAlone ssrc since → IsHeardAtChecks ssrc since before →
    IsUnmarkedStay capacity ssrc (since ++ before) (since ++ stay)
lasts capacity ssrc [] before stay is alone heard = is
lasts capacity ssrc (step ∷ since) before stay is alone heard =
    stays_on capacity ssrc step (since ++ before) (since ++ stay)
    (lasts capacity ssrc since before stay is (left_alone_before ssrc step since alone)
    (heard_before ssrc step since before heard)) (spares_now ssrc step since before alone heard)

pub heard_stays : (capacity ssrc : ℕ) (since before stay : List TraceStep) →
    stay_of capacity before ssrc ≡ Some stay → mark_of ssrc stay ≡ None → IsLeftAlone ssrc since →
    IsHeardAtChecks ssrc since before → stay_of capacity (since ++ before) ssrc ≡ Some (since ++ stay)
heard_stays capacity ssrc since before stay found unmarked alone heard =
    (lasts capacity ssrc since before stay (record { found = found; unmarked = unmarked }) alone heard).found

-- ---- Moments that do not fall

named_from : (ssrc moment : ℕ) (since before : List TraceStep) → All (NamesFrom ssrc moment) since →
    moment ≤ last_naming ssrc before → moment ≤ last_naming ssrc (since ++ before)
named_from ssrc moment [] before from least = least
named_from ssrc moment (step ∷ since) before from least =
    by (is_naming ssrc step) (All-head (NamesFrom ssrc moment) step since from)
    (named_from ssrc moment since before (All-tail (NamesFrom ssrc moment) step since from) least)
  where
    by : (naming : Bool) → (naming ≡ true → moment ≤ step_moment step) → moment ≤ last_naming ssrc (since ++ before) →
        moment ≤ (if naming then step_moment step else last_naming ssrc (since ++ before))
    by true now rest = now refl
    by false now rest = rest

heard_from : (ssrc moment : ℕ) (since before : List TraceStep) → All (LooksBackTo moment) since →
    All (NamesFrom ssrc moment) since → moment ≤ last_naming ssrc before → IsHeardAtChecks ssrc since before
heard_from ssrc moment [] before back from least [] horizons older is = absurd cc
heard_from ssrc moment [] before back from least (x ∷ newer) horizons older is = absurd cc
heard_from ssrc moment (step ∷ since) before back from least [] horizons older is =
    let same : step ≡ check_made horizons = cc in
    let rest : since ≡ older = cc in
    let far : horizons.silent ≤ moment =
    subst (LooksBackTo moment) same (All-head (LooksBackTo moment) step since back) in
    let near : moment ≤ last_naming ssrc (since ++ before) =
    named_from ssrc moment since before (All-tail (NamesFrom ssrc moment) step since from) least in
    subst (λ (older : List TraceStep). horizons.silent ≤ last_naming ssrc (older ++ before)) rest
    (omega (arith, far, near))
heard_from ssrc moment (step ∷ since) before back from least (x ∷ newer) horizons older is =
    let rest : since ≡ newer ++ check_made horizons ∷ older = cc in
    heard_from ssrc moment since before (All-tail (LooksBackTo moment) step since back)
    (All-tail (NamesFrom ssrc moment) step since from) least newer horizons older rest

pub lately_stays : (capacity ssrc : ℕ) (since before stay : List TraceStep) →
    stay_of capacity before ssrc ≡ Some stay → mark_of ssrc stay ≡ None → IsLeftAlone ssrc since →
    All (LooksBackTo (last_sighting ssrc stay)) since → All (NamesFrom ssrc (last_sighting ssrc stay)) since →
    stay_of capacity (since ++ before) ssrc ≡ Some (since ++ stay)
lately_stays capacity ssrc since before stay found unmarked alone back from =
    let same : last_naming ssrc before ≡ last_sighting ssrc stay =
    naming_of_stay capacity ssrc before stay found ∙ sym (sighted_last ssrc stay unmarked) in
    heard_stays capacity ssrc since before stay found unmarked alone
    (heard_from ssrc (last_sighting ssrc stay) since before back from (omega (arith, same)))

-- ---- Members

-- a member, by the stay that it has
pub record IsMemberBy (capacity ssrc : ℕ) (trace stay : List TraceStep) : Type 0 where
  pub is : IsUnmarkedStay capacity ssrc trace stay
  pub valid : is_valid ssrc stay ≡ true

pub stay_of_member : (capacity ssrc : ℕ) (trace : List TraceStep) →
    is_such is_member (entry_at capacity trace ssrc) ≡ true →
    (stay : List TraceStep) × IsMemberBy capacity ssrc trace stay
stay_of_member capacity ssrc trace = by (stay_of capacity trace ssrc) refl
  where
    by : (stay : Option (List TraceStep)) → stay_of capacity trace ssrc ≡ stay →
        is_such is_member (option_map (entry_of ssrc) stay) ≡ true →
        (stay : List TraceStep) × IsMemberBy capacity ssrc trace stay
    by None found member = absurd cc
    by (Some stay) found member =
        let parts = and_parts (is_valid ssrc (before_mark ssrc stay)) (is_none (mark_of ssrc stay)) member in
        let unmarked : mark_of ssrc stay ≡ None = none (mark_of ssrc stay) parts.1 in (
          stay,
          record {
            is = record { found = found; unmarked = unmarked };
            valid = ap (is_valid ssrc) (sym (all_before ssrc stay unmarked)) ∙ parts.0;
          },
        )
      where
        none : (mark : Option ℕ) → is_none mark ≡ true → mark ≡ None
        none None is = refl
        none (Some mark) is = absurd cc

pub member_by_stay : (capacity ssrc : ℕ) (trace stay : List TraceStep) → IsMemberBy capacity ssrc trace stay →
    is_such is_member (entry_at capacity trace ssrc) ≡ true
member_by_stay capacity ssrc trace stay member =
    ap (λ (stay : Option (List TraceStep)). is_such is_member (option_map (entry_of ssrc) stay)) member.is.found
    ∙ (λ i. is_valid ssrc (all_before ssrc stay member.is.unmarked i) && is_none (member.is.unmarked i))
    ∙ ap (λ (b : Bool). b && true) member.valid

pub still_valid : (ssrc : ℕ) (step : TraceStep) (stay : List TraceStep) → is_valid ssrc stay ≡ true →
    is_valid ssrc (step ∷ stay) ≡ true
still_valid ssrc step stay valid =
    valid_after ssrc stay step ∙ by (gives_name ssrc step) (is_counted_by ssrc step (given_of ssrc stay))
    (is_valid ssrc stay) valid
  where
    by : (a b c : Bool) → c ≡ true → (a || b || c) ≡ true
    by true b c is = refl
    by false true c is = refl
    by false false c is = is

all_valid : (ssrc : ℕ) (since stay : List TraceStep) → is_valid ssrc stay ≡ true →
    is_valid ssrc (since ++ stay) ≡ true
all_valid ssrc [] stay valid = valid
all_valid ssrc (step ∷ since) stay valid = still_valid ssrc step (since ++ stay) (all_valid ssrc since stay valid)

-- One step more.
pub member_on : (capacity ssrc : ℕ) (step : TraceStep) (trace : List TraceStep) →
    is_such is_member (entry_at capacity trace ssrc) ≡ true → Spares ssrc (last_naming ssrc trace) step →
    is_such is_member (entry_at capacity (step ∷ trace) ssrc) ≡ true
member_on capacity ssrc step trace member spares =
    let (stay, is) = stay_of_member capacity ssrc trace member in
    member_by_stay capacity ssrc (step ∷ trace) (step ∷ stay) (record {
      is = stays_on capacity ssrc step trace stay is.is spares;
      valid = still_valid ssrc step stay is.valid;
    })

pub member_stays : (capacity ssrc : ℕ) (since before : List TraceStep) →
    is_such is_member (entry_at capacity before ssrc) ≡ true → IsLeftAlone ssrc since →
    IsHeardAtChecks ssrc since before → is_such is_member (entry_at capacity (since ++ before) ssrc) ≡ true
member_stays capacity ssrc since before member alone heard =
    let (stay, is) = stay_of_member capacity ssrc before member in
    member_by_stay capacity ssrc (since ++ before) (since ++ stay) (record {
      is = lasts capacity ssrc since before stay is.is alone heard;
      valid = all_valid ssrc since stay is.valid;
    })
