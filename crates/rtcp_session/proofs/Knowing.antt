-- Who gave its CNAME stays a member: as long as there is room for it, it is heard, and it sends no BYE.
use Rattle.std.proofs.Common.{◌≡◌, ℕ, ◌&&◌, ◌||◌, ◌==◌, nat_lt, Bool, true, false, List, [], ◌∷◌, All, Option, Some, None, is_some, is_none, option_map, if◌then◌else◌, refl, sym, ap, ◌∙◌, subst}
use Rattle.std.proofs.lemmas.Bool.{and_from, and_right, cond_both}
use Rattle.std.proofs.lemmas.List.Elements.{All-nil, All-cons, All-head, All-tail}
use Rattle.rtcp_wire.specs.declared.fact.Fact.{Fact}
use Rattle.rtcp_wire.specs.declared.fact.Fact.TheVariants.{Heard, Told, Named, Gone, Media}
use Rattle.rtcp_wire.specs.Facts.{subject, is_media}
use Rattle.rtcp_source.specs.Packets.{Given, is_counted_in, run_of}
use Rattle.rtcp_members.specs.Traces.{TraceStep, fact_came, check_made, block_made_of, is_naming, names, source_forgotten}
use Rattle.rtcp_members.specs.Stays.{mark_of, before_mark, present_among, stay_of, stay_with, ends_stay}
use Rattle.rtcp_members.specs.Lasting.{says_bye}
use Rattle.rtcp_members.specs.Entries.{gives_name, given_of, is_counted_fact, is_counted_by, sending_of, still_sending, is_sender, is_valid, entry_of, entry_at, is_member, is_such}
use Rattle.rtcp_members.proofs.Lasting.{all_before, still_valid, unmarked_by}
use Rattle.rtcp_members.proofs.StepByStep.{sending_after_fact, valid_after}
use Rattle.rtcp_session.specs.Deliveries.{brings_rtp, is_named_in, pasts_of, has_room, ends_by, is_dropped, IsKept}

-- ---- Steps

naming : (ssrc : ℕ) (step : TraceStep) → gives_name ssrc step ≡ true → is_naming ssrc step ≡ true
naming ssrc (fact_came (Heard other) moment) is = absurd cc
naming ssrc (fact_came (Told other ntp rtp) moment) is = absurd cc
naming ssrc (fact_came (Named other) moment) is = is
naming ssrc (fact_came (Gone other) moment) is = absurd cc
naming ssrc (fact_came (Media other seq timestamp octets rate) moment) is = absurd cc
naming ssrc (check_made horizons) is = absurd cc
naming ssrc (block_made_of other) is = absurd cc
naming ssrc (source_forgotten other) is = absurd cc

-- ---- Members

-- a stay of one that is a member
pub record IsThere (ssrc : ℕ) (stay : List TraceStep) : Type 0 where
  pub unmarked : mark_of ssrc stay ≡ None
  pub valid : is_valid ssrc stay ≡ true

abbrev HasStay : (ssrc : ℕ) → Option (List TraceStep) → Type 0
HasStay ssrc None = ⊥
HasStay ssrc (Some stay) = IsThere ssrc stay

-- Where a source is present at all, it has no mark.
abbrev IsUnmarked : (ssrc : ℕ) → Option (List TraceStep) → Type 0
IsUnmarked ssrc None = Unit {0}
IsUnmarked ssrc (Some stay) = mark_of ssrc stay ≡ None

-- What a step makes of a stay, where a check may end it, and where one that is named is admitted.
abbrev stay_by : (ssrc : ℕ) → TraceStep → (admits : Bool) → Option (List TraceStep) → Option (List TraceStep)
stay_by ssrc step admits None =
    elim (is_naming ssrc step) [
      | false ↦ None
      | true ↦ if admits then Some (step ∷ []) else None
    ]
stay_by ssrc step admits (Some stay) = if ends_stay ssrc step stay then None else Some (step ∷ stay)

stays_unmarked : (ssrc : ℕ) (step : TraceStep) (admits : Bool) (stay : Option (List TraceStep)) →
    says_bye ssrc step ≡ false → IsUnmarked ssrc stay → IsUnmarked ssrc (stay_by ssrc step admits stay)
stays_unmarked ssrc step admits None quiet none = by (is_naming ssrc step) admits
  where
    by : (named admits : Bool) → IsUnmarked ssrc
        (elim named [ false ↦ None | true ↦ if admits then Some (step ∷ []) else None ])
    by false admits = tt
    by true true = unmarked_by ssrc step [] quiet refl
    by true false = tt
stays_unmarked ssrc step admits (Some stay) quiet none = by (ends_stay ssrc step stay)
  where
    by : (ends : Bool) → IsUnmarked ssrc (if ends then None else Some (step ∷ stay))
    by true = tt
    by false = unmarked_by ssrc step stay quiet none

valid_now : (ssrc : ℕ) (step : TraceStep) (stay : List TraceStep) → gives_name ssrc step ≡ true →
    is_valid ssrc (step ∷ stay) ≡ true
valid_now ssrc step stay gives =
    valid_after ssrc stay step
    ∙ by (gives_name ssrc step) (is_counted_by ssrc step (given_of ssrc stay)) (is_valid ssrc stay) gives
  where
    by : (a b c : Bool) → a ≡ true → (a || b || c) ≡ true
    by true b c is = refl
    by false b c is = absurd cc

-- The step that gives the CNAME.
named_now : (ssrc : ℕ) (step : TraceStep) (stay : Option (List TraceStep)) (admits : Bool) →
    gives_name ssrc step ≡ true → (is_some stay || admits) ≡ true → ends_by ssrc step stay ≡ false →
    says_bye ssrc step ≡ false → IsUnmarked ssrc stay → HasStay ssrc (stay_by ssrc step admits stay)
named_now ssrc step None admits gives room lasts quiet none =
    subst (λ (b : Bool). HasStay ssrc (elim b [ false ↦ None | true ↦ if admits then Some (step ∷ []) else None ]))
    (sym (naming ssrc step gives))
    (subst (λ (b : Bool). HasStay ssrc (if b then Some (step ∷ []) else None)) (sym room)
    (record { unmarked = unmarked_by ssrc step [] quiet refl; valid = valid_now ssrc step [] gives }))
named_now ssrc step (Some stay) admits gives room lasts quiet none =
    subst (λ (b : Bool). HasStay ssrc (if b then None else Some (step ∷ stay))) (sym lasts)
    (record { unmarked = unmarked_by ssrc step stay quiet none; valid = valid_now ssrc step stay gives })

-- A later one.
still_there : (ssrc : ℕ) (step : TraceStep) (stay : Option (List TraceStep)) (admits : Bool) →
    ends_by ssrc step stay ≡ false → says_bye ssrc step ≡ false → HasStay ssrc stay →
    HasStay ssrc (stay_by ssrc step admits stay)
still_there ssrc step None admits lasts quiet is = absurd is
still_there ssrc step (Some stay) admits lasts quiet is =
    subst (λ (b : Bool). HasStay ssrc (if b then None else Some (step ∷ stay))) (sym lasts)
    (record {
      unmarked = unmarked_by ssrc step stay quiet is.unmarked;
      valid = still_valid ssrc step stay is.valid;
    })

stay_is : (capacity ssrc : ℕ) (step : TraceStep) (earlier : List TraceStep) →
    stay_of capacity (step ∷ earlier) ssrc ≡ stay_by ssrc step
    (nat_lt (present_among (names earlier) (stay_of capacity earlier)) capacity) (stay_of capacity earlier ssrc)
stay_is capacity ssrc step earlier =
    by (names earlier) (stay_of capacity earlier) (stay_of capacity earlier ssrc)
  where
    by : (named : List ℕ) (others : ℕ → Option (List TraceStep)) (stay : Option (List TraceStep)) →
        stay_with capacity step named others ssrc stay
        ≡ stay_by ssrc step (nat_lt (present_among named others) capacity) stay
    by named others None = refl
    by named others (Some stay) = refl

abbrev Stays : (ssrc : ℕ) → TraceStep → Type 0
Stays ssrc step = says_bye ssrc step ≡ false

all_unmarked : (capacity ssrc : ℕ) (trace : List TraceStep) → All (Stays ssrc) trace →
    IsUnmarked ssrc (stay_of capacity trace ssrc)
all_unmarked capacity ssrc [] stays = tt
all_unmarked capacity ssrc (step ∷ earlier) stays =
    subst (IsUnmarked ssrc) (sym (stay_is capacity ssrc step earlier))
    (stays_unmarked ssrc step (nat_lt (present_among (names earlier) (stay_of capacity earlier)) capacity)
    (stay_of capacity earlier ssrc) (All-head (Stays ssrc) step earlier stays)
    (all_unmarked capacity ssrc earlier (All-tail (Stays ssrc) step earlier stays)))

-- ---- Traces

newest_past : (P : List TraceStep → Type 0) (trace : List TraceStep) → All P (pasts_of trace) → P trace
newest_past P [] h = All-head P [] [] h
newest_past P (step ∷ earlier) h = All-head P (step ∷ earlier) (pasts_of earlier) h

abbrev HasRoom : (capacity ssrc : ℕ) → List TraceStep → Type 0
HasRoom capacity ssrc past = has_room capacity ssrc past ≡ true

abbrev IsHeard : (capacity ssrc : ℕ) → List TraceStep → Type 0
IsHeard capacity ssrc past = is_dropped capacity ssrc past ≡ false

kept_before : (capacity ssrc : ℕ) (step : TraceStep) (earlier : List TraceStep) →
    IsKept capacity ssrc (step ∷ earlier) → IsKept capacity ssrc earlier
kept_before capacity ssrc step earlier kept = record {
  room = All-tail (HasRoom capacity ssrc) (step ∷ earlier) (pasts_of earlier) kept.room;
  never_silent = All-tail (IsHeard capacity ssrc) (step ∷ earlier) (pasts_of earlier) kept.never_silent;
  no_bye = All-tail (Stays ssrc) step earlier kept.no_bye;
}

named_are_there : (capacity ssrc : ℕ) (trace : List TraceStep) → is_named_in ssrc trace ≡ true →
    IsKept capacity ssrc trace → HasStay ssrc (stay_of capacity trace ssrc)
named_are_there capacity ssrc [] named kept = absurd cc
named_are_there capacity ssrc (step ∷ earlier) named kept =
    let before = kept_before capacity ssrc step earlier kept in
    let admits : Bool = nat_lt (present_among (names earlier) (stay_of capacity earlier)) capacity in
    let lasts : ends_by ssrc step (stay_of capacity earlier ssrc) ≡ false =
    newest_past (IsHeard capacity ssrc) (step ∷ earlier) kept.never_silent in
    let quiet = All-head (Stays ssrc) step earlier kept.no_bye in
    let room : (is_some (stay_of capacity earlier ssrc) || admits) ≡ true =
    newest_past (HasRoom capacity ssrc) earlier before.room in
    subst (HasStay ssrc) (sym (stay_is capacity ssrc step earlier))
    (by (gives_name ssrc step) refl admits lasts quiet room (all_unmarked capacity ssrc earlier before.no_bye) named
    (λ earlier_named. named_are_there capacity ssrc earlier earlier_named before))
  where
    by : (gives : Bool) → gives_name ssrc step ≡ gives → (admits : Bool) →
        ends_by ssrc step (stay_of capacity earlier ssrc) ≡ false → says_bye ssrc step ≡ false →
        (is_some (stay_of capacity earlier ssrc) || admits) ≡ true → IsUnmarked ssrc (stay_of capacity earlier ssrc) →
        (gives || is_named_in ssrc earlier) ≡ true →
        (is_named_in ssrc earlier ≡ true → HasStay ssrc (stay_of capacity earlier ssrc)) →
        HasStay ssrc (stay_by ssrc step admits (stay_of capacity earlier ssrc))
    by true is admits lasts quiet room unmarked named before =
        named_now ssrc step (stay_of capacity earlier ssrc) admits is room lasts quiet unmarked
    by false is admits lasts quiet room unmarked named before =
        still_there ssrc step (stay_of capacity earlier ssrc) admits lasts quiet (before named)

-- ---- Entries

pub named_are_members : (capacity ssrc : ℕ) (trace : List TraceStep) → is_named_in ssrc trace ≡ true →
    IsKept capacity ssrc trace → is_such is_member (entry_at capacity trace ssrc) ≡ true
named_are_members capacity ssrc trace named kept =
    by (stay_of capacity trace ssrc) (named_are_there capacity ssrc trace named kept)
  where
    by : (stay : Option (List TraceStep)) → HasStay ssrc stay →
        is_such is_member (option_map (entry_of ssrc) stay) ≡ true
    by None is = absurd is
    by (Some stay) is =
        let valid : is_valid ssrc (before_mark ssrc stay) ≡ true =
        ap (is_valid ssrc) (all_before ssrc stay is.unmarked) ∙ is.valid in
        and_from (is_valid ssrc (before_mark ssrc stay)) (is_none (mark_of ssrc stay)) valid
        (ap (λ (mark : Option ℕ). is_none mark) is.unmarked)

-- ---- Those who send no RTP

abbrev IsQuiet : (ssrc : ℕ) → TraceStep → Type 0
IsQuiet ssrc step = brings_rtp ssrc step ≡ false

abbrev IsQuietStay : (ssrc : ℕ) → Option (List TraceStep) → Type 0
IsQuietStay ssrc None = Unit {0}
IsQuietStay ssrc (Some stay) = All (IsQuiet ssrc) stay

quiet_by : (ssrc : ℕ) (step : TraceStep) (admits : Bool) (stay : Option (List TraceStep)) → IsQuiet ssrc step →
    IsQuietStay ssrc stay → IsQuietStay ssrc (stay_by ssrc step admits stay)
quiet_by ssrc step admits None one rest = by (is_naming ssrc step) admits
  where
    by : (named admits : Bool) → IsQuietStay ssrc
        (elim named [ false ↦ None | true ↦ if admits then Some (step ∷ []) else None ])
    by false admits = tt
    by true true = All-cons (IsQuiet ssrc) step [] one (All-nil (IsQuiet ssrc))
    by true false = tt
quiet_by ssrc step admits (Some stay) one rest = by (ends_stay ssrc step stay)
  where
    by : (ends : Bool) → IsQuietStay ssrc (if ends then None else Some (step ∷ stay))
    by true = tt
    by false = All-cons (IsQuiet ssrc) step stay one rest

quiet_stay : (capacity ssrc : ℕ) (trace : List TraceStep) → All (IsQuiet ssrc) trace →
    IsQuietStay ssrc (stay_of capacity trace ssrc)
quiet_stay capacity ssrc [] h = tt
quiet_stay capacity ssrc (step ∷ earlier) h =
    subst (IsQuietStay ssrc) (sym (stay_is capacity ssrc step earlier))
    (quiet_by ssrc step (nat_lt (present_among (names earlier) (stay_of capacity earlier)) capacity)
    (stay_of capacity earlier ssrc) (All-head (IsQuiet ssrc) step earlier h)
    (quiet_stay capacity ssrc earlier (All-tail (IsQuiet ssrc) step earlier h)))

quiet_before : (ssrc : ℕ) (stay : List TraceStep) → All (IsQuiet ssrc) stay → All (IsQuiet ssrc) (before_mark ssrc stay)
quiet_before ssrc [] h = h
quiet_before ssrc (step ∷ earlier) h =
    cond_both (is_some (mark_of ssrc (step ∷ earlier))) (before_mark ssrc earlier) (step ∷ earlier) (All (IsQuiet ssrc))
    (λ marked. quiet_before ssrc earlier (All-tail (IsQuiet ssrc) step earlier h)) (λ unmarked. h)

uncounted : (ssrc : ℕ) (fact : Fact) (given : List Given) → (is_media fact && (subject fact == ssrc)) ≡ false →
    is_counted_fact ssrc fact given ≡ false
uncounted ssrc (Heard other) given quiet = refl
uncounted ssrc (Told other ntp rtp) given quiet = refl
uncounted ssrc (Named other) given quiet = refl
uncounted ssrc (Gone other) given quiet = refl
uncounted ssrc (Media other seq timestamp octets rate) given quiet =
    ap (λ (b : Bool). b && is_counted_in (run_of given) seq) quiet

sends_none : (ssrc : ℕ) (own : List TraceStep) → All (IsQuiet ssrc) own → sending_of ssrc own ≡ None
sends_none ssrc [] h = refl
sends_none ssrc (fact_came fact moment ∷ earlier) h =
    let rest = sends_none ssrc earlier (All-tail (IsQuiet ssrc) (fact_came fact moment) earlier h) in
    sending_after_fact ssrc moment fact earlier
    ∙ ap (λ (b : Bool). if b then Some moment else sending_of ssrc earlier)
    (uncounted ssrc fact (given_of ssrc earlier) (All-head (IsQuiet ssrc) (fact_came fact moment) earlier h))
    ∙ rest
sends_none ssrc (check_made horizons ∷ earlier) h =
    ap (still_sending horizons) (sends_none ssrc earlier (All-tail (IsQuiet ssrc) (check_made horizons) earlier h))
sends_none ssrc (block_made_of other ∷ earlier) h =
    sends_none ssrc earlier (All-tail (IsQuiet ssrc) (block_made_of other) earlier h)
sends_none ssrc (source_forgotten other ∷ earlier) h =
    sends_none ssrc earlier (All-tail (IsQuiet ssrc) (source_forgotten other) earlier h)

pub silent_are_no_senders : (capacity ssrc : ℕ) (trace : List TraceStep) →
    All (λ step. brings_rtp ssrc step ≡ false) trace →
    is_such is_sender (entry_at capacity trace ssrc) ≡ false
silent_are_no_senders capacity ssrc trace h =
    by (stay_of capacity trace ssrc) (quiet_stay capacity ssrc trace h)
  where
    by : (stay : Option (List TraceStep)) → IsQuietStay ssrc stay →
        is_such is_sender (option_map (entry_of ssrc) stay) ≡ false
    by None quiet = refl
    by (Some stay) quiet =
        and_right (is_member (entry_of ssrc stay)) (is_some (sending_of ssrc (before_mark ssrc stay)))
        (ap (λ (sending : Option ℕ). is_some sending)
        (sends_none ssrc (before_mark ssrc stay) (quiet_before ssrc stay quiet)))
