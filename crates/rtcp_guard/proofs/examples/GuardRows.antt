-- Rows of histories, the newest step first, and what is said of them. Each computes.
use Rattle.std.proofs.Common.{◌≡◌, List, [], ◌∷◌, Some, None, refl}
use Rattle.rtcp_guard.specs.declared.settings.Settings.{Settings}
use Rattle.rtcp_guard.specs.declared.verdict.Verdict.TheVariants.{Pass, Stranger, Crowd}
use Rattle.rtcp_guard.specs.Guarding.{GuardStep, datagram_came, check_made, source_expected, origin_trusted, verdict_on}
use Rattle.rtcp_guard.specs.Claims.{goodbyes_of}
use Rattle.rtcp_guard.specs.Histories.{claim_of, guard_after, owner_of, passed_about, passed_goodbyes}
use Rattle.rtcp_guard.specs.Naming.{goodbye_of_compound}
use Rattle.rtcp_wire.specs.Values.{rr, bye}

-- two sources an origin, three a trusted one, and eight in all; a hold of ten
abbrev pub small : Settings
small = record { sources = 4; names = 2; trusted_names = 3; hold = 10 }

-- who named it first has it, and a datagram from elsewhere is a stranger's
abbrev pub named_by_one : List GuardStep
named_by_one = datagram_came 1 0 (7 ∷ []) None ∷ []

first_has_it : owner_of small 7 named_by_one ≡ Some 1
first_has_it = refl

other_is_stranger : verdict_on 2 5 (7 ∷ []) None (guard_after small named_by_one) ≡ Stranger
other_is_stranger = refl

still_its : owner_of small 7 (datagram_came 2 5 (7 ∷ []) None ∷ named_by_one) ≡ Some 1
still_its = refl

-- a name that is given twice counts once
two_names : verdict_on 2 6 (8 ∷ 9 ∷ 8 ∷ []) None (guard_after small named_by_one) ≡ Pass
two_names = refl

three_names : verdict_on 2 6 (8 ∷ 9 ∷ 10 ∷ []) None (guard_after small named_by_one) ≡ Crowd
three_names = refl

-- the names before the first stranger say which reason is told
crowd_before_stranger : verdict_on 2 6 (8 ∷ 9 ∷ 10 ∷ 7 ∷ []) None (guard_after small named_by_one) ≡ Crowd
crowd_before_stranger = refl

stranger_before_crowd : verdict_on 2 6 (8 ∷ 7 ∷ 9 ∷ 10 ∷ []) None (guard_after small named_by_one) ≡ Stranger
stranger_before_crowd = refl

-- what is held back leaves none of its names
crowd_claims_none : owner_of small 8 (datagram_came 2 6 (8 ∷ 9 ∷ 10 ∷ []) None ∷ named_by_one) ≡ None
crowd_claims_none = refl

-- a claim is kept for the hold, and as long as the table keeps a silent source
kept_for_the_hold : owner_of small 7 (check_made 10 10 ∷ named_by_one) ≡ Some 1
kept_for_the_hold = refl

lapses_after : owner_of small 7 (check_made 11 11 ∷ named_by_one) ≡ None
lapses_after = refl

kept_while_present : owner_of small 7 (check_made 100 0 ∷ named_by_one) ≡ Some 1
kept_while_present = refl

-- a datagram of its origin renews a claim
renewed : owner_of small 7 (check_made 11 11 ∷ datagram_came 1 1 (7 ∷ []) None ∷ named_by_one) ≡ Some 1
renewed = refl

-- signalling moves a claim, and makes one before the first datagram
moved : owner_of small 7 (source_expected 7 2 5 ∷ named_by_one) ≡ Some 2
moved = refl

expected : verdict_on 2 1 (5 ∷ []) None (guard_after small (source_expected 5 1 0 ∷ [])) ≡ Stranger
expected = refl

-- a trusted origin has a limit of its own
trusted : verdict_on 1 1 (7 ∷ 8 ∷ 9 ∷ []) None (guard_after small (origin_trusted 1 ∷ named_by_one)) ≡ Pass
trusted = refl

-- what was held back is counted by reason
held : (guard_after small (datagram_came 3 7 (8 ∷ 9 ∷ 10 ∷ []) None ∷ datagram_came 2 5
    (7 ∷ []) None ∷ named_by_one)).held_back
    ≡ record { strangers = 1; crowds = 1; last_stranger = Some 2; last_crowd = Some 3 }
held = refl

-- all that is passed on of a source
of_seven : passed_about small 7 (datagram_came 1 6 (7 ∷ []) None ∷ datagram_came 2 5 (7 ∷ []) None ∷ []) named_by_one
    ≡ datagram_came 1 6 (7 ∷ []) None ∷ []
of_seven = refl

-- ---- Goodbyes

-- a source that says BYE, and comes back, and says BYE again
abbrev pub left_twice : List GuardStep
left_twice =
    datagram_came 1 9 (7 ∷ []) (Some 7) ∷ datagram_came 1 6 (7 ∷ []) None ∷ datagram_came 1 1 (7 ∷ []) (Some 7)
    ∷ named_by_one

said_twice : goodbyes_of 1 (guard_after small left_twice).claims ≡ 2
said_twice = refl

-- a third BYE is held back, of another source too
third_is_held_back : verdict_on 1 10 (7 ∷ []) (Some 7) (guard_after small left_twice) ≡ Crowd
third_is_held_back = refl

third_of_another : verdict_on 1 10 (8 ∷ []) (Some 8) (guard_after small left_twice) ≡ Crowd
third_of_another = refl

-- and changes nothing, while what says no BYE passes
nothing_changes : claim_of small 7 (datagram_came 1 10 (7 ∷ []) (Some 7) ∷ left_twice) ≡ claim_of small 7 left_twice
nothing_changes = refl

comes_back : verdict_on 1 10 (7 ∷ []) None (guard_after small left_twice) ≡ Pass
comes_back = refl

-- another origin has goodbyes of its own
another_leaves : verdict_on 2 10 (8 ∷ []) (Some 8) (guard_after small left_twice) ≡ Pass
another_leaves = refl

-- The stranger is told first.
stranger_leaves : verdict_on 2 10 (7 ∷ []) (Some 7) (guard_after small left_twice) ≡ Stranger
stranger_leaves = refl

-- A BYE of no source that is named is none.
unnamed_leaves : goodbyes_of 1 (guard_after small (datagram_came 1 1 (8 ∷ []) (Some 7) ∷ named_by_one)).claims ≡ 0
unnamed_leaves = refl

-- goodbyes end with their claim
lapsed : goodbyes_of 1 (guard_after small (check_made 20 20 ∷ left_twice)).claims ≡ 0
lapsed = refl

kept : goodbyes_of 1 (guard_after small (check_made 19 19 ∷ left_twice)).claims ≡ 2
kept = refl

-- and where the source goes to another origin, but not where the host expects it where it is
gone_to_another : goodbyes_of 2 (guard_after small (source_expected 7 2 10 ∷ left_twice)).claims ≡ 0
gone_to_another = refl

none_stays : goodbyes_of 1 (guard_after small (source_expected 7 2 10 ∷ left_twice)).claims ≡ 0
none_stays = refl

expected_again : goodbyes_of 1 (guard_after small (source_expected 7 1 10 ∷ left_twice)).claims ≡ 2
expected_again = refl

-- A claim keeps its goodbyes as its origin names the source again.
goodbyes_stay : claim_of small 7 (datagram_came 1 10 (7 ∷ []) None ∷ left_twice)
    ≡ Some (record { ssrc = 7; origin = 1; last = 10; goodbyes = 2 })
goodbyes_stay = refl

-- how many are passed on
two_passed : passed_goodbyes small 1 (datagram_came 1 10 (7 ∷ []) (Some 7) ∷ left_twice) [] ≡ 2
two_passed = refl

-- the source of which a compound says BYE first, but the participant's own
first_that_leaves : goodbye_of_compound 170 (rr 1 [] [] ∷ bye (170 ∷ 2 ∷ 3 ∷ []) None ∷ []) ≡ Some 2
first_that_leaves = refl

own_alone : goodbye_of_compound 170 (rr 1 [] [] ∷ bye (170 ∷ []) None ∷ []) ≡ None
own_alone = refl
