-- Worked rows: departures by where they come from. A participant has SSRC 170 and a guard by which an origin may have
-- two sources, and a trusted one three. The hold is a minute. The source 7 is the origin 1's, and 8 the origin 2's.
use Rattle.std.proofs.Common.{◌≡◌, ℕ, ◌+◌, ◌*◌, true, false, List, [], ◌∷◌, Some, None, Ok, refl, arith}
use Rattle.rtcp_wire.specs.Values.{rr, sdes, bye}
use Rattle.rtcp_engine.specs.answers.Setups.{Setup, IsUsable}
use Rattle.rtcp_engine.specs.answers.Acts.{Act, arrived, rtcp, ticked, forgotten}
use Rattle.rtcp_engine.specs.answers.Histories.{setup_at}
use Rattle.rtcp_engine.proofs.LawLemmas.{usable_is_unrefused}
use Rattle.rtcp_guard.specs.declared.settings.Settings.{Settings}
use Rattle.rtcp_guarded.specs.Claimed.{owner_at}
use Rattle.rtcp_guarded.specs.Guarded.{GuardedAct, GuardedHistory, told, expected, trusted, passed_at}
use Rattle.rtcp_guarded_session.specs.Goodbyes.{IsStretch, LosesNone, departures_from, is_from, is_from_any, other_departures, sources_allowed}

abbrev pub setup : Setup
setup = record {
  ssrc = 170;
  cname = 97 ∷ [];
  capacity = 4;
  limit = 1472;
  settings = record {
    sender_bw = 1000;
    receiver_bw = 1000;
    rate = 8000;
    clocks = [];
    ntp_base = 0;
    extras = [];
  };
}

pub usable : IsUsable setup
usable = (usable_is_unrefused setup).1 refl

abbrev pub settings : Settings
settings = record { sources = 4; names = 2; trusted_names = 3; hold = 60000000 }

abbrev pub after : List GuardedAct → GuardedHistory
after acts = record { settings = settings; setup = setup; word = 0; acts = acts }

-- a port of an origin
abbrev pub peer : (origin : ℕ) → ℕ
peer origin = origin * 65536 + 5005

-- a report of a source comes, with its CNAME: it is a member from then on
abbrev pub named : (moment origin ssrc : ℕ) → Act
named moment origin ssrc = arrived moment (peer origin) 187
    (rtcp 20 (Ok (rr ssrc [] [] ∷ sdes (record { id = ssrc; items = record { kind = 1; text = 97 ∷ [] } ∷ [] } ∷ [])
    ∷ [])))

-- a BYE of a source comes
abbrev pub leaves : (moment origin ssrc : ℕ) → Act
leaves moment origin ssrc =
    arrived moment (peer origin) 187 (rtcp 16 (Ok (rr ssrc [] [] ∷ bye (ssrc ∷ []) None ∷ [])))

-- ---- Origins

from_its_origin : is_from 1 (leaves 200 1 7) ≡ true
from_its_origin = refl

from_another : is_from 2 (leaves 200 1 7) ≡ false
from_another = refl

from_nowhere : is_from 0 (ticked 200 0 0) ≡ false
from_nowhere = refl

from_one_of_them : is_from_any (2 ∷ 1 ∷ []) (leaves 200 1 7) ≡ true
from_one_of_them = refl

from_none_of_them : is_from_any (2 ∷ 3 ∷ []) (leaves 200 1 7) ≡ false
from_none_of_them = refl

-- ---- Departures

-- two members come, and each says BYE
abbrev pub both_leave : List GuardedAct
both_leave =
    told (leaves 300 2 8) ∷ told (leaves 200 1 7) ∷ told (named 150 2 8) ∷ told (named 100 1 7) ∷ []

of_the_first : departures_from 1 0 1000 (passed_at (after both_leave)) ≡ 1
of_the_first = refl

of_the_second : departures_from 2 0 1000 (passed_at (after both_leave)) ≡ 1
of_the_second = refl

of_none : departures_from 3 0 1000 (passed_at (after both_leave)) ≡ 0
of_none = refl

but_the_first : other_departures (1 ∷ []) 0 1000 (passed_at (after both_leave)) ≡ 1
but_the_first = refl

but_both : other_departures (1 ∷ 2 ∷ []) 0 1000 (passed_at (after both_leave)) ≡ 0
but_both = refl

but_none : other_departures [] 0 1000 (passed_at (after both_leave)) ≡ 2
but_none = refl

-- not at the first moment, but at the last one
not_at_the_first : departures_from 1 200 1000 (passed_at (after both_leave)) ≡ 0
not_at_the_first = refl

at_the_last : departures_from 1 199 200 (passed_at (after both_leave)) ≡ 1
at_the_last = refl

not_after_the_last : departures_from 1 100 199 (passed_at (after both_leave)) ≡ 0
not_after_the_last = refl

-- A BYE from another origin is held back, and nobody departs by it.
forged : departures_from 2 0 1000 (passed_at (after (told (leaves 200 2 7) ∷ told (named 100 1 7) ∷ []))) ≡ 0
forged = refl

-- One of a source that is no member is passed on, and nobody departs by it.
no_member : departures_from 1 0 1000 (passed_at (after (told (leaves 200 1 7) ∷ []))) ≡ 0
no_member = refl

-- A compound says BYE of the participant too, which takes another SSRC then, and of a member.
abbrev pub both_said : List GuardedAct
both_said =
    told (arrived 200 (peer 1) 187 (rtcp 20 (Ok (rr 7 [] [] ∷ bye (170 ∷ 7 ∷ []) None ∷ []))))
    ∷ told (named 100 1 7) ∷ []

said_of_both : departures_from 1 0 1000 (passed_at (after both_said)) ≡ 1
said_of_both = refl

other_ssrc : (setup_at (passed_at (after both_said))).ssrc ≡ 187
other_ssrc = refl

-- The host says that a member is gone, and that comes from no origin.
abbrev pub one_is_gone : List GuardedAct
one_is_gone = told (forgotten 200 7) ∷ told (named 100 1 7) ∷ []

gone_is_no_goodbye : departures_from 1 0 1000 (passed_at (after one_is_gone)) ≡ 0
gone_is_no_goodbye = refl

gone_is_another : other_departures (1 ∷ []) 0 1000 (passed_at (after one_is_gone)) ≡ 1
gone_is_another = refl

-- A member was silent for too long: 12.5 seconds before the first report.
timed_out : other_departures (1 ∷ []) 0 20000000
    (passed_at (after (told (ticked 12500101 4294967295 0) ∷ told (named 100 1 7) ∷ []))) ≡ 1
timed_out = refl

-- ---- What origins may have

two_each : sources_allowed (1 ∷ 2 ∷ []) (after both_leave) ≡ 4
two_each = refl

three_if_trusted : sources_allowed (1 ∷ 2 ∷ []) (after (trusted 2 ∷ both_leave)) ≡ 5
three_if_trusted = refl

-- ---- Stretches

-- all since the source 7 came
abbrev pub since : List GuardedAct
since = told (leaves 300 2 8) ∷ told (leaves 200 1 7) ∷ told (named 150 2 8) ∷ []

abbrev pub first : GuardedHistory
first = after (told (named 100 1 7) ∷ [])

its_origin : owner_at 7 first ≡ Some 1
its_origin = refl

is_stretch : IsStretch 100 since first
is_stretch = record {
  passed = record {
    usable = usable;
    word = omega arith;
    taken = (refl, omega arith, (refl, omega arith, (refl, omega arith, (refl, omega arith, tt))));
  };
  few = (omega arith, (omega arith, (omega arith, tt)));
  begins = omega arith;
  within = (
    λ _. record { from = omega arith; until = omega arith },
    (
      λ _. record { from = omega arith; until = omega arith },
      (λ _. record { from = omega arith; until = omega arith }, tt),
    ),
  );
}

-- The host moves the source 7 away from the origin 1, and so that loses one.
loses_none_there : LosesNone 1 (expected 7 1 200 ∷ []) first
loses_none_there = (λ same. refl, tt)

loses_one : LosesNone 1 (expected 7 2 200 ∷ []) first → ⊥
loses_one none = omega (arith, none.0 refl)
