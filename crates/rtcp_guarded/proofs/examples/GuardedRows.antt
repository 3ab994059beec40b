-- Sessions of a guarded participant, the newest act first, and what is said of them. Each computes.
use Rattle.std.proofs.Common.{arith, ◌≡◌, ◌*◌, ◌+◌, ℕ, true, false, List, [], ◌∷◌, length, Some, None, Ok, Err, refl}
use Rattle.rtcp_wire.specs.Values.{rr, bye}
use Rattle.rtcp_guard.specs.declared.settings.Settings.{Settings}
use Rattle.rtcp_engine.specs.answers.Acts.{Act, rtcp, rtp, arrived}
use Rattle.rtcp_engine.specs.answers.Setups.{Setup, IsUsable}
use Rattle.rtcp_engine.specs.state.Taken.{IsHistory}
use Rattle.rtcp_engine.proofs.LawLemmas.{usable_is_unrefused}
use Rattle.rtcp_engine.specs.declared.refusal.Refusal.TheVariants.{Backwards, OwnSsrc}
use Rattle.rtcp_guarded.specs.Claimed.{IsForward, is_present, owner_at}
use Rattle.rtcp_guarded.specs.Guarded.{GuardedAct, GuardedHistory, told, guarded_answer, passed_at}
use Rattle.rtcp_guarded.specs.declared.untaken.Reason.TheVariants.{Stranger, Crowd}
use Rattle.rtcp_guarded.specs.declared.untaken.Untaken.TheVariants.{HeldBack, Refused}

abbrev setup : Setup
setup = record {
  ssrc = 170;
  cname = 97 ∷ [];
  capacity = 4;
  limit = 1472;
  settings = record {
    sender_bw = 100;
    receiver_bw = 300;
    rate = 8000;
    clocks = [];
    ntp_base = 0;
    extras = [];
  };
}

-- up to two sources an origin, and a hold of ten
abbrev settings : Settings
settings = record { sources = 4; names = 2; trusted_names = 3; hold = 10 }

abbrev pub after : List GuardedAct → GuardedHistory
after acts = record { settings = settings; setup = setup; word = 0; acts = acts }

-- the peer at a port of an origin
abbrev pub peer : (origin port : ℕ) → ℕ
peer origin port = origin * 65536 + port

-- an RTP packet of a source comes
abbrev pub packet : (moment peer ssrc : ℕ) → Act
packet moment peer ssrc = arrived moment peer 187 (rtp (Ok (record {
  payload_type = 0;
  marker = false;
  sequence = 1;
  timestamp = 0;
  ssrc = ssrc;
  csrcs = [];
  payload = [];
})))

-- a BYE of a source comes
abbrev pub goodbye : (moment peer ssrc : ℕ) → Act
goodbye moment peer ssrc =
    arrived moment peer 187 (rtcp 16 (Ok (rr ssrc [] [] ∷ bye (ssrc ∷ []) None ∷ [])))

-- the source 7 came from the origin 1
abbrev pub one_came : GuardedHistory
one_came = after (told (packet 5 (peer 1 5004) 7) ∷ [])

its_origin : owner_at 7 one_came ≡ Some 1
its_origin = refl

it_is_present : is_present 7 one_came ≡ true
it_is_present = refl

-- the clock does not go back in it, so that it is one of those that the laws speak of
pub usable : IsUsable setup
usable = (usable_is_unrefused setup).1 refl

pub came_taken : IsHistory (passed_at one_came)
came_taken = record { usable = usable; word = omega arith; taken = (refl, omega arith, tt) }

came_forward : IsForward one_came
came_forward = record { passed = came_taken; few = (omega arith, tt); order = (omega arith, tt) }

-- a BYE of it from elsewhere is held back, and changes nothing
forged : guarded_answer one_came (goodbye 6 (peer 2 5004) 7) ≡ Err (HeldBack Stranger)
forged = refl

forged_is_not_passed : length (passed_at (after (told (goodbye 6 (peer 2 5004) 7) ∷ one_came.acts))).acts ≡ 1
forged_is_not_passed = refl

-- another port is of the same origin
other_port_is_passed : length (passed_at (after (told (goodbye 6 (peer 1 5005) 7) ∷ one_came.acts))).acts ≡ 2
other_port_is_passed = refl

-- a third source of an origin is one too many
third_source : guarded_answer (after (told (packet 5 (peer 1 5004) 8) ∷ one_came.acts)) (packet 5 (peer 1 5004) 9)
    ≡ Err (HeldBack Crowd)
third_source = refl

-- and so is a third goodbye, whether the source came back or not
third_goodbye : guarded_answer (after (told (goodbye 7 (peer 1 5004) 7) ∷ told (packet 6 (peer 1 5004) 7)
    ∷ told (goodbye 6 (peer 1 5004) 7) ∷ one_came.acts)) (goodbye 8 (peer 1 5004) 7) ≡ Err (HeldBack Crowd)
third_goodbye = refl

-- what is held back is no call: an earlier moment may follow
no_call : length (passed_at (after (told (packet 6 (peer 1 5004) 7) ∷ told (goodbye 9 (peer 2 5004) 7)
    ∷ one_came.acts))).acts ≡ 2
no_call = refl

-- what is refused in any case claims nothing
refused_claims_nothing : owner_at 8 (after (told (packet 4 (peer 2 5004) 8) ∷ one_came.acts)) ≡ None
refused_claims_nothing = refl

refused_is_refused : guarded_answer one_came (packet 4 (peer 2 5004) 7) ≡ Err (Refused Backwards)
refused_is_refused = refl

-- who takes the participant's SSRC has it from then on
collided : owner_at 170 (after (told (packet 5 (peer 3 5004) 170) ∷ [])) ≡ Some 3
collided = refl

collides_again : guarded_answer (after (told (packet 5 (peer 3 5004) 170) ∷ [])) (packet 6 (peer 3 5004) 187)
    ≡ Err (Refused OwnSsrc)
collides_again = refl
