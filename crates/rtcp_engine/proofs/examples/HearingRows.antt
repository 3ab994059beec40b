-- Worked rows: who is a member from a compound with its CNAME on, and until when.
use Rattle.std.proofs.Common.{◌≡◌, ℕ, true, false, [], ◌∷◌, None, Ok}
use Rattle.rtcp_wire.specs.Values.{rr, sdes, bye}
use Rattle.rtcp_engine.specs.answers.Acts.{Act, arrived, rtcp, ticked, forgotten}
use Rattle.rtcp_engine.specs.bounds.Hearing.{is_member_at, with_acts}
use Rattle.rtcp_engine.specs.answers.Histories.{History, with_act}
use Rattle.rtcp_engine.proofs.examples.Rows.{items_a, named_came, setup, start, start_of}

abbrev bye_came : (moment ssrc : ℕ) → Act
bye_came moment ssrc = arrived moment 1 0 (rtcp 16 (Ok (rr ssrc [] [] ∷ bye (ssrc ∷ []) None ∷ [])))

abbrev heard : History
heard = with_act start (named_came 1 7)

-- a table for one, in which another has the room, or is named first
abbrev full : History
full = with_act (start_of (record setup { capacity = 1 })) (named_came 0 8)

abbrev of_two : Act
of_two = arrived 0 1 0 (rtcp 36 (Ok (rr 8 [] [] ∷ sdes (record { id = 7; items = items_a } ∷ []) ∷ [])))

record Members : Type 0 where
  no_member_before : is_member_at 7 start ≡ false
  member_once_named : is_member_at 7 heard ≡ true
  no_member_without_a_name : is_member_at 7 (with_act start (arrived 1 1 0 (rtcp 8 (Ok (rr 7 [] [] ∷ []))))) ≡ false
  no_room : is_member_at 7 (with_act full (named_came 1 7)) ≡ false
  already_there : is_member_at 8 (with_act full (named_came 1 8)) ≡ true
  other_takes_the_room : is_member_at 7 (with_act (start_of (record setup { capacity = 1 })) of_two) ≡ false
  room_for_both : is_member_at 7 (with_act (start_of (record setup { capacity = 2 })) of_two) ≡ true
  -- Before the first report the interval is 2.5 seconds: five of them are 12.5 seconds.
  heard_within_five_intervals : is_member_at 7 (with_acts (ticked 12500001 0 0 ∷ []) heard) ≡ true
  silent_for_longer : is_member_at 7 (with_acts (ticked 12500002 0 0 ∷ []) heard) ≡ false
  heard_again_in_between : is_member_at 7 (with_acts (ticked 12500002 0 0 ∷ named_came 2 7 ∷ []) heard) ≡ true
  said_bye : is_member_at 7 (with_act heard (bye_came 2 7)) ≡ false
  another_said_bye : is_member_at 7 (with_act heard (bye_came 2 9)) ≡ true
  named_with_a_mark : is_member_at 7 (with_acts (named_came 3 7 ∷ bye_came 2 7 ∷ []) heard) ≡ false
  forgotten_by_the_host : is_member_at 7 (with_act heard (forgotten 2 7)) ≡ false
  another_forgotten : is_member_at 7 (with_act heard (forgotten 2 9)) ≡ true

members : Members
members = search
