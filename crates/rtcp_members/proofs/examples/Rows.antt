-- Worked examples: the definitions, computed on short traces.
use Rattle.std.proofs.Common.{◌≡◌, ℕ, Bool, true, false, List, [], ◌∷◌, is_some}
use Rattle.rtcp_wire.specs.declared.fact.Fact.{Fact}
use Rattle.rtcp_wire.specs.declared.fact.Fact.TheVariants.{Heard, Named, Gone, Media}
use Rattle.rtcp_members.specs.Traces.{horizons_at, TraceStep, fact_came, check_made, source_forgotten, with_facts}
use Rattle.rtcp_members.specs.Stays.{stay_of}
use Rattle.rtcp_members.specs.Entries.{members_at, senders_at}

abbrev horizons : (silent idle gone : ℕ) → TraceStep
horizons silent idle gone = check_made (horizons_at silent idle gone)

abbrev is_present : List TraceStep → ℕ → Bool
is_present trace ssrc = is_some (stay_of 2 trace ssrc)

-- ---- Room for two

abbrev full : List TraceStep
full = fact_came (Heard 3) 0 ∷ fact_came (Heard 2) 0 ∷ fact_came (Named 1) 0 ∷ fact_came (Heard 1) 0 ∷ []

abbrev left : List TraceStep
left = fact_came (Heard 1) 1000001 ∷ fact_came (Gone 1) 1000000 ∷ fact_came (Gone 9) 0 ∷ full

abbrev room_again : List TraceStep
room_again = fact_came (Heard 3) 6000000 ∷ horizons 0 0 1000001 ∷ horizons 0 0 1000000 ∷ left

record Room : Type 0 where
  first_is_present : is_present full 1 ≡ true
  third_has_no_room : is_present full 3 ≡ false
  one_is_member : members_at 2 full ≡ 1
  none_is_member : members_at 2 left ≡ 0
  marked_is_held : is_present (horizons 0 0 1000000 ∷ left) 1 ≡ true
  marked_is_dropped : is_present (horizons 0 0 1000001 ∷ horizons 0 0 1000000 ∷ left) 1 ≡ false
  third_is_added : is_present room_again 3 ≡ true

room : Room
room = search

-- ---- A sender

abbrev sending : List TraceStep
sending = fact_came (Media 4 11 0 0 8000) 100 ∷ fact_came (Media 4 10 0 0 8000) 0 ∷ []

abbrev idle : List TraceStep
idle = horizons 0 50 0 ∷ horizons 0 101 0 ∷ horizons 0 100 0 ∷ sending

record Sender : Type 0 where
  one_packet_is_none : members_at 2 (fact_came (Media 4 10 0 0 8000) 0 ∷ []) ≡ 0
  sends : senders_at 2 sending ≡ 1
  still_sends : senders_at 2 (horizons 0 100 0 ∷ sending) ≡ 1
  no_longer_sends : senders_at 2 idle ≡ 0
  is_still_member : members_at 2 idle ≡ 1
  sends_again : senders_at 2 (fact_came (Media 4 12 0 0 8000) 200 ∷ idle) ≡ 1

sender : Sender
sender = search

-- ---- Sources that are gone

record Forgotten : Type 0 where
  forgotten_sender_is_gone : is_present (source_forgotten 4 ∷ sending) 4 ≡ false
  forgotten_sender_counts_no_more : members_at 2 (source_forgotten 4 ∷ sending) ≡ 0
  another_is_forgotten : senders_at 2 (source_forgotten 5 ∷ sending) ≡ 1
  marked_is_not_forgotten : is_present (source_forgotten 1 ∷ left) 1 ≡ true
  room_of_the_forgotten : is_present (fact_came (Heard 3) 0 ∷ source_forgotten 2 ∷ full) 3 ≡ true
  -- It comes back as a newcomer, whose first packet is not counted.
  newcomer_again : members_at 2 (fact_came (Media 4 12 0 0 8000) 200 ∷ source_forgotten 4 ∷ sending) ≡ 0

forgotten : Forgotten
forgotten = search

-- ---- Silence

-- It stays as long as each check finds it at the horizon or later, however old its CNAME is.
abbrev heard_at_each_check : List TraceStep
heard_at_each_check =
    horizons 20 0 0 ∷ fact_came (Heard 7) 20 ∷ horizons 10 0 0 ∷ fact_came (Heard 8) 15 ∷ fact_came (Named 7) 10 ∷ []

record Silence : Type 0 where
  seen_at_the_horizon : is_present (horizons 0 0 0 ∷ fact_came (Heard 7) 0 ∷ []) 7 ≡ true
  seen_before_the_horizon : is_present (horizons 1 0 0 ∷ fact_came (Heard 7) 0 ∷ []) 7 ≡ false
  heard_at_each_check_stays : members_at 2 heard_at_each_check ≡ 1
  silent_for_too_long : members_at 2 (horizons 21 0 0 ∷ heard_at_each_check) ≡ 0
  -- Where moments fall, a later fact may be an older sighting: no horizon here is later than the first one.
  sighted_earlier_again : is_present (horizons 5 0 0 ∷ fact_came (Heard 7) 3 ∷ fact_came (Heard 7) 5 ∷ []) 7 ≡ false

silence : Silence
silence = search

-- ---- A CNAME that comes

-- the compound of a source that joins, with one of another before it
abbrev two_join : List Fact
two_join = Heard 8 ∷ Named 8 ∷ Heard 7 ∷ Named 7 ∷ []

record Joining : Type 0 where
  both_have_room : members_at 2 (with_facts two_join 0 []) ≡ 2
  first_takes_the_room : members_at 1 (with_facts two_join 0 []) ≡ 1
  second_has_no_room : is_some (stay_of 1 (with_facts two_join 0 []) 7) ≡ false
  no_member_with_a_mark : members_at 2 (with_facts two_join 1 (fact_came (Gone 7) 0 ∷ fact_came (Heard 7) 0 ∷ [])) ≡ 1

joining : Joining
joining = search
