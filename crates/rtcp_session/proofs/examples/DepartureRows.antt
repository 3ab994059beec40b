-- Worked rows: who departs by which act. A participant has SSRC 170. Of the source 187 it knows the CNAME, and last
-- heard of it 100 microseconds after the start. The bandwidth is such that each interval is the minimum.
use Rattle.std.proofs.Common.{◌≡◌, ℕ, true, false, List, [], ◌∷◌, None, Ok, refl}
use Rattle.rtcp_wire.specs.declared.fact.Fact.TheVariants.{Heard, Named}
use Rattle.rtcp_wire.specs.Values.{RtcpPacket, rr, bye, sdes}
use Rattle.rtcp_members.specs.Traces.{TraceStep, fact_came}
use Rattle.rtcp_engine.specs.answers.Setups.{Setup, settings_of}
use Rattle.rtcp_engine.specs.answers.Acts.{Act, arrived, rtcp, rtp_sent, ticked, left, configured, forgotten}
use Rattle.rtcp_engine.specs.answers.Outcomes.{Outcome, nothing_yet}
use Rattle.rtcp_engine.specs.answers.Arrivals.{after}
use Rattle.rtcp_engine.specs.answers.Ticks.{checked}
use Rattle.rtcp_engine.specs.answers.Leaving.{present, backing_off, finished}
use Rattle.rtcp_session.specs.Departures.{becomes_member_by, departures_within, is_departure, is_departure_after, is_member_of, is_silent, leavers, least_silence, may_be_departure, new_members_by, new_members_since, other_members, says_bye}
use Rattle.rtcp_session.proofs.examples.CrowdRows.{named_came, packet_came, setup_of}

abbrev pub quick : Setup
quick =
    let slow = setup_of 170 in
    record slow { settings = record slow.settings { sender_bw = 1000; receiver_bw = 1000 } }

-- what a session has come to by these facts alone, and the same after a report
abbrev pub by : List TraceStep → Outcome
by trace = record nothing_yet { trace = trace }

abbrev pub later_by : List TraceStep → Outcome
later_by trace = record (by trace) { reports = 1 }

abbrev pub named : List TraceStep
named = fact_came (Named 187) 100 ∷ []

-- a compound of the source 187 with a BYE packet that names these
abbrev pub leaving : List ℕ → List RtcpPacket
leaving ids = rr 187 [] [] ∷ bye ids None ∷ []

abbrev pub bye_came : (moment : ℕ) → List ℕ → Act
bye_came moment ids = arrived moment 1 0 (rtcp 20 (Ok (leaving ids)))

-- ---- BYE packets

leavers_of_two : leavers (rr 7 [] [] ∷ bye (7 ∷ 8 ∷ []) None ∷ bye (9 ∷ []) None ∷ []) ≡ 7 ∷ 8 ∷ 9 ∷ []
leavers_of_two = refl

names_one : says_bye (leaving (187 ∷ [])) ≡ true
names_one = refl

names_nobody : says_bye (leaving []) ≡ false
names_nobody = refl

no_bye : says_bye (rr 187 [] [] ∷ sdes [] ∷ []) ≡ false
no_bye = refl

-- ---- Members

is_one : is_member_of quick (by named) 187 ≡ true
is_one = refl

stranger_is_none : is_member_of quick (by named) 188 ≡ false
stranger_is_none = refl

-- without a CNAME or a packet that counts
heard_is_none : is_member_of quick (by (fact_came (Heard 187) 100 ∷ [])) 187 ≡ false
heard_is_none = refl

-- ---- Compounds and packets

member_leaves : is_departure quick (bye_came 200 (188 ∷ 187 ∷ [])) (present (by named)) ≡ true
member_leaves = refl

no_member_then : is_member_of quick (after quick (bye_came 200 (188 ∷ 187 ∷ [])) (by named)) 187 ≡ false
no_member_then = refl

stranger_leaves : is_departure quick (bye_came 200 (188 ∷ [])) (present (by named)) ≡ false
stranger_leaves = refl

nobody_leaves : is_departure quick (bye_came 200 []) (present (by named)) ≡ false
nobody_leaves = refl

-- one that is no member yet
heard_leaves : is_departure quick (bye_came 200 (187 ∷ [])) (present (by (fact_came (Heard 187) 100 ∷ []))) ≡ false
heard_leaves = refl

-- The participant left before: it counts nobody any more.
after_the_leave : is_departure quick (bye_came 200 (187 ∷ [])) (finished (by named)) ≡ false
after_the_leave = refl

in_a_backoff : is_departure quick (bye_came 200 (187 ∷ []))
    (backing_off (by named) (record { since = 150; bye_compounds = []; happenings = [] })) ≡ false
in_a_backoff = refl

report_comes : is_departure quick (named_came 200 187) (present (by named)) ≡ false
report_comes = refl

packet_comes : is_departure quick (packet_came 200 187 9) (present (by named)) ≡ false
packet_comes = refl

packet_goes : is_departure quick (rtp_sent 200 0 0) (present (by named)) ≡ false
packet_goes = refl

settings_come : is_departure quick (configured 200 (settings_of (setup_of 170))) (present (by named)) ≡ false
settings_come = refl

leave_comes : is_departure quick (left 200 0) (present (by named)) ≡ false
leave_comes = refl

-- ---- Acts that can be one

bye_may_be : may_be_departure (bye_came 200 (188 ∷ [])) ≡ true
bye_may_be = refl

no_bye_may_not : may_be_departure (named_came 200 187) ≡ false
no_bye_may_not = refl

packet_may_not : may_be_departure (packet_came 200 187 9) ≡ false
packet_may_not = refl

leave_may_not : may_be_departure (left 200 0) ≡ false
leave_may_not = refl

-- ---- Sources that the host says are gone

member_is_gone : is_departure quick (forgotten 200 187) (present (by named)) ≡ true
member_is_gone = refl

stranger_is_gone : is_departure quick (forgotten 200 188) (present (by named)) ≡ false
stranger_is_gone = refl

-- ---- Silence

-- After a report, five intervals of 5 seconds since the source was heard, and one microsecond more.
not_yet : is_departure quick (ticked 25000100 0 0) (present (later_by named)) ≡ false
not_yet = refl

too_long : is_departure quick (ticked 25000101 0 0) (present (later_by named)) ≡ true
too_long = refl

-- Before the first report, intervals of 2.5 seconds.
not_yet_at_first : is_departure quick (ticked 12500100 0 0) (present (by named)) ≡ false
not_yet_at_first = refl

too_long_at_first : is_departure quick (ticked 12500101 0 0) (present (by named)) ≡ true
too_long_at_first = refl

-- The check of the tick drops it then, and not sooner.
kept : is_member_of quick (checked quick 25000100 (later_by named)) 187 ≡ true
kept = refl

dropped : is_member_of quick (checked quick 25000101 (later_by named)) 187 ≡ false
dropped = refl

-- With 16 octets a second for two members, an interval is longer.
longer_with_less : is_silent (setup_of 170) 25000101 (later_by named) 187 ≡ false
longer_with_less = refl

least_at_first : least_silence (by named) ≡ 12500000
least_at_first = refl

least_later : least_silence (later_by named) ≡ 25000000
least_later = refl

-- ---- Counts

-- Who said BYE is no member any more, and so departs once.
abbrev pub twice : List Act
twice = bye_came 300 (187 ∷ []) ∷ bye_came 200 (187 ∷ []) ∷ named_came 100 187 ∷ []

departs_once : departures_within quick 0 0 1000 twice ≡ 1
departs_once = refl

-- The compound with the BYE is about the participant itself, which takes another identifier then: 187 departs all the
-- same.
abbrev own_bye : Act
own_bye = bye_came 200 (170 ∷ 187 ∷ [])

departs_at_a_change : is_departure_after
    (record { setup = quick; word = 0; acts = named_came 100 187 ∷ [] }) own_bye ≡ true
departs_at_a_change = refl

-- after one moment, and not after another
not_at_the_first : departures_within quick 0 200 1000 twice ≡ 0
not_at_the_first = refl

at_the_last : departures_within quick 0 199 200 twice ≡ 1
at_the_last = refl

not_after_it : departures_within quick 0 0 199 twice ≡ 0
not_after_it = refl

-- ---- New members

one_other : other_members quick (present (by named)) ≡ 1
one_other = refl

nobody_after_the_leave : other_members quick (finished (by named)) ≡ 0
nobody_after_the_leave = refl

-- a compound of the source 188 with its CNAME, in which 187 leaves
abbrev pub changing : Act
changing = arrived 200 1 0 (rtcp 20 (Ok (rr 188 [] []
    ∷ sdes (record { id = 188; items = record { kind = 1; text = 97 ∷ [] } ∷ [] } ∷ []) ∷ bye (187 ∷ []) None ∷ [])))

one_is_new : new_members_by quick changing (present (by named)) ≡ 1
one_is_new = refl

known_is_not_new : new_members_by quick (named_came 200 187) (present (by named)) ≡ 0
known_is_not_new = refl

-- The second packet in sequence counts, and the first does not.
first_packet : becomes_member_by quick (packet_came 200 188 9) (by named) 188 ≡ false
first_packet = refl

second_packet : new_members_since (record { setup = quick; word = 0; acts = [] })
    (packet_came 300 188 10 ∷ packet_came 200 188 9 ∷ []) ≡ 1
second_packet = refl

-- a source that the host said was gone, and that comes back
abbrev pub back_again : List Act
back_again = named_came 300 187 ∷ forgotten 200 187 ∷ named_came 100 187 ∷ []

new_twice : new_members_since (record { setup = quick; word = 0; acts = [] }) back_again ≡ 2
new_twice = refl

new_once_since : new_members_since (record { setup = quick; word = 0; acts = named_came 100 187 ∷ [] })
    (named_came 300 187 ∷ forgotten 200 187 ∷ []) ≡ 1
new_once_since = refl
