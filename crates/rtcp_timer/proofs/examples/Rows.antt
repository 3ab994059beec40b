-- Worked examples that no test has: the definitions at numbers.
use Rattle.std.proofs.Common.{◌≡◌, ℕ, true, false, List, [], ◌∷◌, refl}
use Rattle.rtcp_clock.specs.Intervals.{drawn_interval}
use Rattle.rtcp_timer.specs.declared.load.Load.{Load}
use Rattle.rtcp_timer.specs.Loads.{interval_of}
use Rattle.rtcp_timer.specs.Schedules.{Happening, transmitted, tried, recounted, Timing, after, schedule_at, greatest_draw}
use Rattle.rtcp_timer.specs.Departures.{Departure, members_known, last_departure, departures_since_transmission, departures_since_setting, last_moment, next_moment}

-- ---- The interval of a session of 60, not the initial one

abbrev many_senders : Load
many_senders = record {
  members = 60;
  senders = 16;
  we_sent = true;
  initial = false;
  avg = 25600;
  sender_bw = 100;
  receiver_bw = 300;
}

among_many_senders : interval_of many_senders ≡ 15000000
among_many_senders = refl

-- ---- A session's schedule, from its start

-- the start, with the least random word
abbrev start : Happening
start = transmitted 0 (drawn_interval 2500000 0) 1

abbrev timing : (last next known : ℕ) → Timing
timing last next known = record { last = last; next = next; known = known }

abbrev first_try : List Happening
first_try = tried 1026037 (drawn_interval 2500000 0) 4 ∷ start ∷ []

found_due : schedule_at first_try ≡ timing 0 1026037 4
found_due = refl

abbrev first_report : List Happening
first_report = transmitted 1026037 (drawn_interval 5000000 0) 4 ∷ first_try

abbrev departure : Happening
departure = recounted 2026037 3

abbrev second_try : Happening
second_try = tried 2815092 (drawn_interval 5000000 0) 3

as_many : after (recounted 10000000 4) (timing 8000001 12000003 4) ≡ timing 8000001 12000003 4
as_many = refl

-- ---- The same schedules, from their draws and departures

abbrev followed : List Happening → Timing
followed events = timing (last_moment events) (next_moment events) (members_known events)

abbrev departed : (moment members members_before : ℕ) → Departure
departed moment members members_before =
    record { moment = moment; members = members; members_before = members_before }

record FollowedSchedules : Type 0 where
  none_yet : followed [] ≡ timing 0 0 1
  followed_found_due : followed first_try ≡ timing 0 1026037 4
  one_departure : departures_since_transmission (departure ∷ first_report) ≡ departed 2026037 3 4 ∷ []
  -- a second count of as many is no departure
  still_one_departure :
      departures_since_transmission (departure ∷ departure ∷ first_report) ≡ departed 2026037 3 4 ∷ []
  -- A try that is put off is a setting: an earlier departure has moved the last transmission alone.
  none_since_setting : departures_since_setting (second_try ∷ departure ∷ first_report) ≡ []
  one_since_setting :
      departures_since_setting (recounted 3000000 2 ∷ second_try ∷ departure ∷ first_report) ≡ departed 3000000 2 3 ∷ []
  both_since_transmission :
      departures_since_transmission (recounted 3000000 2 ∷ second_try ∷ departure ∷ first_report) ≡
      departed 3000000 2 3 ∷ departed 2026037 3 4 ∷ []
  followed_departed_again :
      followed (recounted 3000000 2 ∷ second_try ∷ departure ∷ first_report) ≡ timing 1850692 3218740 2
  -- A try that finds the transmission due is no setting, but a draw: its members are known from then on.
  no_setting : departures_since_setting (tried 4000000 2052074 5 ∷ departure ∷ first_report) ≡ departed 2026037 3 4 ∷ []
  known_of_try : followed (tried 4000000 2052074 5 ∷ departure ∷ first_report) ≡ timing 1276037 2815092 5
  -- A transmission forgets the departures before it.
  followed_sent_again : followed (transmitted 3000000 2052074 3 ∷ departure ∷ first_report) ≡ timing 3000000 5052074 3

followed_schedules : FollowedSchedules
followed_schedules = search

-- ---- When a report is due at the latest

record Due : Type 0 where
  greatest_of_two : greatest_draw (tried 2815092 1500000 3 ∷ departure ∷ first_report) ≡ 2052074
  newest_is_departure : last_departure (second_try ∷ departure ∷ departure ∷ first_report) ≡ 2026037
  -- a count of more is no departure
  none_departed : last_departure (recounted 2026037 5 ∷ first_report) ≡ 0

due : Due
due = search
