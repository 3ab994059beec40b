-- Worked rows: sessions whose host changes the settings.
use Rattle.std.proofs.Common.{◌≡◌, [], ◌∷◌, Err}
use Rattle.rtcp_engine.specs.declared.config.ConfigError.TheVariants.{Bandwidth, Rate, Item}
use Rattle.rtcp_engine.specs.declared.refusal.Refusal.TheVariants.{Settings}
use Rattle.rtcp_engine.specs.answers.Setups.{SettingsValue}
use Rattle.rtcp_engine.specs.answers.Acts.{configured, rtp_sent, ticked}
use Rattle.rtcp_engine.specs.answers.Answers.{answers_to}
use Rattle.rtcp_engine.specs.answers.Histories.{History}
use Rattle.rtcp_engine.proofs.examples.Rows.{setup, start, start_of, named_came, ok, moved, sends, empty_report}

-- With these the interval of one member is 3 seconds, where its minimum is less.
abbrev slow : SettingsValue
slow = record { sender_bw = 16; receiver_bw = 16; rate = 8000; clocks = []; ntp_base = 0; extras = [] }

record Changes : Type 0 where
  -- The moment to ask again stays; the report is put off there, as its interval is computed anew.
  lower : answers_to start (configured 500000 slow ∷ ticked 1026037 0 0 ∷ ticked 1231245 0 0 ∷ [])
      ≡ ok 1 0 0 1026037 ∷ ok 1 0 0 1231245 ∷ sends 1 0 0 3283319 empty_report ∷ []
  -- Where it is put off by less bandwidth, more of it does not bring it sooner.
  higher : answers_to start (configured 500000 slow ∷ ticked 1026037 4294967295 0
      ∷ configured 1026037 (record slow { receiver_bw = 300 }) ∷ ticked 3693732 0 0 ∷ ticked 3693733 0 0 ∷ [])
      ≡ ok 1 0 0 1026037 ∷ ok 1 0 0 3693733 ∷ ok 1 0 0 3693733 ∷ ok 1 0 0 3693733
      ∷ sends 1 0 0 5745807 empty_report ∷ []
  -- What no configuration may have is refused, and changes nothing.
  refused : answers_to start (configured 0 (record slow { receiver_bw = 15 })
      ∷ configured 0 (record slow { clocks = record { payload_type = 0; rate = 0 } ∷ [] })
      ∷ configured 0 (record slow { rate = 0 })
      ∷ configured 0 (record slow { extras = record { kind = 1; text = [] } ∷ [] }) ∷ ticked 1026037 0 0 ∷ [])
      ≡ Err (Settings Bandwidth) ∷ Err (Settings Rate) ∷ Err (Settings Rate) ∷ Err (Settings Item)
      ∷ sends 1 0 0 3078111 empty_report ∷ []
  -- The third report carries an item that was given after the second one.
  described : answers_to start (ticked 1026037 0 0 ∷ ticked 3078111 0 0
      ∷ configured 3078111 (record {
        sender_bw = 100;
        receiver_bw = 300;
        rate = 8000;
        clocks = [];
        ntp_base = 0;
        extras = record { kind = 6; text = 116 ∷ [] } ∷ [];
      })
      ∷ ticked 5130185 0 0 ∷ [])
      ≡ sends 1 0 0 3078111 empty_report ∷ sends 1 0 0 5130185 empty_report ∷ ok 1 0 0 5130185 ∷ sends 1 0 0 7182259
      (128 ∷ 201 ∷ 0 ∷ 1 ∷ 0 ∷ 0 ∷ 0 ∷ 170 ∷ 129 ∷ 202 ∷ 0 ∷ 3 ∷ 0 ∷ 0 ∷ 0 ∷ 170 ∷ 1 ∷ 1 ∷ 97 ∷ 6 ∷ 1 ∷ 116 ∷ 0 ∷ 0
      ∷ []) ∷ []

changes : Changes
changes = search

-- ---- The clock of the own media, and the time of day

-- a rate of 48,000 units a second, and a time of day that is 10 seconds later
abbrev later_and_faster : SettingsValue
later_and_faster = record {
  sender_bw = 100;
  receiver_bw = 300;
  rate = 48000;
  clocks = [];
  ntp_base = 42949672960;
  extras = [];
}

record Clocks : Type 0 where
  -- The first report tells 1.026037 seconds, 8,208 units after the packet; the second one 13.078111 seconds, 147,749
  -- units after it.
  told_anew : answers_to start (rtp_sent 0 1000 160 ∷ ticked 1026037 0 0 ∷ configured 1026037 later_and_faster
      ∷ ticked 3078111 0 0 ∷ [])
      ≡ ok 1 1 0 1026037 ∷ sends 1 1 0 3078111
      (128 ∷ 200 ∷ 0 ∷ 6 ∷ 0 ∷ 0 ∷ 0 ∷ 170 ∷ 0 ∷ 0 ∷ 0 ∷ 1 ∷ 6 ∷ 170 ∷ 92 ∷ 95 ∷ 0 ∷ 0 ∷ 35 ∷ 248 ∷ 0 ∷ 0 ∷ 0 ∷ 1 ∷ 0
      ∷ 0 ∷ 0 ∷ 160 ∷ 129 ∷ 202 ∷ 0 ∷ 2 ∷ 0 ∷ 0 ∷ 0 ∷ 170 ∷ 1 ∷ 1 ∷ 97 ∷ 0 ∷ []) ∷ ok 1 1 0 3078111 ∷ sends 1 1 0
      5130185
      (128 ∷ 200 ∷ 0 ∷ 6 ∷ 0 ∷ 0 ∷ 0 ∷ 170 ∷ 0 ∷ 0 ∷ 0 ∷ 13 ∷ 19 ∷ 255 ∷ 21 ∷ 30 ∷ 0 ∷ 2 ∷ 69 ∷ 13 ∷ 0 ∷ 0 ∷ 0 ∷ 1 ∷ 0
      ∷ 0 ∷ 0 ∷ 160 ∷ 129 ∷ 202 ∷ 0 ∷ 2 ∷ 0 ∷ 0 ∷ 0 ∷ 170 ∷ 1 ∷ 1 ∷ 97 ∷ 0 ∷ []) ∷ []

clocks : Clocks
clocks = search

-- ---- The pace of checks

-- A session of this bandwidth, in which the interval of two members is 6 seconds,
abbrev slow_start : History
slow_start = start_of (record setup { settings = record setup.settings { sender_bw = 16; receiver_bw = 16 } })

-- becomes one of the least interval, 2.5 seconds before the first report, and 5 seconds after it.
abbrev fast : SettingsValue
fast = record { sender_bw = 160; receiver_bw = 160; rate = 8000; clocks = []; ntp_base = 0; extras = [] }

record PaceOfChecks : Type 0 where
  -- A source that was last heard 20 seconds ago, so less than five of the former intervals, is kept: five of the
  -- present ones are 12.5 seconds.
  raised : answers_to slow_start (named_came 0 9 ∷ configured 20000000 fast ∷ ticked 20000000 0 0 ∷ [])
      ≡ moved (ok 2 0 1 1231245) ∷ ok 2 0 1 1231245 ∷ sends 2 0 1 22052074 empty_report ∷ []
  -- The former pace counts for five of its intervals, 30 seconds, and no longer.
  former_for_thirty_seconds : answers_to slow_start (named_came 0 9 ∷ configured 20000000 fast ∷ ticked 20000000 0 0
      ∷ named_came 20000001 9 ∷ ticked 49999999 0 0 ∷ ticked 50000000 0 0 ∷ [])
      ≡ moved (ok 2 0 1 1231245) ∷ ok 2 0 1 1231245 ∷ sends 2 0 1 22052074 empty_report ∷ ok 2 0 1 22052074
      ∷ sends 2 0 1 52052073 empty_report ∷ moved (ok 1 0 0 51026036) ∷ []
  -- Settings that change again meanwhile, other items say, do not end it.
  set_twice : answers_to slow_start (named_came 0 9 ∷ configured 20000000 fast ∷ configured 20000000 fast
      ∷ ticked 20000000 0 0 ∷ [])
      ≡ moved (ok 2 0 1 1231245) ∷ ok 2 0 1 1231245 ∷ ok 2 0 1 1231245 ∷ sends 2 0 1 22052074 empty_report ∷ []
  -- Settings that leave the bandwidths as they are do not prolong it.
  described_meanwhile : answers_to slow_start (named_came 0 9 ∷ configured 20000000 fast ∷ ticked 20000000 0 0
      ∷ named_came 20000001 9 ∷ configured 40000000 fast ∷ ticked 49999999 0 0 ∷ configured 49999999 fast
      ∷ ticked 50000000 0 0 ∷ [])
      ≡ moved (ok 2 0 1 1231245) ∷ ok 2 0 1 1231245 ∷ sends 2 0 1 22052074 empty_report ∷ ok 2 0 1 22052074
      ∷ ok 2 0 1 22052074 ∷ sends 2 0 1 52052073 empty_report ∷ ok 2 0 1 52052073 ∷ moved (ok 1 0 0 51026036) ∷ []
  -- Other bandwidths at 45 seconds let the least of all count for five of the intervals that they end, 25 seconds.
  changed_meanwhile : answers_to slow_start (named_came 0 9 ∷ configured 20000000 fast ∷ ticked 20000000 0 0
      ∷ named_came 40000000 9 ∷ configured 45000000 (record fast { receiver_bw = 170 }) ∷ ticked 69999999 0 0
      ∷ ticked 70000000 0 0 ∷ [])
      ≡ moved (ok 2 0 1 1231245) ∷ ok 2 0 1 1231245 ∷ sends 2 0 1 22052074 empty_report ∷ ok 2 0 1 22052074
      ∷ ok 2 0 1 22052074 ∷ sends 2 0 1 72052073 empty_report ∷ moved (ok 1 0 0 71026036) ∷ []

pace_of_checks : PaceOfChecks
pace_of_checks = search
