-- Worked rows: sessions of a participant with SSRC 0xaa and the CNAME `a`.
use Rattle.std.proofs.Common.{◌≡◌, ℕ, List, [], ◌∷◌, Option, Some, None, Ok, Err, true, false}
use Rattle.rtcp_wire.specs.declared.rtp.fault.RtpFault.TheVariants.{PayloadType}
use Rattle.rtcp_wire.specs.declared.fault.FaultReason.TheVariants.{Short}
use Rattle.rtcp_wire.specs.Values.{ItemValue, RtcpPacket, rr, sdes, bye, RtpValue}
use Rattle.rtcp_engine.specs.declared.refusal.Refusal.TheVariants.{Backwards, TooFar, Wire, Rtp}
use Rattle.rtcp_engine.specs.declared.step.OutKind.TheVariants.{Report}
use Rattle.rtcp_engine.specs.answers.Setups.{Setup}
use Rattle.rtcp_engine.specs.answers.Acts.{rtcp, rtp, Act, arrived, rtp_sent, ticked, AnswerValue, OutValue, StepValue}
use Rattle.rtcp_engine.specs.answers.Outcomes.{timing_of, beginning}
use Rattle.rtcp_engine.specs.answers.Histories.{History}
use Rattle.rtcp_engine.specs.answers.Answers.{answers_to}

abbrev pub setup : Setup
setup = record {
  ssrc = 170;
  cname = 97 ∷ [];
  capacity = 1024;
  limit = 1472;
  settings = record {
    sender_bw = 100;
    receiver_bw = 300;
    rate = 8000;
    clocks = [];
    ntp_base = 0;
    extras = [];
  };
}

abbrev pub start_of : Setup → History
start_of setup = record { setup = setup; word = 0; acts = [] }

abbrev pub start : History
start = start_of setup

-- ---- Acts and answers

-- an answer that says nothing of the others,
abbrev pub step_with : Option OutValue → (members senders entries : ℕ) → (next changed : Option ℕ) → StepValue
step_with out members senders entries next changed = record {
  out = out;
  members = members;
  senders = senders;
  entries = entries;
  next = next;
  changed = changed;
  others_changed = false;
}

abbrev pub ok : (members senders entries next : ℕ) → AnswerValue
ok members senders entries next = Ok (step_with None members senders entries (Some next) None)

abbrev pub sends : (members senders entries next : ℕ) → List ℕ → AnswerValue
sends members senders entries next octets =
    Ok (step_with (Some (record { kind = Report; octets = octets })) members senders entries (Some next) None)

-- and one that says that they changed
abbrev pub moved : AnswerValue → AnswerValue
moved (Ok step) = Ok (record step { others_changed = true })
moved (Err refusal) = Err refusal

-- a receiver report without blocks, and the CNAME
abbrev pub empty_report : List ℕ
empty_report = 128 ∷ 201 ∷ 0 ∷ 1 ∷ 0 ∷ 0 ∷ 0 ∷ 170 ∷ 129 ∷ 202 ∷ 0 ∷ 2 ∷ 0 ∷ 0 ∷ 0 ∷ 170 ∷ 1 ∷ 1 ∷ 97 ∷ 0 ∷ []

abbrev pub items_a : List ItemValue
items_a = record { kind = 1; text = 97 ∷ [] } ∷ []

abbrev pub named : ℕ → List RtcpPacket
named ssrc = rr ssrc [] [] ∷ sdes (record { id = ssrc; items = items_a } ∷ []) ∷ []

-- a receiver report of a source, and its CNAME
abbrev pub named_came : (moment ssrc : ℕ) → Act
named_came moment ssrc = arrived moment 1 0 (rtcp 20 (Ok (named ssrc)))

abbrev packet_of : (ssrc seq : ℕ) → RtpValue
packet_of ssrc seq = record {
  payload_type = 0;
  marker = false;
  sequence = seq;
  timestamp = 0;
  ssrc = ssrc;
  csrcs = [];
  payload = [];
}

abbrev packet_came : (moment ssrc seq : ℕ) → Act
packet_came moment ssrc seq = arrived moment 1 0 (rtp (Ok (packet_of ssrc seq)))

-- ---- Rows

record Sessions : Type 0 where
  start_least : (timing_of (beginning setup 0)).next ≡ 1026037
  start_greatest : (timing_of (beginning setup 4294967295)).next ≡ 3078111
  -- A report goes out when its moment has come and no sooner, and only one.
  reports_once : answers_to start (ticked 1026036 0 0 ∷ ticked 1026037 0 0 ∷ ticked 1026037 0 0 ∷ [])
      ≡ ok 1 0 0 1026037 ∷ sends 1 0 0 3078111 empty_report ∷ ok 1 0 0 3078111 ∷ []
  -- The interval drawn at the tick has not passed.
  put_off : answers_to start (ticked 1026037 4294967295 0 ∷ []) ≡ ok 1 0 0 3078111 ∷ []
  -- A source whose packets are counted is a member, a sender, and reported.
  one_sender : answers_to start (packet_came 0 9 10 ∷ packet_came 0 9 11 ∷ ticked 1026037 0 0 ∷ [])
      ≡ ok 1 0 1 1026037 ∷ moved (ok 2 1 1 1026037) ∷ sends 2 1 1 3078111
      (129 ∷ 201 ∷ 0 ∷ 7 ∷ 0 ∷ 0 ∷ 0 ∷ 170 ∷ 0 ∷ 0 ∷ 0 ∷ 9 ∷ 0 ∷ 0 ∷ 0 ∷ 0 ∷ 0 ∷ 0 ∷ 0 ∷ 11 ∷ 0 ∷ 0 ∷ 0 ∷ 0 ∷ 0 ∷ 0
      ∷ 0 ∷ 0 ∷ 0 ∷ 0 ∷ 0 ∷ 0 ∷ 129 ∷ 202 ∷ 0 ∷ 2 ∷ 0 ∷ 0 ∷ 0 ∷ 170 ∷ 1 ∷ 1 ∷ 97 ∷ 0 ∷ []) ∷ []
  -- The participant sends, and reports as a sender.
  own_stream : answers_to start (rtp_sent 0 1000 160 ∷ ticked 1026037 0 0 ∷ [])
      ≡ ok 1 1 0 1026037 ∷ sends 1 1 0 3078111
      (128 ∷ 200 ∷ 0 ∷ 6 ∷ 0 ∷ 0 ∷ 0 ∷ 170 ∷ 0 ∷ 0 ∷ 0 ∷ 1 ∷ 6 ∷ 170 ∷ 92 ∷ 95 ∷ 0 ∷ 0 ∷ 35 ∷ 248 ∷ 0 ∷ 0 ∷ 0 ∷ 1 ∷ 0
      ∷ 0 ∷ 0 ∷ 160 ∷ 129 ∷ 202 ∷ 0 ∷ 2 ∷ 0 ∷ 0 ∷ 0 ∷ 170 ∷ 1 ∷ 1 ∷ 97 ∷ 0 ∷ []) ∷ []
  -- It is a sender for two intervals,
  still_sender : answers_to start (rtp_sent 0 1000 160 ∷ ticked 1026037 0 0 ∷ ticked 10000000 0 0 ∷ [])
      ≡ ok 1 1 0 1026037 ∷ sends 1 1 0 3078111
      (128 ∷ 200 ∷ 0 ∷ 6 ∷ 0 ∷ 0 ∷ 0 ∷ 170 ∷ 0 ∷ 0 ∷ 0 ∷ 1 ∷ 6 ∷ 170 ∷ 92 ∷ 95 ∷ 0 ∷ 0 ∷ 35 ∷ 248 ∷ 0 ∷ 0 ∷ 0 ∷ 1 ∷ 0
      ∷ 0 ∷ 0 ∷ 160 ∷ 129 ∷ 202 ∷ 0 ∷ 2 ∷ 0 ∷ 0 ∷ 0 ∷ 170 ∷ 1 ∷ 1 ∷ 97 ∷ 0 ∷ []) ∷ sends 1 1 0 12052074
      (128 ∷ 200 ∷ 0 ∷ 6 ∷ 0 ∷ 0 ∷ 0 ∷ 170 ∷ 0 ∷ 0 ∷ 0 ∷ 10 ∷ 0 ∷ 0 ∷ 0 ∷ 0 ∷ 0 ∷ 1 ∷ 60 ∷ 104 ∷ 0 ∷ 0 ∷ 0 ∷ 1 ∷ 0 ∷ 0
      ∷ 0 ∷ 160 ∷ 129 ∷ 202 ∷ 0 ∷ 2 ∷ 0 ∷ 0 ∷ 0 ∷ 170 ∷ 1 ∷ 1 ∷ 97 ∷ 0 ∷ []) ∷ []
  -- and no longer.
  no_sender : answers_to start (rtp_sent 0 1000 160 ∷ ticked 1026037 0 0 ∷ ticked 10000001 0 0 ∷ [])
      ≡ ok 1 1 0 1026037 ∷ sends 1 1 0 3078111
      (128 ∷ 200 ∷ 0 ∷ 6 ∷ 0 ∷ 0 ∷ 0 ∷ 170 ∷ 0 ∷ 0 ∷ 0 ∷ 1 ∷ 6 ∷ 170 ∷ 92 ∷ 95 ∷ 0 ∷ 0 ∷ 35 ∷ 248 ∷ 0 ∷ 0 ∷ 0 ∷ 1 ∷ 0
      ∷ 0 ∷ 0 ∷ 160 ∷ 129 ∷ 202 ∷ 0 ∷ 2 ∷ 0 ∷ 0 ∷ 0 ∷ 170 ∷ 1 ∷ 1 ∷ 97 ∷ 0 ∷ []) ∷ sends 1 0 0 12052075 empty_report
      ∷ []
  -- A source is held for five intervals,
  still_held : answers_to start (named_came 1000000 7 ∷ ticked 13500000 0 0 ∷ [])
      ≡ moved (ok 2 0 1 1026037) ∷ sends 2 0 1
      15552074 empty_report ∷ []
  -- and no longer.
  silent : answers_to start (named_came 1000000 7 ∷ ticked 13500001 0 0 ∷ []) ≡ moved (ok 2 0 1 1026037) ∷ moved
      (sends 1 0 0 15552075 empty_report) ∷ []
  -- A full table admits nobody, and a source that left is held for five seconds.
  full : answers_to (start_of (record setup { capacity = 2 }))
      (named_came 0 1 ∷ named_came 0 2 ∷ named_came 0 3 ∷ arrived 1000000 1 0
      (rtcp 16 (Ok (rr 1 [] [] ∷ bye (1 ∷ []) None ∷ [])))
      ∷ named_came 1000000 3 ∷ ticked 6000000 2147483648 2147483648 ∷ named_came 6000000 3 ∷ [])
      ≡ moved (ok 2 0 1 1026037) ∷ moved (ok 3 0 2 1026037) ∷ ok 3 0 2 1026037 ∷ moved (ok 2 0 2 1026037) ∷ ok 2 0 2
      1026037 ∷ sends 2 0 1 10104147 empty_report ∷ moved (ok 3 0 2 10104147) ∷ []
  -- Moments end at 2^50 microseconds, and do not go back.
  last_moments : answers_to start (ticked 1125899906842624 0 0 ∷ ticked 1125899906842625 0 0 ∷ ticked 0 0 0 ∷ [])
      ≡ sends 1 0 0 1125899908894698 empty_report ∷ Err TooFar ∷ Err Backwards ∷ []
  -- Datagrams that name the participant, or have a fault.
  refused : answers_to start (arrived 0 1 0 (rtcp 8 (Ok (rr 170 [] [] ∷ []))) ∷ arrived 0 1 0
      (rtcp 0 (Err (record { reason = Short; place = 0 }))) ∷ arrived 0 1 0 (rtp (Err PayloadType)) ∷ [])
      ≡ Ok (step_with None 1 0 1 (Some 1026037) (Some 0)) ∷ Err (Wire (record { reason = Short; place = 0 })) ∷ Err
      (Rtp PayloadType) ∷ []
  -- The third report carries the extra item.
  third_report : answers_to (start_of
      (record setup { settings = record setup.settings { extras = record { kind = 6; text = 116 ∷ [] } ∷ [] } }))
      (ticked 1026037 0 0 ∷ ticked 3078111 0 0 ∷ ticked 5130185 0 0 ∷ [])
      ≡ sends 1 0 0 3078111 empty_report ∷ sends 1 0 0 5130185 empty_report ∷ sends 1 0 0 7182259
      (128 ∷ 201 ∷ 0 ∷ 1 ∷ 0 ∷ 0 ∷ 0 ∷ 170 ∷ 129 ∷ 202 ∷ 0 ∷ 3 ∷ 0 ∷ 0 ∷ 0 ∷ 170 ∷ 1 ∷ 1 ∷ 97 ∷ 6 ∷ 1 ∷ 116 ∷ 0 ∷ 0
      ∷ []) ∷ []

sessions : Sessions
sessions = search
