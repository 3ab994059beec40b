-- What the crate's types say, as values of the definitions.
use Rattle.std.specs.Prelude.{ℕ, ◌≡◌, ◌≤◌, ◌<◌, ◌^◌, take, drop, length, List, map, Option, Some, None, option_map, Result, Ok, Err}
use Rattle.rtcp_engine.specs.declared.config.Config.{Config}
use Rattle.rtcp_engine.specs.declared.participant.Phase.{Phase}
use Rattle.rtcp_engine.specs.declared.participant.Phase.TheVariants.{Present, BackingOff, Finished}
use Rattle.rtcp_engine.specs.declared.presence.ticks.NumberedReport.{NumberedReport}
use Rattle.rtcp_engine.specs.declared.refusal.Refusal.{Refusal}
use Rattle.rtcp_engine.specs.declared.participant.inspecting.InspectedRtcp.{InspectedRtcp}
use Rattle.rtcp_engine.specs.declared.participant.inspecting.InspectedRtp.{InspectedRtp}
use Rattle.rtcp_engine.specs.declared.step.Out.{Out}
use Rattle.rtcp_engine.specs.declared.step.Step.{Step}
use Rattle.rtcp_engine.specs.declared.step.WrittenStep.{WrittenStep}
use Rattle.rtcp_engine.specs.declared.step.Written.{Written}
use Rattle.rtcp_engine.specs.declared.arrival.Arrival.{Arrival}
use Rattle.rtcp_engine.specs.declared.arrival.Arrival.TheVariants.{Rtcp, Rtp}
use Rattle.rtcp_engine.specs.declared.event.Event.{Event}
use Rattle.rtcp_engine.specs.declared.event.Event.TheVariants.{ArriveRtcp, ArriveRtp, SentRtp, Tick, Leave, Configure, Forget}
use Rattle.rtcp_report.specs.Reports.{Reporter, item_value}
use Rattle.rtcp_engine.specs.answers.Reporting.{reporter_by}
use Rattle.rtcp_engine.specs.answers.Setups.{Setup}
use Rattle.rtcp_engine.specs.answers.Acts.{Datagram, rtcp, rtp, EventValue, rtcp_arrived, rtp_arrived, packet_sent, time_passed, leave_asked, settings_given, forget_asked, OutValue, StepValue, AnswerValue, clock_value, settings_value}
use Rattle.rtcp_engine.specs.answers.Changes.{named_by}
use Rattle.rtcp_engine.specs.state.States.{PhaseValue, taking_part, leaving, over}

abbrev pub phase_value : Phase → PhaseValue
phase_value Present = taking_part
phase_value (BackingOff members) = leaving members
phase_value Finished = over

abbrev pub setup_of : Config → Setup
setup_of config = record {
  ssrc = config.ssrc;
  cname = config.cname.items;
  capacity = config.capacity;
  limit = config.limit;
  settings = record {
    sender_bw = config.sender_bw;
    receiver_bw = config.receiver_bw;
    rate = config.rate;
    clocks = map clock_value config.clocks.items;
    ntp_base = config.ntp_base;
    extras = map item_value config.extras.items;
  };
}

-- ---- Reports

abbrev pub reporter_of : NumberedReport → Reporter
reporter_of report = reporter_by (setup_of report.config.now) report.own.now report.number report.moment

-- ---- Arrivals

-- the octets of a compound that came
abbrev pub size_of : Arrival → ℕ
size_of (Rtcp compound size) = size
size_of (Rtp head) = 0

-- what a datagram says that was read
abbrev pub datagram_of : Arrival → Datagram
datagram_of (Rtcp compound size) = rtcp size (Ok compound)
datagram_of (Rtp head) = rtp (Ok head)

-- A datagram that was read names fewer than 2^16 sources, as it has fewer octets.
abbrev pub NamesFewer : Arrival → Type 0
NamesFewer arrival = length (named_by (datagram_of arrival)) < 2 ^ 16

-- the SSRC under which a datagram is taken that was inspected
abbrev pub ssrc_for_compound : Result InspectedRtcp Refusal → Result ℕ Refusal
ssrc_for_compound (Ok inspected) = Ok inspected.ssrc
ssrc_for_compound (Err refusal) = Err refusal

abbrev pub ssrc_for_packet : Result InspectedRtp Refusal → Result ℕ Refusal
ssrc_for_packet (Ok inspected) = Ok inspected.ssrc
ssrc_for_packet (Err refusal) = Err refusal

-- ---- Answers

abbrev pub out_value : Out → OutValue
out_value out = record { kind = out.kind; octets = out.bytes.items }

abbrev pub step_value : Step → StepValue
step_value step = record {
  out = option_map out_value step.out;
  members = step.members;
  senders = step.senders;
  entries = step.entries;
  next = step.next;
  changed = step.changed;
  others_changed = step.others_changed;
}

abbrev pub answer_value : Result Step Refusal → AnswerValue
answer_value (Ok step) = Ok (step_value step)
answer_value (Err refusal) = Err refusal

-- ---- Replies, whose compound stands at the start of octets of the caller's

-- the compound that was written there, if one was
abbrev pub out_in : (octets : List ℕ) → Option Written → Option OutValue
out_in octets written =
    option_map (λ (out : Written). record { kind = out.kind; octets = take out.size octets }) written

abbrev pub size_written : Option Written → ℕ
size_written None = 0
size_written (Some out) = out.size

-- It has its place among the octets, and those after it are as they were.
pub record LeavesRest (before after : List ℕ) (written : Option Written) : Type 0 where
  pub fits : size_written written ≤ 1472
  pub room : size_written written ≤ length after
  pub rest : drop (size_written written) after ≡ drop (size_written written) before

abbrev pub written_step_value : (octets : List ℕ) → WrittenStep → StepValue
written_step_value octets told = record {
  out = out_in octets told.out;
  members = told.standing.members;
  senders = told.standing.senders;
  entries = told.standing.entries;
  next = told.standing.next;
  changed = told.changed;
  others_changed = told.others_changed;
}

abbrev pub reply_value : (octets : List ℕ) → Result WrittenStep Refusal → AnswerValue
reply_value octets (Ok told) = Ok (written_step_value octets told)
reply_value octets (Err refusal) = Err refusal

-- the compound that a reply tells of
abbrev pub out_written : Result WrittenStep Refusal → Option Written
out_written (Ok told) = told.out
out_written (Err refusal) = None

-- ---- Events

abbrev pub event_value : Event → EventValue
event_value (ArriveRtcp now peer word bytes) = rtcp_arrived now peer word bytes.now
event_value (ArriveRtp now peer word bytes) = rtp_arrived now peer word bytes.now
event_value (SentRtp now timestamp octets) = packet_sent now timestamp octets
event_value (Tick now first_word second_word) = time_passed now first_word second_word
event_value (Leave now word) = leave_asked now word
event_value (Configure now settings) = settings_given now (settings_value settings.now)
event_value (Forget now ssrc) = forget_asked now ssrc
