-- What a participant is told, and what it answers. It is told what came, what was sent beside it, that time has passed,
-- that its settings change, that a source is gone, and that it is to leave. Moments are in microseconds since the
-- session began.
use Rattle.std.specs.Prelude.{◌≡◌, ℕ, List, length, Result, Ok, Err, Bool, None, Option, Some, map}
use Rattle.rtcp_wire.specs.declared.fault.WireFault.{WireFault}
use Rattle.rtcp_wire.specs.declared.rtp.fault.RtpFault.{RtpFault}
use Rattle.rtcp_wire.specs.Values.{RtcpPacket, RtpValue}
use Rattle.rtcp_wire.specs.Grammar.{IsAccepted}
use Rattle.rtcp_wire.specs.Faults.{IsFirstFault}
use Rattle.rtcp_wire.specs.Readings.{rtcp_in}
use Rattle.rtcp_wire.specs.RtpHeads.{IsRtpHead, IsRtpFault}
use Rattle.rtcp_wire.specs.RtpReadings.{rtp_in}
use Rattle.rtcp_engine.specs.answers.Setups.{SettingsValue, ClockValue}
use Rattle.rtcp_engine.specs.declared.step.OutKind.{OutKind}
use Rattle.rtcp_engine.specs.declared.refusal.Refusal.{Refusal}
use Rattle.rtcp_engine.specs.declared.event.Event.TheVariants.{ArriveRtcp, ArriveRtp, Configure, Forget, Leave, SentRtp, Tick}
use Rattle.rtcp_engine.specs.declared.clock.Clock.{Clock}
use Rattle.rtcp_engine.specs.declared.event.Event.{Event}
use Rattle.rtcp_engine.specs.declared.settings.Settings.{Settings}
use Rattle.rtcp_report.specs.Reports.{item_value}

-- What a datagram says that came.
pub data Datagram : Type 0 where
  -- an RTCP datagram of so many octets: its packets, or its first fault
  rtcp : (size : ℕ) (reading : Result (List RtcpPacket) WireFault) → Datagram
  -- an RTP datagram: what its head says, or its first fault
  rtp : (reading : Result RtpValue RtpFault) → Datagram

pub data Act : Type 0 where
  -- a datagram came from a peer. The host gave a random word for a new identifier.
  arrived : (moment peer word : ℕ) (datagram : Datagram) → Act
  -- the participant's host sent an RTP packet with this timestamp and so many octets of payload
  rtp_sent : (moment timestamp octets : ℕ) → Act
  -- the host asked whether a report is due, and gave two random words for the draws of intervals
  ticked : (moment first_word second_word : ℕ) → Act
  -- the host asked the participant to leave, and gave a random word for the draw of a backoff
  left : (moment word : ℕ) → Act
  -- the host gave other settings, which hold from then on
  configured : (moment : ℕ) (settings : SettingsValue) → Act
  -- the host said that another source is gone
  forgotten : (moment ssrc : ℕ) → Act

abbrev pub moment_of : Act → ℕ
moment_of (arrived moment peer word datagram) = moment
moment_of (rtp_sent moment timestamp octets) = moment
moment_of (ticked moment first_word second_word) = moment
moment_of (left moment word) = moment
moment_of (configured moment settings) = moment
moment_of (forgotten moment ssrc) = moment

-- an RTCP datagram came with these octets, which say so
abbrev pub rtcp_came : (moment peer word : ℕ) (octets : List ℕ) → Result (List RtcpPacket) WireFault → Act
rtcp_came moment peer word octets reading = arrived moment peer word (rtcp (length octets) reading)

abbrev pub rtp_came : (moment peer word : ℕ) → Result RtpValue RtpFault → Act
rtp_came moment peer word reading = arrived moment peer word (rtp reading)

-- ---- Octets

-- What the octets of an RTCP datagram say, by their grammar. There is exactly one reading, and it is `rtcp_in octets`
-- (law `one_reading`).
abbrev pub IsReading : List ℕ → Result (List RtcpPacket) WireFault → Type 0
IsReading octets (Ok packets) = IsAccepted octets packets
IsReading octets (Err fault) = IsFirstFault octets fault

-- what the octets of an RTP datagram say
abbrev pub IsRtpReading : List ℕ → Result RtpValue RtpFault → Type 0
IsRtpReading octets (Ok head) = IsRtpHead octets head
IsRtpReading octets (Err fault) = IsRtpFault octets fault

-- Any octets say something,
abbrev pub IsTotal : {A : Type 0} → (List ℕ → A → Type 0) → Type 0
IsTotal {A = A} Says = (octets : List ℕ) → (reading : A) × Says octets reading

-- and no two things.
abbrev pub IsUnique : {A : Type 0} → (List ℕ → A → Type 0) → Type 0
IsUnique {A = A} Says = (octets : List ℕ) (one other : A) → Says octets one → Says octets other → one ≡ other

-- ---- Events

-- What a host tells a participant, with the octets of a datagram as they came.
pub data EventValue : Type 0 where
  -- an RTCP datagram came
  rtcp_arrived : (moment peer word : ℕ) (octets : List ℕ) → EventValue
  -- an RTP datagram came
  rtp_arrived : (moment peer word : ℕ) (octets : List ℕ) → EventValue
  -- the host sent an RTP packet with this timestamp and so many octets of payload
  packet_sent : (moment timestamp octets : ℕ) → EventValue
  -- the host asked whether a report is due, and gave two random words
  time_passed : (moment first_word second_word : ℕ) → EventValue
  -- the host asked the participant to leave, and gave a random word
  leave_asked : (moment word : ℕ) → EventValue
  -- the host gave other settings
  settings_given : (moment : ℕ) (settings : SettingsValue) → EventValue
  -- the host said that another source is gone
  forget_asked : (moment ssrc : ℕ) → EventValue

-- The act of an event: what the octets of a datagram say stands in it.
abbrev pub act_of : EventValue → Act
act_of (rtcp_arrived moment peer word octets) = rtcp_came moment peer word octets (rtcp_in octets)
act_of (rtp_arrived moment peer word octets) = rtp_came moment peer word (rtp_in octets)
act_of (packet_sent moment timestamp octets) = rtp_sent moment timestamp octets
act_of (time_passed moment first_word second_word) = ticked moment first_word second_word
act_of (leave_asked moment word) = left moment word
act_of (settings_given moment settings) = configured moment settings
act_of (forget_asked moment ssrc) = forgotten moment ssrc

abbrev pub IsActOfEvent : EventValue → Act → Type 0
IsActOfEvent event act = act ≡ act_of event

pub record OutValue : Type 0 where
  pub kind : OutKind
  pub octets : List ℕ

-- What is answered to an act that is taken: a compound to send, if there is one; the members and senders, with the
-- participant among them; the places of the table that are taken; the moment to ask again; the new identifier, where
-- the call changed it; and whether the call changed who of the others is a member, or who of them sends.
pub record StepValue : Type 0 where
  pub out : Option OutValue
  pub members : ℕ
  pub senders : ℕ
  pub entries : ℕ
  pub next : Option ℕ
  pub changed : Option ℕ
  pub others_changed : Bool

abbrev pub AnswerValue : Type 0
AnswerValue = Result StepValue Refusal

abbrev pub answer_unless : Option Refusal → StepValue → AnswerValue
answer_unless None step = Ok step
answer_unless (Some refusal) step = Err refusal

abbrev pub clock_value : Clock → ClockValue
clock_value clock = record { payload_type = clock.payload_type; rate = clock.rate }

abbrev pub settings_value : Settings → SettingsValue
settings_value settings = record {
  sender_bw = settings.sender_bw;
  receiver_bw = settings.receiver_bw;
  rate = settings.rate;
  clocks = map clock_value settings.clocks.items;
  ntp_base = settings.ntp_base;
  extras = map item_value settings.extras.items;
}

-- What a participant is told by an event. What the octets of a datagram say stands in it.
abbrev pub act_told : Event → Act
act_told (ArriveRtcp now peer word bytes) = arrived now peer word (rtcp (length bytes.now) (rtcp_in bytes.now))
act_told (ArriveRtp now peer word bytes) = arrived now peer word (rtp (rtp_in bytes.now))
act_told (SentRtp now timestamp octets) = rtp_sent now timestamp octets
act_told (Tick now first_word second_word) = ticked now first_word second_word
act_told (Leave now word) = left now word
act_told (Configure now settings) = configured now (settings_value settings.now)
act_told (Forget now ssrc) = forgotten now ssrc
