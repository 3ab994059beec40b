-- A session over a link: which call comes next, and what the participant is told, call by call. Moments are in
-- microseconds; lists of acts and of calls are newest first.
use Rattle.std.specs.Prelude.{◌≡◌, ℕ, zero, suc, ◌==◌, if◌then◌else◌, Bool, true, false, List, [], ◌∷◌, Option, Some, None, Result, Ok, Err}
use Rattle.rand_core.specs.Stream.{Stream, next_u32}
use Rattle.rtcp_wire.specs.declared.fault.WireFault.{WireFault}
use Rattle.rtcp_wire.specs.declared.rtp.fault.RtpFault.{RtpFault}
use Rattle.rtcp_wire.specs.Values.{RtcpPacket, RtpValue}
use Rattle.rtcp_engine.specs.answers.Acts.{Act, rtcp_came, rtp_came, rtp_sent, ticked, left, configured, forgotten, IsReading, IsRtpReading, EventValue, rtcp_arrived, rtp_arrived, packet_sent, time_passed, leave_asked, settings_given, forget_asked, OutValue}
use Rattle.rtcp_engine.specs.answers.Histories.{History}
use Rattle.rtcp_guarded.specs.Guarded.{GuardedAnswer}
use Rattle.rtcp_serve.specs.Served.{Served, alone, answer_for, followed_for, next_for}
use Rattle.rtcp_serve.specs.declared.link.Port.{Port}
use Rattle.rtcp_serve.specs.declared.link.Port.TheVariants.{Rtcp as RtcpPort, Rtp as RtpPort}
use Rattle.rtcp_serve.specs.declared.serving.Cause.{Cause}
use Rattle.rtcp_serve.specs.declared.serving.Cause.TheVariants.{Done, LinkDown, Limit}
use Rattle.rtcp_serve.specs.declared.serving.tally.Tally.{Tally}
use Rattle.rtcp_serve.specs.Tallies.{ends_session, no_calls, with_arrival, with_datagram, with_failed_receive, with_moment, with_send, with_silence}
use Rattle.rtcp_serve.specs.Endings.{Pause, pause}
use Rattle.rtcp_serve.specs.Links.{Heard, datagram, silence, failure, Call, clock_read, port_heard, compound_sent}
use Rattle.rtcp_serve.specs.Observers.{Notice, event_told, send_tried, telling}

-- ---- Readings

-- what datagrams say, by their octets
pub record Reader : Type 0 where
  pub rtcp : List ℕ → Result (List RtcpPacket) WireFault
  pub rtp : List ℕ → Result RtpValue RtpFault

-- It reads as the grammars of RTCP and RTP have it. There is exactly one such reader (law `there_is_one_reader`).
pub record IsReader (reader : Reader) : Type 0 where
  pub rtcp : (octets : List ℕ) → IsReading octets (reader.rtcp octets)
  pub rtp : (octets : List ℕ) → IsRtpReading octets (reader.rtp octets)

-- the act of an event, by what a reader finds in its octets
abbrev pub act_in : Reader → EventValue → Act
act_in reader (rtcp_arrived moment peer word octets) = rtcp_came moment peer word octets (reader.rtcp octets)
act_in reader (rtp_arrived moment peer word octets) = rtp_came moment peer word (reader.rtp octets)
act_in reader (packet_sent moment timestamp octets) = rtp_sent moment timestamp octets
act_in reader (time_passed moment first_word second_word) = ticked moment first_word second_word
act_in reader (leave_asked moment word) = left moment word
act_in reader (settings_given moment settings) = configured moment settings
act_in reader (forget_asked moment ssrc) = forgotten moment ssrc

-- ---- Where a session stands

-- which call of the link comes next
pub data Stage : Type 0 where
  -- none is under way: a turn comes next, or the leave, or the end
  resting : Stage
  -- a turn begins, with its moment
  beginning : Stage
  -- a port is listened to
  hearing : Port → Stage
  -- both ports were, and the moment of the tick comes next
  deciding : Stage
  -- A compound is to be sent, which an answer handed out that changed the identifier or did not. Then another stage
  -- comes.
  sending : (out : OutValue) (changed : Option ℕ) (next : Stage) → Stage
  ended : Cause → Stage

pub record SessionState : Type 0 where
  -- what the participant was told, alone or with its guard
  pub history : Served
  -- what its observer was told in this session: all events with their answers, refused ones too, and the sends
  pub notices : List Notice
  -- the random words that are left
  pub words : Stream
  -- the counts, and the greatest moment so far
  pub tally : Tally
  -- the turns that are left, before the leave or after it
  pub turns : ℕ
  -- whether the leave was asked for
  pub leaving : Bool
  -- the pauses before its turns and before the leave, newest first
  pub pauses : List Pause
  pub stage : Stage

abbrev pub at_stage : Stage → SessionState → SessionState
at_stage stage s = record s { stage = stage }

abbrev pub with_tally : Tally → SessionState → SessionState
with_tally tally s = record s { tally = tally }

abbrev pub with_words : Stream → SessionState → SessionState
with_words words s = record s { words = words }

abbrev pub with_turns : (turns : ℕ) → (leaving : Bool) → SessionState → SessionState
with_turns turns leaving s = record s { turns = turns; leaving = leaving }

-- a pause, at the greatest moment so far
abbrev pub paused : (is_over : Bool) → SessionState → SessionState
paused is_over s = record s { pauses = pause s.leaving s.tally.moment is_over ∷ s.pauses }

-- the observer takes a notice
abbrev pub noticed : Notice → SessionState → SessionState
noticed notice s = record s { notices = notice ∷ s.notices }

-- The participant is told an event, and its observer is given that with the answer.
abbrev pub told_event : Reader → EventValue → SessionState → SessionState
told_event reader event s = let act = act_in reader event in
    record s {
      history = followed_for s.history act;
      notices = event_told (telling event (answer_for s.history act)) ∷ s.notices;
    }

-- ---- Answers

abbrev pub stage_after_step : (next : Stage) → (changed : Option ℕ) → Option OutValue → Stage
stage_after_step next changed None = next
stage_after_step next changed (Some out) = sending out changed next

-- The compound that an answer hands out goes out first, and then comes `next`. A limit ends the session, and another
-- refusal leads to `refused`.
abbrev pub stage_to_send : (next refused : Stage) → GuardedAnswer → Stage
stage_to_send next refused (Ok step) = stage_after_step next step.changed step.out
stage_to_send next refused (Err untaken) = if ends_session untaken then ended Limit else refused

-- ---- Arrivals

abbrev pub arrived : Reader → (next : Stage) → EventValue → SessionState → SessionState
arrived reader next event s = let answer = answer_for s.history (act_in reader event) in
    at_stage (stage_to_send next next answer) (with_tally (with_arrival answer s.tally) (told_event reader event s))

-- A word is drawn for a datagram, and the participant is told that it came.
abbrev pub came_with : Reader → (event_of : (word : ℕ) → EventValue) → (next : Stage) → (word : ℕ × Stream)
    → SessionState → SessionState
came_with reader event_of next word s =
    arrived reader next (event_of word.0) (with_words word.1 (with_tally (with_datagram s.tally) s))

-- the event of a datagram that came to a port
abbrev pub event_at : Port → (moment peer word : ℕ) → List ℕ → EventValue
event_at RtcpPort moment peer word octets = rtcp_arrived moment peer word octets
event_at RtpPort moment peer word octets = rtp_arrived moment peer word octets

-- what comes once a port was listened to
abbrev pub after_port : Port → Stage
after_port RtcpPort = hearing RtpPort
after_port RtpPort = deciding

abbrev pub heard_at : Reader → Port → Heard → SessionState → SessionState
heard_at reader port (datagram peer octets) s =
    came_with reader (λ word. event_at port s.tally.moment peer word octets) (after_port port) (next_u32 s.words) s
heard_at reader port silence s = at_stage (after_port port) (with_tally (with_silence s.tally) s)
-- the 64th failed receive in a row ends the session
heard_at reader port failure s =
    at_stage (if suc s.tally.failures == 64 then ended LinkDown else after_port port)
    (with_tally (with_failed_receive s.tally) s)

-- ---- Ticks and the leave

abbrev pub asked : Reader → (refused : Stage) → EventValue → SessionState → SessionState
asked reader refused event s =
    at_stage (stage_to_send resting refused (answer_for s.history (act_in reader event))) (told_event reader event s)

-- Two words are drawn, and the participant is told that time has passed.
abbrev pub ticked_with : Reader → (first second : ℕ × Stream) → SessionState → SessionState
ticked_with reader first second s =
    asked reader resting (time_passed s.tally.moment first.0 second.0) (with_words second.1 s)

abbrev pub ticked_now : Reader → SessionState → SessionState
ticked_now reader s = let first = next_u32 s.words in ticked_with reader first (next_u32 first.1) s

-- A word is drawn, and the participant is asked to leave at the greatest moment so far. As many turns again are
-- left then.
abbrev pub left_with : Reader → (total : ℕ) → (word : ℕ × Stream) → SessionState → SessionState
left_with reader total word s =
    asked reader (ended Done) (leave_asked s.tally.moment word.0)
    (with_turns total true (with_words word.1 (paused true s)))

-- ---- Turns

-- A turn begins where the participant is still there, which has a moment to be asked at, and one is left.
abbrev pub turn_by : (next : Option ℕ) → (turns : ℕ) → (otherwise s : SessionState) → SessionState
turn_by None turns otherwise s = at_stage (ended Done) s
turn_by (Some moment) zero otherwise s = otherwise
turn_by (Some moment) (suc turns) otherwise s = at_stage beginning (with_turns turns s.leaving (paused false s))

abbrev pub turn_or : (otherwise s : SessionState) → SessionState
turn_or otherwise s = turn_by (next_for s.history) s.turns otherwise s

-- where nothing is under way, what comes then
abbrev pub rested : (next : SessionState) → Stage → SessionState → SessionState
rested next resting s = next
rested next stage s = s

-- What comes next, after the leave.
abbrev pub gone_on : SessionState → SessionState
gone_on s = rested (turn_or (at_stage (ended Done) s) s) s.stage s

-- what comes after the last turn: the leave, or after that the end
abbrev pub after_turns : Reader → (total : ℕ) → SessionState → SessionState
after_turns reader total s =
    if s.leaving then at_stage (ended Done) s else gone_on (left_with reader total (next_u32 s.words) s)

-- What comes next, of so many turns before the leave and as many after it.
abbrev pub going : Reader → (total : ℕ) → SessionState → SessionState
going reader total s = rested (turn_or (after_turns reader total s) s) s.stage s

-- ---- Calls

abbrev pub ReadsClock : Stage → Type 0
ReadsClock beginning = Unit {0}
ReadsClock deciding = Unit {0}
ReadsClock stage = ⊥

-- each port in its turn, for 20,000 microseconds at most
abbrev pub Hears : Port → (wait : ℕ) → Stage → Type 0
Hears port wait (hearing next) = (port ≡ next) × (wait ≡ 20000)
Hears port wait stage = ⊥

abbrev pub Sends : (octets : List ℕ) → Stage → Type 0
Sends octets (sending out changed next) = octets ≡ out.octets
Sends octets stage = ⊥

-- a call is the one that comes at a stage
abbrev pub Fits : Call → Stage → Type 0
Fits (clock_read moment) stage = ReadsClock stage
Fits (port_heard port wait what) stage = Hears port wait stage
Fits (compound_sent octets failed) stage = Sends octets stage

-- a turn begins with the moment, and it is taken again before the tick
abbrev pub after_clock : Reader → (moment : ℕ) → Stage → SessionState → SessionState
after_clock reader moment beginning s = at_stage (hearing RtcpPort) (with_tally (with_moment moment s.tally) s)
after_clock reader moment deciding s = ticked_now reader (with_tally (with_moment moment s.tally) s)
after_clock reader moment stage s = s

-- Whether or not sending it failed, a compound is sent once. The observer is then told which.
abbrev pub after_sending : (failed : Bool) → Stage → SessionState → SessionState
after_sending failed (sending out changed next) s =
    at_stage next (noticed (send_tried failed) (with_tally (with_send out.kind changed failed s.tally) s))
after_sending failed stage s = s

-- where a session stands after a call that fits
abbrev pub after_call : Reader → Call → SessionState → SessionState
after_call reader (clock_read moment) s = after_clock reader moment s.stage s
after_call reader (port_heard port wait what) s = heard_at reader port what s
after_call reader (compound_sent octets failed) s = after_sending failed s.stage s

-- where it stands after calls, from where it stood before them
abbrev pub after_calls : Reader → (total : ℕ) → SessionState → List Call → SessionState
after_calls reader total s [] = s
after_calls reader total s (call ∷ earlier) =
    after_call reader call (going reader total (after_calls reader total s earlier))

-- Each call was the one that came next.
abbrev pub AllFit : Reader → (total : ℕ) → SessionState → List Call → Type 0
AllFit reader total s [] = Unit {0}
AllFit reader total s (call ∷ earlier) =
    AllFit reader total s earlier × Fits call (going reader total (after_calls reader total s earlier)).stage

-- where a session stands before its first call
abbrev pub at_the_start_of : Served → Stream → (turns : ℕ) → SessionState
at_the_start_of history words turns = record {
  history = history;
  notices = [];
  words = words;
  tally = no_calls;
  turns = turns;
  leaving = false;
  pauses = [];
  stage = resting;
}

-- that of a participant alone
abbrev pub at_the_start : History → Stream → (turns : ℕ) → SessionState
at_the_start history words turns = at_the_start_of (alone history) words turns
