-- When an alarm ends a session: too much of a source is lost, or no RTP packet comes any more. Moments are in
-- microseconds since the session began, and fractions lost in 1/256, as report blocks have them (RFC 3550, 6.4.1).
use Rattle.std.specs.Prelude.{◌≡◌, ℕ, ◌*◌, ◌-◌, nat_lt, nat_le, Bool, true, false, List, if◌then◌else◌, Option, Some, None, is_some, option_map, Ok, Err}
use Rattle.std.specs.List.{find}
use Rattle.std.specs.Option.{option_or}
use Rattle.rtcp_source.specs.LastBlocks.{LastBlockValue}
use Rattle.rtcp_members.specs.Listings.{StateValue}
use Rattle.rtcp_engine.specs.answers.Acts.{EventValue, rtcp_arrived, rtp_arrived, packet_sent, time_passed, leave_asked, settings_given, forget_asked}
use Rattle.rtcp_engine.specs.answers.Histories.{History, life_at, setup_at}
use Rattle.rtcp_engine.specs.answers.Lives.{WalksInLife}
use Rattle.rtcp_guarded.specs.Guarded.{GuardedAnswer}
use Rattle.rtcp_alarm.specs.declared.alarms.Alarm.{Alarm}
use Rattle.rtcp_alarm.specs.declared.alarms.Alarm.TheVariants.{Loss, Silence}
use Rattle.rtcp_alarm.specs.declared.alarms.AlarmLimits.{AlarmLimits}
use Rattle.rtcp_alarm.specs.declared.alarms.Raised.{Raised}

-- What a session comes to with an event: its answer, and what the participant was told up to it.
pub record Observation : Type 0 where
  pub event : EventValue
  pub answer : GuardedAnswer
  pub history : History

abbrev pub observation : EventValue → GuardedAnswer → History → Observation
observation event answer history = record { event = event; answer = answer; history = history }

abbrev pub moment_of_event : EventValue → ℕ
moment_of_event (rtcp_arrived moment peer word octets) = moment
moment_of_event (rtp_arrived moment peer word octets) = moment
moment_of_event (packet_sent moment timestamp octets) = moment
moment_of_event (time_passed moment first_word second_word) = moment
moment_of_event (leave_asked moment word) = moment
moment_of_event (settings_given moment settings) = moment
moment_of_event (forget_asked moment ssrc) = moment

-- ---- Loss

-- the fraction lost by a report block: nothing where none was made
abbrev pub fraction_by : Option LastBlockValue → ℕ
fraction_by None = 0
fraction_by (Some block) = block.fraction

-- the fraction of its packets that a source lost by its last report block
abbrev pub fraction_of : StateValue → ℕ
fraction_of state = fraction_by state.last_block

-- whether a fraction is more than so many per cent
abbrev pub is_above : (limit fraction : ℕ) → Bool
is_above limit fraction = nat_lt (limit * 256) (fraction * 100)

abbrev pub loses : (limit : ℕ) → StateValue → Bool
loses limit state = is_above limit (fraction_of state)

abbrev pub loss_of : StateValue → Alarm
loss_of state = Loss state.ssrc (fraction_of state)

-- the alarm of the first of these sources that lost more than so many per cent
abbrev pub loss_among : (limit : ℕ) → List StateValue → Option Alarm
loss_among limit states = option_map loss_of (find (loses limit) states)

-- The alarm of the first source that did, of those that the participant tells of, by rising SSRC.
pub record IsFirstLoss (limit : ℕ) (history : History) (loss : Option Alarm) : Type 0 where
  pub states : List StateValue
  pub walk : WalksInLife (setup_at history) (life_at history) states
  pub first : loss ≡ loss_among limit states

-- whether a compound goes out with an answer
abbrev pub hands_out : GuardedAnswer → Bool
hands_out (Ok step) = is_some step.out
hands_out (Err untaken) = false

-- Report blocks are made for a compound: so loss is looked for where one goes out, if it has a limit.
abbrev pub IsLoss : (limit : Option ℕ) → (goes_out : Bool) → History → (loss : Option Alarm) → Type 0
IsLoss None goes_out history loss = loss ≡ None
IsLoss (Some limit) false history loss = loss ≡ None
IsLoss (Some limit) true history loss = IsFirstLoss limit history loss

-- ---- Silence

-- the moment of the last RTP packet that was taken, after an event
abbrev pub heard_after : EventValue → GuardedAnswer → (heard : ℕ) → ℕ
heard_after (rtp_arrived moment peer word octets) (Ok step) heard = moment
heard_after event answer heard = heard

-- whether so many seconds have passed since a moment
abbrev pub has_passed : (seconds since now : ℕ) → Bool
has_passed seconds since now = nat_le (seconds * 1000000) (now - since)

abbrev pub silence_since : (limit : Option ℕ) → (heard now : ℕ) → Option Alarm
silence_since None heard now = None
silence_since (Some seconds) heard now = if has_passed seconds heard now then Some Silence else None

-- ---- Alarms

-- whether the participant was asked to leave, after an event
abbrev pub left_after : EventValue → GuardedAnswer → (left : Bool) → Bool
left_after (leave_asked moment word) (Ok step) left = true
left_after event answer left = left

-- What alarms go by beside an event, up to it and with it.
pub record Watch : Type 0 where
  pub limits : AlarmLimits
  -- the moment of the last RTP packet that was taken, or 0
  pub heard : ℕ
  -- whether the participant was asked to leave
  pub left : Bool

-- Of both alarms that of a loss comes.
pub record IsAlarmOf (watch : Watch) (seen : Observation) (alarm : Option Alarm) : Type 0 where
  pub loss : Option Alarm
  pub lost : IsLoss watch.limits.loss (hands_out seen.answer) seen.history loss
  pub first : alarm ≡ option_or loss (silence_since watch.limits.silence watch.heard (moment_of_event seen.event))

-- No alarm comes from the leave on.
abbrev pub IsAlarmUnless : (left : Bool) → Watch → Observation → (alarm : Option Alarm) → Type 0
IsAlarmUnless true watch seen alarm = alarm ≡ None
IsAlarmUnless false watch seen alarm = IsAlarmOf watch seen alarm

abbrev pub IsAlarm : Watch → Observation → (alarm : Option Alarm) → Type 0
IsAlarm watch seen alarm = IsAlarmUnless watch.left watch seen alarm

abbrev pub raised_at : (moment : ℕ) → Alarm → Raised
raised_at moment alarm = record { moment = moment; alarm = alarm }

-- What is raised after an event, by what was raised before it: the first alarm stays.
abbrev pub Raises : Watch → Observation → (before after : Option Raised) → Type 0
Raises watch seen (Some raised) after = after ≡ Some raised
Raises watch seen None after =
    (alarm : Option Alarm) × IsAlarm watch seen alarm
    × (after ≡ option_map (raised_at (moment_of_event seen.event)) alarm)
