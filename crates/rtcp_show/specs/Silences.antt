-- The line that says that nothing was heard, as `rtcp listen --show` writes it.
use Rattle.std.specs.Prelude.{ℕ, ◌&&◌, ◌||◌, not, nat_le, Bool, true, false, List, [], ◌∷◌, ◌++◌, if◌then◌else◌, Option, codes}
use Rattle.rtcp_engine.specs.answers.Acts.{EventValue, rtcp_arrived, rtp_arrived}
use Rattle.rtcp_text.specs.declared.fault.TextFault.{TextFault}
use Rattle.rtcp_show.specs.declared.silence.SilenceWatcher.{SilenceWatcher}
use Rattle.rtcp_show.specs.declared.times.Clock.{Clock}
use Rattle.rtcp_show.specs.Lines.{moment_of_event}
use Rattle.rtcp_show.specs.Watchers.{held_on}

-- whether a datagram came with an event
abbrev pub is_arrival : EventValue → Bool
is_arrival (rtcp_arrived moment peer word octets) = true
is_arrival (rtp_arrived moment peer word octets) = true
is_arrival event = false

-- whether an event comes once five seconds have passed
abbrev pub is_late : EventValue → Bool
is_late event = nat_le 5000000 (moment_of_event event)

-- Nothing is said any more once a datagram came, or the line was written.
abbrev pub is_over_after : (over : Bool) → EventValue → Bool
is_over_after over event = over || is_arrival event || is_late event

abbrev pub says_silence : (over : Bool) → EventValue → Bool
says_silence over event = not over && not (is_arrival event) && is_late event

-- The line, with the first event after five seconds in which no datagram came. `time` is its moment as it is written.
abbrev pub silence_text : (time : List ℕ) → List ℕ
silence_text time = time ++ codes " nothing heard yet" ++ 10 ∷ []

-- `told` is how a moment is written.
abbrev pub said_of_silence : (told : ℕ → List ℕ) → (over : Bool) → EventValue → List ℕ
said_of_silence told over event = if says_silence over event then silence_text (told (moment_of_event event)) else []

-- ---- Of a watcher

abbrev pub is_over : {W : Type 0} → SilenceWatcher W → Bool
is_over watcher = watcher.is_over

-- what its moments are written by
abbrev pub clock_in : {W : Type 0} → SilenceWatcher W → Clock
clock_in watcher = watcher.clock

abbrev pub fault_in : {W : Type 0} → SilenceWatcher W → Option TextFault
fault_in watcher = watcher.fault

-- what the writer holds, where that is known
abbrev pub held_in : {W : Type 0} → (W → Option (List ℕ)) → SilenceWatcher W → Option (List ℕ)
held_in contents watcher = held_on contents watcher.page
