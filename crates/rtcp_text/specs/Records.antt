-- A record of a session: what a clause sees of what writes it.
use Rattle.std.specs.Prelude.{◌≡◌, ℕ, ◌==◌, ◌||◌, not, Bool, List, [], ◌∷◌, ◌++◌, Option}
use Rattle.std.specs.Io.KnownBytes.{Appends}
use Rattle.rtcp_engine.specs.answers.Acts.{EventValue}
use Rattle.rtcp_text.specs.declared.record.Recorder.{Recorder}
use Rattle.rtcp_text.specs.Counted.{failures_of, inner_of}
use Rattle.rtcp_text.specs.EventLines.{event_text}

-- the line of an event, with its line feed
abbrev pub event_line : EventValue → List ℕ
event_line event = event_text event ++ 10 ∷ []

-- A call of the writer failed, or memory was refused.
abbrev pub has_ended : {W : Type 0} → Recorder W → Bool
has_ended recorder = recorder.refused || not (failures_of recorder.writer == 0)

-- what the writer holds, where that is known
abbrev pub held_by : {W : Type 0} → (W → Option (List ℕ)) → Recorder W → Option (List ℕ)
held_by contents recorder = contents (inner_of recorder.writer)

-- What the writer holds grows by a prefix of a line.
abbrev pub GrowsByPrefix : Option (List ℕ) → Option (List ℕ) → List ℕ → Type 0
GrowsByPrefix held holds line = (prefix : List ℕ) × (more : List ℕ) × (line ≡ prefix ++ more)
    × Appends held holds prefix
