-- What a watcher of a session writes and keeps.
use Rattle.std.specs.Prelude.{◌≡◌, ◌⊎◌, ℕ, ◌/◌, nat_lt, Bool, true, false, if◌then◌else◌, List, [], ◌∷◌, ◌++◌, drop, Option, Some, None, IfSome, codes}
use Rattle.std.specs.Fmt.{decimal}
use Rattle.std.specs.Io.KnownBytes.{Appends}
use Rattle.std.specs.Str.{bytes_eq}
use Rattle.rtcp_engine.specs.answers.Acts.{EventValue}
use Rattle.rtcp_engine.specs.state.States.{ParticipantValue}
use Rattle.rtcp_guarded.specs.Guarded.{GuardedAnswer}
use Rattle.rtcp_serve.specs.Observers.{Notice, event_told, send_tried}
use Rattle.rtcp_text.specs.declared.fault.TextFault.{TextFault}
use Rattle.rtcp_text.specs.declared.fault.TextFault.TheVariants.{Memory, Write}
use Rattle.rtcp_json.specs.declared.watcher.JsonWatcher.{JsonWatcher}
use Rattle.rtcp_json.specs.JsonValues.{json_line}
use Rattle.rtcp_json.specs.SourceValues.{Listing, Lists, dated_json, listing_json}
use Rattle.rtcp_json.specs.ToldValues.{TellsInJson, moment_of_event, unsent_json}

-- ---- What a watcher knows

abbrev pub writer_of : {W : Type 0} → JsonWatcher W → W
writer_of watcher = watcher.writer

-- what the writer holds, where that is known
abbrev pub held_by : {W : Type 0} → (W → Option (List ℕ)) → JsonWatcher W → Option (List ℕ)
held_by contents watcher = contents (writer_of watcher)

-- the moment of the last event that it was told
abbrev pub moment_told : {W : Type 0} → JsonWatcher W → ℕ
moment_told watcher = watcher.moment

-- the first fault of what it was told
abbrev pub fault_of : {W : Type 0} → JsonWatcher W → Option TextFault
fault_of watcher = watcher.fault

-- the line of who was there that was written last, without its moment
abbrev pub rows_of : {W : Type 0} → JsonWatcher W → List ℕ
rows_of watcher = watcher.board.rows.items

-- the last second in which one was due
abbrev pub second_of : {W : Type 0} → JsonWatcher W → ℕ
second_of watcher = watcher.board.second

-- Why something is not written: a call of the writer failed, or memory was refused.
abbrev pub IsOutFault : TextFault → Type 0
IsOutFault fault = (fault ≡ Write) ⊎ (fault ≡ Memory)

-- ---- Who is there, once a second

-- It is due with the first event of a second after the last one in which it was.
abbrev pub is_due : (second moment : ℕ) → Bool
is_due second moment = nat_lt second (moment / 1000000)

abbrev pub second_after : (second moment : ℕ) → ℕ
second_after second moment = if is_due second moment then moment / 1000000 else second

-- the line of an object, with a moment before its other fields
abbrev pub dated_line : (moment : ℕ) → (line : List ℕ) → List ℕ
dated_line moment line = codes "{\"moment\":" ++ decimal moment ++ codes "," ++ drop 1 line

-- It is written where it is due and is not as it was written last.
abbrev pub news_text : (moment : ℕ) → (before after : List ℕ) → List ℕ
news_text moment before after = if bytes_eq after before then [] else dated_line moment after

-- who is there by a participant, and what is written of that, where it is due
abbrev pub NewsIf : (due : Bool) → ParticipantValue → (moment : ℕ) → (before after text : List ℕ) → Type 0
NewsIf false participant moment before after text = (after ≡ before) × (text ≡ [])
NewsIf true participant moment before after text =
    (listing : Listing) × Lists participant listing × (after ≡ json_line (listing_json listing))
    × (text ≡ (if bytes_eq after before then [] else json_line (dated_json moment listing)))

-- What is written of an event and its answer, by the participant after it: their line, and then who is there.
pub record Tells {W : Type 0} (contents : W → Option (List ℕ)) (event : EventValue) (answer : GuardedAnswer)
    (participant : ParticipantValue) (before after : JsonWatcher W) : Type 0 where
  pub line : List ℕ
  pub news : List ℕ
  pub tells : TellsInJson event answer line
  pub lists : NewsIf (is_due (second_of before) (moment_of_event event)) participant (moment_of_event event)
      (rows_of before) (rows_of after) news
  pub writes : Appends (held_by contents before) (held_by contents after) (line ++ news)
  pub second : second_of after ≡ second_after (second_of before) (moment_of_event event)

-- ---- Notices

-- the line of some who are there at a moment, or nothing
abbrev pub MayList : (moment : ℕ) → List ℕ → Type 0
MayList moment text = (text ≡ []) ⊎ ((listing : Listing) × (text ≡ json_line (dated_json moment listing)))

-- what is written of a notice, after an event of this moment
abbrev pub ShowsNotice : (moment : ℕ) → Notice → List ℕ → Type 0
ShowsNotice moment (event_told telling) text =
    (line : List ℕ) × (news : List ℕ) × TellsInJson telling.event telling.answer line
    × MayList (moment_of_event telling.event) news × (text ≡ line ++ news)
ShowsNotice moment (send_tried true) text = text ≡ json_line (unsent_json moment)
ShowsNotice moment (send_tried false) text = text ≡ []

-- the moment of the last event then
abbrev pub moment_after : (moment : ℕ) → Notice → ℕ
moment_after moment (event_told telling) = moment_of_event telling.event
moment_after moment (send_tried failed) = moment

-- A watcher took a notice. It has written what there is to write, or it has a fault. After its first fault it writes
-- nothing.
pub record Watches {W : Type 0} (contents : W → Option (List ℕ)) (notice : Notice) (before after : JsonWatcher W)
    : Type 0 where
  pub moment : moment_told after ≡ moment_after (moment_told before) notice
  pub writes : fault_of after ≡ None → (text : List ℕ) × ShowsNotice (moment_told before) notice text
      × Appends (held_by contents before) (held_by contents after) text
  pub lasting : (fault : TextFault) → fault_of before ≡ Some fault → fault_of after ≡ Some fault
  pub silent : (fault : TextFault) → fault_of before ≡ Some fault → writer_of after ≡ writer_of before
  pub fault : fault_of before ≡ None → IfSome (fault_of after) IsOutFault

-- ---- Sessions, by their notices, newest first

abbrev pub moment_after_all : (moment : ℕ) → List Notice → ℕ
moment_after_all moment [] = moment
moment_after_all moment (notice ∷ earlier) = moment_after (moment_after_all moment earlier) notice

-- the lines of all of them
abbrev pub ShowsNotices : (moment : ℕ) → List Notice → List ℕ → Type 0
ShowsNotices moment [] text = text ≡ []
ShowsNotices moment (notice ∷ earlier) text =
    (first : List ℕ) × (last : List ℕ) × ShowsNotices moment earlier first
    × ShowsNotice (moment_after_all moment earlier) notice last × (text ≡ first ++ last)
