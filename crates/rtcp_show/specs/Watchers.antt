-- What a watcher and its printer keep of a session, and what they write of an event.
use Rattle.std.specs.Prelude.{◌≡◌, ◌⊎◌, ℕ, ◌/◌, ◌%◌, ◌^◌, Bool, true, false, List, [], ◌∷◌, ◌++◌, if◌then◌else◌, nat_lt, map, Option}
use Rattle.std.specs.Io.KnownBytes.{Appends}
use Rattle.std.specs.Str.{bytes_eq}
use Rattle.rtcp_listing.specs.Differences.{ListedValue, listed_of}
use Rattle.rtcp_members.specs.ListViews.{state_value}
use Rattle.rtcp_members.specs.Listings.{StateValue}
use Rattle.rtcp_engine.specs.answers.Acts.{EventValue}
use Rattle.rtcp_engine.specs.answers.Histories.{History, life_at, setup_at}
use Rattle.rtcp_engine.specs.answers.Lives.{WalksInLife, members_in_life, senders_in_life}
use Rattle.rtcp_guarded.specs.Guarded.{GuardedAnswer}
use Rattle.rtcp_clock.specs.Moments.{ntp_moment}
use Rattle.rtcp_wire.specs.Values.{RtcpPacket}
use Rattle.rtcp_text.specs.declared.fault.TextFault.{TextFault}
use Rattle.rtcp_text.specs.declared.fault.TextFault.TheVariants.{Memory, Write}
use Rattle.rtcp_show.specs.declared.board.Board.{Board}
use Rattle.rtcp_show.specs.declared.changes.Roles.{Roles}
use Rattle.rtcp_show.specs.declared.flows.Flow.{Flow}
use Rattle.rtcp_show.specs.declared.page.Page.{Page}
use Rattle.rtcp_show.specs.declared.printer.Printer.{Printer}
use Rattle.rtcp_show.specs.declared.terms.Terms.{Terms}
use Rattle.rtcp_show.specs.declared.watcher.Watcher.{Watcher}
use Rattle.rtcp_show.specs.Changes.{KeepsListing, ShowsChanges, lists_anew, shows_others}
use Rattle.rtcp_show.specs.Flows.{IsMediaOf, elapsed_since, flow_in, flow_looked, flow_after_event, peer_of_event}
use Rattle.rtcp_show.specs.Lines.{HasPackets, ShowsBothBy, moment_of_event}
use Rattle.rtcp_show.specs.Listings.{lists, state_at}
use Rattle.rtcp_show.specs.Notes.{NoteValue, kept_if, note_after_event, noted_in}
use Rattle.rtcp_show.specs.ShortRows.{rows_text}
use Rattle.rtcp_show.specs.Times.{told_by}
use Rattle.rtcp_show.specs.Wordings.{shown_in}

-- ---- Of a page

-- what the writer of a page holds, where that is known
abbrev pub held_on : {W : Type 0} → (W → Option (List ℕ)) → Page W → Option (List ℕ)
held_on contents page = contents page.writer

-- Why something is not written: a call of the writer failed, or memory was refused.
abbrev pub IsOutFault : TextFault → Type 0
IsOutFault fault = (fault ≡ Write) ⊎ (fault ≡ Memory)

-- ---- Of the roles

-- the sources, as they were after the last event that changed a role
abbrev pub listed_in : Roles → List ListedValue
listed_in roles = map (λ state. listed_of (state_value state)) roles.listing.items

-- ---- Of the rows

-- The rows are due with the first event of a second after the last one in which they were.
abbrev pub is_due : (second moment : ℕ) → Bool
is_due second moment = nat_lt second (moment / 1000000)

abbrev pub second_after : (second moment : ℕ) → ℕ
second_after second moment = if is_due second moment then moment / 1000000 else second

-- Who is there after a history, as a printer of these terms writes it, with these notes and flows of them.
pub record IsThere (terms : Terms) (history : History) (noted : ℕ → NoteValue) (flowing : ℕ → Flow)
    (rows : List ℕ) : Type 0 where
  pub states : List StateValue
  pub walk : WalksInLife (setup_at history) (life_at history) states
  pub says : rows ≡ rows_text terms.rows (told_by terms.clock) (members_in_life (setup_at history) (life_at history))
      (senders_in_life (setup_at history) (life_at history)) noted flowing states

-- The rows that are kept: where they are due, those of who is there after a history, and else those of before.
abbrev pub KeepsRows : Terms → (due : Bool) → History → (board : Board) → (before after : List ℕ) → Type 0
KeepsRows terms false history board before after = after ≡ before
KeepsRows terms true history board before after =
    IsThere terms history (noted_in board.notes) (flow_in board.flows) after

-- They are written where they are due and are not those that were written last, with the time and a space (32) before
-- them.
abbrev pub news_text : (due : Bool) → (time : List ℕ) → (before after : List ℕ) → List ℕ
news_text false time before after = []
news_text true time before after = if bytes_eq after before then [] else time ++ 32 ∷ after

-- What is kept of each source where the rows are due: of those that are not listed nothing is.
pub record LooksAt (now : ℕ) (history : History) (before after : Board) : Type 0 where
  pub notes : (ssrc : ℕ) → noted_in after.notes ssrc ≡ kept_if (lists history ssrc) (noted_in before.notes ssrc)
  pub flows : (ssrc : ℕ) → flow_in after.flows ssrc
      ≡ flow_looked (elapsed_since before.looked now) (state_at history ssrc) (flow_in before.flows ssrc)
  pub looked : after.looked ≡ now

-- Where they are not, all is as it was.
pub record Stays (before after : Board) : Type 0 where
  pub notes : (ssrc : ℕ) → noted_in after.notes ssrc ≡ noted_in before.notes ssrc
  pub flows : (ssrc : ℕ) → flow_in after.flows ssrc ≡ flow_in before.flows ssrc
  pub looked : after.looked ≡ before.looked

abbrev pub LooksIf : (due : Bool) → (now : ℕ) → History → (before after : Board) → Type 0
LooksIf false now history before after = Stays before after
LooksIf true now history before after = LooksAt now history before after

-- ---- Of a printer

-- a moment as the middle 32 bits of its NTP timestamp (RFC 3550, 4)
abbrev pub arrival_at : (ntp_base moment : ℕ) → ℕ
arrival_at ntp_base moment = ntp_moment ntp_base moment / 65536 % 2 ^ 32

-- what a printer knows of the session from its start
abbrev pub terms_of : {W : Type 0} → Printer W → Terms
terms_of printer = printer.terms

-- how it writes a moment
abbrev pub time_told : {W : Type 0} → Printer W → (moment : ℕ) → List ℕ
time_told printer moment = told_by (terms_of printer).clock moment

abbrev pub writer_of : {W : Type 0} → Printer W → W
writer_of printer = printer.page.writer

-- what the writer holds, where that is known
abbrev pub held_by : {W : Type 0} → (W → Option (List ℕ)) → Printer W → Option (List ℕ)
held_by contents printer = contents (writer_of printer)

abbrev pub listing_of : {W : Type 0} → Printer W → List ListedValue
listing_of printer = listed_in printer.roles

-- the counts and rows that were written last
abbrev pub rows_of : {W : Type 0} → Printer W → List ℕ
rows_of printer = printer.board.rows.items

-- the last second in which they were due
abbrev pub second_of : {W : Type 0} → Printer W → ℕ
second_of printer = printer.board.second

-- the moment at which they were due last
abbrev pub looked_of : {W : Type 0} → Printer W → ℕ
looked_of printer = printer.board.looked

-- what is noted of a source, and how its packets come
abbrev pub noted_by : {W : Type 0} → Printer W → (ssrc : ℕ) → NoteValue
noted_by printer ssrc = noted_in printer.board.notes ssrc

abbrev pub flow_by : {W : Type 0} → Printer W → (ssrc : ℕ) → Flow
flow_by printer ssrc = flow_in printer.board.flows ssrc

-- The rows of an event are due.
abbrev pub is_due_at : {W : Type 0} → Printer W → EventValue → Bool
is_due_at printer event = is_due (second_of printer) (moment_of_event event)

-- What a printer writes of an event and its answer, and what it keeps, by the participant's history after it: the lines
-- of both, then those of sources whose roles changed, and then who is there.
pub record Watches {W : Type 0} (contents : W → Option (List ℕ)) (event : EventValue) (answer : GuardedAnswer)
    (history : History) (before after : Printer W) : Type 0 where
  pub lines : List ℕ
  pub changes : List ℕ
  pub terms : terms_of after ≡ terms_of before
  pub shows : ShowsBothBy (told_by (terms_of before).clock) (shown_in (terms_of before).wording) (terms_of before).to
      event answer lines
  pub tells : ShowsChanges (shows_others event answer) (time_told before (moment_of_event event)) history
      (listing_of before) changes
  pub writes : Appends (held_by contents before) (held_by contents after) (lines ++ (changes
      ++ news_text (is_due_at before event) (time_told before (moment_of_event event)) (rows_of before)
      (rows_of after)))
  pub listing : KeepsListing (lists_anew event answer) history (listing_of before) (listing_of after)
  pub rows : KeepsRows (terms_of before) (is_due_at before event) history after.board (rows_of before)
      (rows_of after)
  pub second : second_of after ≡ second_after (second_of before) (moment_of_event event)
  pub looked : looked_of after ≡ (if is_due_at before event then moment_of_event event else looked_of before)
  pub notes : (packets : List RtcpPacket) → HasPackets event answer packets → (ssrc : ℕ) →
      noted_by after ssrc ≡ note_after_event (is_due_at before event) (lists history ssrc)
      (arrival_at (terms_of before).ntp_base (moment_of_event event)) (setup_at history).ssrc packets ssrc
      (noted_by before ssrc)
  pub flows : (packets : List RtcpPacket) (media : Option ℕ) → HasPackets event answer packets →
      IsMediaOf event answer media → (ssrc : ℕ) →
      flow_by after ssrc ≡ flow_after_event (is_due_at before event)
      (elapsed_since (looked_of before) (moment_of_event event)) (state_at history ssrc) (peer_of_event event) packets
      media ssrc (flow_by before ssrc)

-- ---- Of a watcher

abbrev pub printer_of : {W : Type 0} → Watcher W → Printer W
printer_of watcher = watcher.printer

-- the moment of the last event that it was told as an observer
abbrev pub moment_told : {W : Type 0} → Watcher W → ℕ
moment_told watcher = watcher.moment

-- the first fault of what it was told as an observer
abbrev pub fault_of : {W : Type 0} → Watcher W → Option TextFault
fault_of watcher = watcher.fault
