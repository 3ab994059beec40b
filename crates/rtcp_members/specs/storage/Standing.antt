-- Up to which moments a check leaves entries as they are.
use Rattle.std.specs.Prelude.{ℕ, ◌≡◌, ◌≤◌, ◌+◌, ◌==◌, ◌&&◌, not, Bool, true, List, All, Option, Some, None}
use Rattle.rtcp_wire.specs.declared.fact.Fact.{Fact}
use Rattle.rtcp_wire.specs.declared.fact.Fact.TheVariants.{Heard, Told, Named, Gone, Media}
use Rattle.rtcp_members.specs.declared.bounds.Bounds.{Bounds}
use Rattle.rtcp_members.specs.declared.counts.Counts.{Counts}
use Rattle.rtcp_members.specs.declared.entry.Entry.{Entry}
use Rattle.rtcp_members.specs.Entries.{EntryValue, is_member, is_sender}
use Rattle.rtcp_members.specs.Pending.{is_due}
use Rattle.rtcp_members.specs.ListViews.{entry_value, tally_of, weight_of}
use Rattle.rtcp_members.specs.Traces.{Horizons}
use Rattle.rtcp_members.specs.storage.SortedViews.{IsSortedTable}

-- The mark is no earlier than its bound, and without one the last counted packet.
abbrev pub MarkStandsBy : Bounds → (mark sending : Option ℕ) → Type 0
MarkStandsBy bounds None None = Unit {0}
MarkStandsBy bounds None (Some sent) = bounds.idle ≤ sent
MarkStandsBy bounds (Some mark) sending = bounds.gone ≤ mark

-- No moment of an entry that a check goes by is earlier than its bound.
abbrev pub StandsBy : Bounds → EntryValue → Type 0
StandsBy bounds entry = (bounds.silent ≤ entry.sighting) × MarkStandsBy bounds entry.mark entry.sending

abbrev pub AllStandBy : Bounds → List Entry → Type 0
AllStandBy bounds entries = All (λ (e : Entry). StandsBy bounds (entry_value e)) entries

-- The bounds lie no later than the moment of a fact, as far as it can change an entry's.
abbrev pub IsUpTo : Bounds → Fact → (moment : ℕ) → Type 0
IsUpTo bounds (Heard ssrc) moment = bounds.silent ≤ moment
IsUpTo bounds (Told ssrc ntp rtp) moment = bounds.silent ≤ moment
IsUpTo bounds (Named ssrc) moment = bounds.silent ≤ moment
IsUpTo bounds (Gone ssrc) moment = bounds.gone ≤ moment
IsUpTo bounds (Media ssrc seq timestamp octets rate) moment = (bounds.silent ≤ moment) × (bounds.idle ≤ moment)

-- No bound of the one is later than the other's.
pub record IsNoLater (one other : Bounds) : Type 0 where
  pub silent : one.silent ≤ other.silent
  pub idle : one.idle ≤ other.idle
  pub gone : one.gone ≤ other.gone

-- Bounds by which entries stand, and which these horizons do not pass.
pub record RulesOut (horizons : Horizons) (entries : List Entry) (bounds : Bounds) : Type 0 where
  pub stand : AllStandBy bounds entries
  pub within : (horizons.silent ≤ bounds.silent) × (horizons.idle ≤ bounds.idle) × (horizons.gone ≤ bounds.gone)

-- The counts of entries.
pub record AreCounts (counts : Counts) (entries : List Entry) : Type 0 where
  pub members : counts.members ≡ tally_of is_member entries
  pub senders : counts.senders ≡ tally_of is_sender entries
  pub due : counts.due ≡ tally_of is_due entries

-- The members or the senders are not as many as before.
abbrev pub roles_differ : (before after : Counts) → Bool
roles_differ before after = not ((after.members == before.members) && (after.senders == before.senders))

-- An entry counts among these.
pub record IsAmong (entry : Entry) (counts : Counts) : Type 0 where
  pub members : weight_of is_member entry ≤ counts.members
  pub senders : weight_of is_sender entry ≤ counts.senders
  pub due : weight_of is_due entry ≤ counts.due

-- Counts with one entry more.
pub record IsOneMore (entry : Entry) (fewer more : Counts) : Type 0 where
  pub members : more.members ≡ weight_of is_member entry + fewer.members
  pub senders : more.senders ≡ weight_of is_sender entry + fewer.senders
  pub due : more.due ≡ weight_of is_due entry + fewer.due

-- Counts before and after an entry became another.
pub record AreRecounted (entry changed : Entry) (counts next : Counts) : Type 0 where
  pub members : next.members + weight_of is_member entry ≡ counts.members + weight_of is_member changed
  pub senders : next.senders + weight_of is_sender entry ≡ counts.senders + weight_of is_sender changed
  pub due : next.due + weight_of is_due entry ≡ counts.due + weight_of is_due changed

-- Counts and bounds of entries.
pub record IsMeasured (counts : Counts) (bounds : Bounds) (entries : List Entry) : Type 0 where
  pub counted : AreCounts counts entries
  pub stand : AllStandBy bounds entries

-- What holds of a sorted table: its list, the room that it has for its capacity, and its bounds.
pub record IsKept (capacity room : ℕ) (bounds : Bounds) (entries : List Entry) : Type 0 where
  pub sorted : IsSortedTable capacity entries
  pub roomy : capacity ≤ room
  pub standing : AllStandBy bounds entries

-- A fact that surely leaves an entry as it is counted: as a member, as a sender, and as one of which a block
-- is due.
abbrev pub KeepsCounts : Fact → EntryValue → Type 0
KeepsCounts (Heard ssrc) entry = Unit {0}
KeepsCounts (Told ssrc ntp rtp) entry = Unit {0}
KeepsCounts (Named ssrc) entry = entry.valid ≡ true
KeepsCounts (Gone ssrc) entry = ⊥
KeepsCounts (Media ssrc seq timestamp octets rate) entry = (is_sender entry ≡ true) × (is_due entry ≡ true)
