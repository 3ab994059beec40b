-- Which steps of a session change who is a member, or who sends.
use Rattle.std.specs.Prelude.{ℕ, ◌≡◌, ◌==◌, ◌&&◌, ◌||◌, not, Bool, false, List, [], ◌∷◌, Option}
use Rattle.rtcp_wire.specs.declared.fact.Fact.{Fact}
use Rattle.rtcp_members.specs.Traces.{Horizons}
use Rattle.rtcp_members.specs.Entries.{EntryValue, is_member, is_sender, is_such}
use Rattle.rtcp_members.specs.Tables.{TableValue, after_fact, after_check, after_forgetting, members_in, senders_in}
pub use Rattle.rtcp_members.specs.Entries.{step_moves, moved_within}

-- Two entries of a source, if it has them, make it the same: no member, a member that does not send, or one that does.
abbrev pub IsSameRole : Option EntryValue → Option EntryValue → Type 0
IsSameRole before after =
    (is_such is_member before ≡ is_such is_member after) × (is_such is_sender before ≡ is_such is_sender after)

-- ---- By the table

-- the counts of one table are not those of the other
abbrev pub counts_differ : TableValue → TableValue → Bool
counts_differ before after = not ((members_in after == members_in before) && (senders_in after == senders_in before))

-- One of these facts does, which come one after the other.
abbrev pub facts_move : List Fact → (moment : ℕ) → TableValue → Bool
facts_move [] moment table = false
facts_move (fact ∷ facts) moment table =
    counts_differ table (after_fact fact moment table) || facts_move facts moment (after_fact fact moment table)

abbrev pub check_moves : Horizons → TableValue → Bool
check_moves horizons table = counts_differ table (after_check horizons table)

abbrev pub forgetting_moves : (ssrc : ℕ) → TableValue → Bool
forgetting_moves ssrc table = counts_differ table (after_forgetting ssrc table)
