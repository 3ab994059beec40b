-- The least SSRC of the rows that pass a test, whatever their order.
use Rattle.std.specs.Prelude.{ℕ, ◌&&◌, Bool, min, List, [], ◌∷◌, if◌then◌else◌, Option, Some, None, option_map}
use Rattle.rtcp_members.specs.Entries.{EntryValue}
use Rattle.rtcp_members.specs.Pending.{EntryRow, is_above, is_due}
use Rattle.rtcp_members.specs.Listings.{StateValue, state_of}

abbrev pub lesser_of : Option ℕ → Option ℕ → Option ℕ
lesser_of None b = b
lesser_of (Some a) None = Some a
lesser_of (Some a) (Some b) = Some (min a b)

abbrev pub least : (EntryRow → Bool) → List EntryRow → Option ℕ
least test [] = None
least test (row ∷ rows) = lesser_of (if test row then Some row.0 else None) (least test rows)

abbrev pub is_due_above : (last : Option ℕ) → EntryRow → Bool
is_due_above last row = is_due row.1 && is_above last row

-- what is told of a source, if it has this entry
abbrev pub state_for : (ssrc : ℕ) → Option EntryValue → Option StateValue
state_for ssrc entry = option_map (λ value. state_of (ssrc, value)) entry
