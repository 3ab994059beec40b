-- Worked examples: rows in cyclic turn.
use Rattle.std.proofs.Common.{◌≡◌, ℕ, List, [], ◌∷◌, map, Option, Some, None}
use Rattle.rtcp_members.specs.Tables.{new_entry}
use Rattle.rtcp_members.specs.Pending.{EntryRow, in_turn, first_ssrc, last_reported}

abbrev rows : List EntryRow
rows = (1, new_entry) ∷ (2, new_entry) ∷ (3, new_entry) ∷ []

abbrev turn_after : Option ℕ → List ℕ
turn_after last = map (λ row. row.0) (in_turn last rows)

record Turns : Type 0 where
  from_the_least : turn_after None ≡ 1 ∷ 2 ∷ 3 ∷ []
  after_one : turn_after (Some 1) ≡ 2 ∷ 3 ∷ 1 ∷ []
  after_two : turn_after (Some 2) ≡ 3 ∷ 1 ∷ 2 ∷ []
  after_the_greatest : turn_after (Some 9) ≡ 1 ∷ 2 ∷ 3 ∷ []
  next_after_two : first_ssrc (in_turn (Some 2) rows) ≡ Some 3
  none_reported : last_reported (Some 7) [] ≡ Some 7
  last_of_two : last_reported None ((3, new_entry) ∷ (1, new_entry) ∷ []) ≡ Some 1

turns : Turns
turns = search
