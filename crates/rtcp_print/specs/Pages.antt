-- A text in a room of the caller's octets.
use Rattle.std.specs.Prelude.{ℕ, ◌≡◌, ◌-◌, ◌<◌, ◌^◌, ◌==◌, if◌then◌else◌, List, [], ◌∷◌, ◌++◌, length, min, slice_set, take, drop}
use Rattle.rtcp_print.specs.declared.page.Page.{Page}

-- What a room holds once a text stands from its start on, as far as the room reaches: after the text all is as it was.
abbrev pub laid_over : (text room : List ℕ) → List ℕ
laid_over text room = take (length room) text ++ drop (length text) room

-- What it holds once the text ends with a zero octet, for which a room of a text that is longer has its last octet.
abbrev pub shown_in : (room text : List ℕ) → List ℕ
shown_in room text = laid_over (take (length room - 1) text ++ 0 ∷ []) room

-- ---- Steps

-- A room shows a text that was begun in it, and so many octets were counted, 2^64 - 1 at most.
pub record ShowsText (text room now : List ℕ) (count : ℕ) : Type 0 where
  pub shown : now ≡ laid_over text room
  pub counted : count ≡ min (length text) (2 ^ 64 - 1)

-- A piece goes on with whatever text a page shows.
pub record Adds (before after : Page) (piece : List ℕ) : Type 0 where
  pub goes_on : (text room : List ℕ) → length room < 2 ^ 64 → ShowsText text room before.room.now before.count →
      ShowsText (text ++ piece) room after.room.now after.count

-- A zero octet stands after so many octets of a room, or as its last.
abbrev pub ended : (count : ℕ) → (room : List ℕ) → List ℕ
ended count room = if length room == 0 then room else slice_set room (min count (length room - 1)) 0
