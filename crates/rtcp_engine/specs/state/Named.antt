-- Which identifiers of a block a datagram names: those that follow one another, modulo 2^32.
use Rattle.std.specs.Prelude.{ℕ, ◌≡◌, ◌==◌, ◌||◌, ◌<◌, ◌+◌, ◌%◌, ◌^◌, Bool, true, false, List, slice_index_or}
use Rattle.rtcp_engine.specs.answers.Changes.{is_among}

-- the identifier so many places after another
abbrev pub after : (ssrc places : ℕ) → ℕ
after ssrc places = (ssrc + places) % 2 ^ 32

-- whether the identifier of a place is marked
abbrev pub is_marked : (named : List Bool) → (place : ℕ) → Bool
is_marked named place = slice_index_or named place false

-- Of 32 identifiers from one on just these are marked.
abbrev pub Marks : (names : List ℕ) → (first : ℕ) → (named : List Bool) → Type 0
Marks names first named =
    (place : ℕ) → place < 32 → is_marked named place ≡ is_among names (after first place)

-- One more is marked.
abbrev pub IsMarked : (ssrc first : ℕ) → (old new : List Bool) → Type 0
IsMarked ssrc first old new =
    (place : ℕ) → place < 32 → is_marked new place ≡ (ssrc == after first place || is_marked old place)

-- This many identifiers from one on are taken.
abbrev pub AreTaken : (is_taken : ℕ → Bool) → (first places : ℕ) → Type 0
AreTaken is_taken first places = (place : ℕ) → place < places → is_taken (after first place) ≡ true
