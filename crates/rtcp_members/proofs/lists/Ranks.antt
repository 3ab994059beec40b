-- Steps of a walk over a list of entries by rank.
use Rattle.std.proofs.Common.{◌≡◌, ◌<◌, ◌+◌, ℕ, Bool, true, false, cond, List, ◌∷◌, length, drop, filter, Some, slice_index_or, sym, ap, ◌∙◌}
use Rattle.std.proofs.lemmas.List.{drop_more}
use Rattle.rtcp_members.specs.declared.entry.Entry.{Entry}
use Rattle.rtcp_members.specs.Pending.{EntryRow, is_due, first_ssrc}
use Rattle.rtcp_members.specs.Listings.{state_of, first_state}
use Rattle.rtcp_members.specs.ListViews.{entry_value, row_of, rows_of}

-- what is told at a rank is told of the first row there
pub listed_rank : (xs : List Entry) (i : ℕ) (d x : Entry) → i < length xs → x ≡ slice_index_or xs i d →
    Some (state_of (row_of x)) ≡ first_state (rows_of (drop i xs))
listed_rank xs i d x within is = ap (λ y. Some (state_of (row_of y))) is
    ∙ sym (ap (λ ys. first_state (rows_of ys)) (drop_more xs i d within))

abbrev pub due_rows_of : List Entry → List EntryRow
due_rows_of xs = filter (λ (row : EntryRow). is_due row.1) (rows_of xs)

due_head : (x : Entry) (xs : List Entry) (b : Bool) → is_due (entry_value x) ≡ b →
    due_rows_of (x ∷ xs) ≡ cond b (row_of x ∷ due_rows_of xs) (due_rows_of xs)
due_head x xs b is = ap (λ c. cond c (row_of x ∷ due_rows_of xs) (due_rows_of xs)) is

-- the first of which a block is due, where it is that of this rank
pub due_rank : (xs : List Entry) (i : ℕ) (d x : Entry) → i < length xs → x ≡ slice_index_or xs i d →
    is_due (entry_value x) ≡ true → Some x.ssrc ≡ first_ssrc (due_rows_of (drop i xs))
due_rank xs i d x within is due =
    sym (ap (λ ys. first_ssrc (due_rows_of ys)) (drop_more xs i d within ∙ ap (λ y. y ∷ drop (i + 1) xs) (sym is))
    ∙ ap first_ssrc (due_head x (drop (i + 1) xs) true due))

-- and where it is not
pub idle_rank : (xs : List Entry) (i : ℕ) (d x : Entry) → i < length xs → x ≡ slice_index_or xs i d →
    is_due (entry_value x) ≡ false → first_ssrc (due_rows_of (drop (i + 1) xs)) ≡ first_ssrc (due_rows_of (drop i xs))
idle_rank xs i d x within is idle =
    sym (ap (λ ys. first_ssrc (due_rows_of ys)) (drop_more xs i d within ∙ ap (λ y. y ∷ drop (i + 1) xs) (sym is))
    ∙ ap first_ssrc (due_head x (drop (i + 1) xs) false idle))
