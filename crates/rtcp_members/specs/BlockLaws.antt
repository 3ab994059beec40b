-- What is read of cells that are written as a slice. No clause cites this lemma: it proves the laws of the trait
-- `Blocks`, and the checker takes a law's proof from specs/ alone.
use Rattle.std.specs.Prelude.{ℕ, ◌≡◌, ◌++◌, List, length, take, drop}
use Rattle.std.proofs.Common.{sym, ◌∙◌}
use Rattle.std.proofs.lemmas.List.{take_at}

-- All is written.
pub over_whole : {X : Type 0} (n : ℕ) (old new : List X) → n ≡ length old → length new ≡ length old →
    take n (new ++ drop (length new) old) ≡ new
over_whole n old new whole same = take_at new (drop (length new) old) n (same ∙ sym whole)
