-- The average of sizes between two numbers lies between them.
use Rattle.std.proofs.Common.{ℕ, ◌*◌, List, [], ◌∷◌, All, arith}
use Rattle.std.proofs.lemmas.List.Elements.{All-head, All-tail}
use Rattle.rtcp_timer.specs.Averages.{moved_average, IsBetween}
use Rattle.rtcp_timer.specs.Loads.{with_headers, average_of}

-- the same after one more compound
moved_between : (low high average size : ℕ) → IsBetween low high size →
    IsBetween (256 * with_headers low) (256 * with_headers high) average →
    IsBetween (256 * with_headers low) (256 * with_headers high) (moved_average average size)
moved_between low high average size of_size of_average = (omega arith, omega arith)

pub average_between : (low high first : ℕ) (sizes : List ℕ) → IsBetween low high first →
    All (IsBetween low high) sizes → IsBetween (256 * with_headers low) (256 * with_headers high)
    (average_of first sizes)
average_between low high first [] of_first _ = (omega arith, omega arith)
average_between low high first (size ∷ sizes) of_first of_sizes =
    let P = IsBetween low high in
    let before = average_between low high first sizes of_first (All-tail P size sizes of_sizes) in
    moved_between low high (average_of first sizes) size (All-head P size sizes of_sizes) before
