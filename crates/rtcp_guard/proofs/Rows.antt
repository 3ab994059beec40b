-- Claims in cells.
use Rattle.std.proofs.Common.{◌≡◌, ◌<◌, ◌≤◌, ◌+◌, ◌==◌, ℕ, zero, suc, nat_lt, Bool, true, false, cond, List, [], ◌∷◌, filter, length, set, take, drop, ◌++◌, slice_index_or, Some, None, option_map, arith, refl, sym, ap, ◌∙◌, ◌-◌}
use Rattle.std.specs.List.{insert}
use Rattle.std.specs.List.Sorted.{IsNonDecreasingBy, IsPartitionPoint}
use Rattle.std.proofs.lemmas.Bool.Decides.{nat_tests}
use Rattle.std.proofs.lemmas.List.{append-nil, drop_all, drop-append-le, get_or-map, length-append, length-drop, length-map, length_push, map-append, map-set, take_all, take_at, take-append-drop, take-append-le, take_more}
use Rattle.std.proofs.Math.Seq.{drop-append_seam}
use borrow.Rule.Slice.PartMut.{mid_of, put_mid}
use Rattle.std.proofs.lemmas.List.Elements.{filter-append}
use Rattle.std.proofs.lemmas.List.Sums.{sum_by-append, sum_by_push}
use Rattle.rtcp_guard.specs.declared.cells.Cell.{Cell}
use Rattle.rtcp_guard.specs.Claims.{Claim, claim_leaving, goodbyes_for, goodbyes_of, owner_in, put, is_by, held, with_goodbye}
use Rattle.rtcp_guard.specs.Tables.{claim_in, claims_in, no_cell, AreRising, IsRankOf, IsGap}
use Rattle.rtcp_guard.proofs.Putting.{one_if, tally_first}
use Rattle.rtcp_guard.proofs.Orders.{rising_at, rank_found, rank_leaves, rank_put, gap_found, gap_put, gap_at}

pub claim_at : (cells : List Cell) (k : ℕ) (d : Cell) (e : Claim) → k < length cells →
    slice_index_or (claims_in cells) k e ≡ claim_in (slice_index_or cells k d)
claim_at cells k d e within = get_or-map claim_in cells k d e within

-- Writing what is no claim leaves the claims.
pub claims_same : (cells : List Cell) (k : ℕ) (d cell : Cell) → claim_in cell ≡ claim_in (slice_index_or cells k d) →
    claims_in (set cells k cell) ≡ claims_in cells
claims_same [] k d cell same = refl
claims_same (x ∷ cells) zero d cell same = ap (λ c. c ∷ claims_in cells) same
claims_same (x ∷ cells) (suc k) d cell same = ap (λ cs. claim_in x ∷ cs) (claims_same cells k d cell same)

pub claims_inserted : (cells : List Cell) (at : ℕ) (cell : Cell) →
    claims_in (insert cells at cell) ≡ insert (claims_in cells) at (claim_in cell)
claims_inserted cells zero cell = refl
claims_inserted [] (suc at) cell = refl
claims_inserted (x ∷ cells) (suc at) cell = ap (λ cs. claim_in x ∷ cs) (claims_inserted cells at cell)

pub claims_filtered : (test : Claim → Bool) (cells : List Cell) →
    claims_in (filter (λ cell. test (claim_in cell)) cells) ≡ filter test (claims_in cells)
claims_filtered test [] = refl
claims_filtered test (x ∷ cells) =
    elim (test (claim_in x)) as (λ b. claims_in (cond b (x ∷ filter (λ cell. test (claim_in cell)) cells)
    (filter (λ cell. test (claim_in cell)) cells))
    ≡ cond b (claim_in x ∷ filter test (claims_in cells)) (filter test (claims_in cells))) [
      | true ↦ ap (λ cs. claim_in x ∷ cs) (claims_filtered test cells)
      | false ↦ claims_filtered test cells
    ]

pub as_many : (cells : List Cell) → length (claims_in cells) ≡ length cells
as_many cells = length-map cells claim_in

pub cell_written : (cells : List Cell) (at : ℕ) (cell : Cell) →
    claims_in (set cells at cell) ≡ set (claims_in cells) at (claim_in cell)
cell_written cells at cell = map-set claim_in cells at cell

-- All is written.
pub over_whole : (n : ℕ) (new old : List Cell) → n ≡ length new → take n (new ++ drop (length new) old) ≡ new
over_whole n new old same = take_at new (drop (length new) old) n (sym same)

-- ---- Ranks and gaps

pub its_ssrc : (cells : List Cell) (at : ℕ) (d : Cell) (e : Claim) → at < length cells →
    (slice_index_or (claims_in cells) at e).ssrc ≡ (slice_index_or cells at d).ssrc
its_ssrc cells at d e within = ap (λ (claim : Claim). claim.ssrc) (claim_at cells at d e within)

pub owner_at_rank : (ssrc : ℕ) (cells : List Cell) (at : ℕ) (cell : Cell) → AreRising (claims_in cells) →
    IsRankOf ssrc (claims_in cells) at → cell ≡ slice_index_or cells at cell →
    Some cell.origin ≡ owner_in ssrc (claims_in cells)
owner_at_rank ssrc cells at cell rising rank read =
    let within : at < length cells = let it = rank.within in omega (arith, it, as_many cells) in
    ap (λ (c : Cell). Some c.origin) read
    ∙ ap (λ (claim : Claim). Some claim.origin) (sym (claim_at cells at cell (claim_in cell) within))
    ∙ ap (option_map (λ (claim : Claim). claim.origin))
    (sym (rank_found ssrc (claims_in cells) at (claim_in cell) rising rank.within (rank.its_ssrc (claim_in cell))))

pub owner_at_gap : (ssrc : ℕ) (cells : List Cell) (gap : ℕ) → AreRising (claims_in cells) →
    IsGap ssrc (claims_in cells) gap → None ≡ owner_in ssrc (claims_in cells)
owner_at_gap ssrc cells gap rising is =
    ap (option_map (λ (claim : Claim). claim.origin)) (sym (gap_found ssrc (claims_in cells) gap rising is))

-- A cell of which the SSRC was read is the source's.
pub rank_read : (ssrc : ℕ) (cells : List Cell) (at : ℕ) (d : Cell) → at < length cells →
    (slice_index_or cells at d).ssrc ≡ ssrc → IsRankOf ssrc (claims_in cells) at
rank_read ssrc cells at d within is = record {
  within = omega (arith, within, as_many cells);
  its_ssrc = λ e. its_ssrc cells at d e within ∙ is;
}

pub falls_nowhere : (cells : List Cell) → AreRising (claims_in cells) →
    IsNonDecreasingBy (λ (cell : Cell). cell.ssrc) cells
falls_nowhere cells rising i j d order within =
    let less = rising_at (claims_in cells) i j (claim_in d) rising order (omega (arith, within, as_many cells)) in
    let one = its_ssrc cells i d (claim_in d) (omega (arith, order, within)) in
    let other = its_ssrc cells j d (claim_in d) within in
    omega (arith, less, one, other)

abbrev IsLesser : (ssrc : ℕ) → Cell → Bool
IsLesser ssrc cell = nat_lt cell.ssrc ssrc

-- Where the SSRCs stop being lesser, and the one there is another, there is a gap.
pub gap_parted : (ssrc : ℕ) (cells : List Cell) (at : ℕ) → at ≤ length cells →
    IsPartitionPoint (λ cell. IsLesser ssrc cell ≡ true) (λ cell. IsLesser ssrc cell ≡ false) cells at →
    ((d : Cell) → at < length cells → (slice_index_or cells at d).ssrc ≡ ssrc → ⊥) →
    IsGap ssrc (claims_in cells) at
gap_parted ssrc cells at within parted other =
    gap_at ssrc (claims_in cells) at (omega (arith, within, as_many cells)) lesser greater
  where
    lesser : (k : ℕ) (e : Claim) → k < at → (slice_index_or (claims_in cells) k e).ssrc < ssrc
    lesser k e early =
        let is = parted.0 k no_cell (omega arith) early in
        let less : (slice_index_or cells k no_cell).ssrc < ssrc = grind (arith, nat_tests, is) in
        let its = its_ssrc cells k no_cell e (omega (arith, early, within)) in
        omega (arith, less, its)

    greater : (e : Claim) → at < length (claims_in cells) → ssrc < (slice_index_or (claims_in cells) at e).ssrc
    greater e inside =
        let inside_too : at < length cells = omega (arith, inside, as_many cells) in
        let is = parted.1 at no_cell (omega arith) inside_too in
        let from : ssrc ≤ (slice_index_or cells at no_cell).ssrc = grind (arith, nat_tests, is) in
        let apart : (slice_index_or cells at no_cell).ssrc ≡ ssrc → ⊥ = other no_cell inside_too in
        let its = its_ssrc cells at no_cell e inside_too in
        omega (arith, from, apart, its)

-- ---- Edits

pub written : (cells : List Cell) (at : ℕ) (cell : Cell) (claim : Claim) → AreRising (claims_in cells) →
    IsRankOf claim.ssrc (claims_in cells) at → claim_in cell ≡ claim →
    claims_in (set cells at cell) ≡ put claim (claims_in cells)
written cells at cell claim rising rank is =
    cell_written cells at cell ∙ ap (set (claims_in cells) at) is
    ∙ sym (rank_put claim (claims_in cells) at claim rising rank.within (rank.its_ssrc claim))

pub put_in_gap : (cells : List Cell) (gap : ℕ) (cell : Cell) (claim : Claim) → IsGap claim.ssrc (claims_in cells) gap →
    claim_in cell ≡ claim → claims_in (insert cells gap cell) ≡ put claim (claims_in cells)
put_in_gap cells gap cell claim is value =
    claims_inserted cells gap cell ∙ ap (insert (claims_in cells) gap) value
    ∙ sym (gap_put claim (claims_in cells) gap is)

-- ---- The last comes to a rank

-- After `xs[at..].rotate_right(1)`: k is how many there are from `at` on, and ys what they are then.
pub last_moved : {X : Type 0} (xs others : List X) (x : X) (at k : ℕ) (ys : List X) → xs ≡ others ++ x ∷ [] →
    at ≤ length others → k ≡ length xs - at →
    ys ≡ drop (length (mid_of at k xs) - 1) (mid_of at k xs) ++ take (length (mid_of at k xs) - 1) (mid_of at k xs) →
    put_mid at k xs ys ≡ insert others at x
last_moved xs others x at k ys all within many turned =
    let back : List _ = drop at others in
    let longer = length-drop at xs in
    let part : mid_of at k xs ≡ back ++ x ∷ [] = take_all k (drop at xs) (omega (arith, longer, many))
    ∙ ap (drop at) all ∙ drop-append-le at others (x ∷ []) within in
    let one_more = length_push back x in
    let last : length (mid_of at k xs) - 1 ≡ length back = ap (λ l. length l - 1) part ∙ omega (arith, one_more) in
    let is : ys ≡ x ∷ back = turned ∙ (λ i. drop (last i) (part i) ++ take (last i) (part i))
    ∙ (λ i. drop-append_seam back (x ∷ []) i ++ take_at back (x ∷ []) (length back) refl i) in
    let front : take at xs ≡ take at others = ap (take at) all ∙ take-append-le at others (x ∷ []) within in
    let none : drop k (drop at xs) ≡ [] = drop_all k (drop at xs) (omega (arith, longer, many)) in
    (λ i. front i ++ (is i ++ none i)) ∙ ap (λ l. take at others ++ l) (append-nil (x ∷ back))

-- ---- One cell more

pub claims_more : (cells : List Cell) (k : ℕ) (d : Cell) → k < length cells →
    claims_in (take (k + 1) cells) ≡ claims_in (take k cells) ++ claim_in (slice_index_or cells k d) ∷ []
claims_more cells k d within = ap claims_in (take_more cells k d within)
    ∙ map-append claim_in (take k cells) (slice_index_or cells k d ∷ [])

pub held_more : (origin : ℕ) (cells : List Cell) (k : ℕ) (d : Cell) → k < length cells →
    held origin (claims_in (take (k + 1) cells))
    ≡ held origin (claims_in (take k cells)) + one_if ((slice_index_or cells k d).origin == origin)
held_more origin cells k d within =
    let cell : Cell = slice_index_or cells k d in
    let first = tally_first (is_by origin) (claim_in cell) [] in
    let both = ap length (filter-append (is_by origin) (claims_in (take k cells)) (claim_in cell ∷ []))
    ∙ length-append (filter (is_by origin) (claims_in (take k cells))) (filter (is_by origin) (claim_in cell ∷ [])) in
    let more = ap (held origin) (claims_more cells k d within) in
    omega (arith, first, both, more)

-- ---- Goodbyes

pub goodbyes_more : (origin : ℕ) (cells : List Cell) (k : ℕ) (d : Cell) → k < length cells →
    goodbyes_of origin (claims_in (take (k + 1) cells))
    ≡ goodbyes_of origin (claims_in (take k cells))
    + cond ((slice_index_or cells k d).origin == origin) (slice_index_or cells k d).goodbyes 0
goodbyes_more origin cells k d within =
    ap (goodbyes_of origin) (claims_more cells k d within)
    ∙ sum_by_push (goodbyes_for origin) (claims_in (take k cells)) (claim_in (slice_index_or cells k d))

-- A part of the claims has no more.
pub goodbyes_part : (origin : ℕ) (cells : List Cell) (k : ℕ) →
    goodbyes_of origin (claims_in (take k cells)) ≤ goodbyes_of origin (claims_in cells)
goodbyes_part origin cells k =
    let all : claims_in (take k cells) ++ claims_in (drop k cells) ≡ claims_in cells =
    sym (map-append claim_in (take k cells) (drop k cells)) ∙ ap claims_in (take-append-drop k cells) in
    let sums = sum_by-append (goodbyes_for origin) (claims_in (take k cells)) (claims_in (drop k cells)) in
    let whole = ap (goodbyes_of origin) all in
    omega (arith, sums, whole)

-- A goodbye is written at the rank of its source.
pub goodbye_written : (ssrc : ℕ) (cells : List Cell) (at : ℕ) (old cell : Cell) → AreRising (claims_in cells) →
    IsRankOf ssrc (claims_in cells) at → old ≡ slice_index_or cells at old →
    claim_in cell ≡ claim_leaving (Some old.ssrc) (claim_in old) →
    claims_in (set cells at cell) ≡ with_goodbye (Some ssrc) (claims_in cells)
goodbye_written ssrc cells at old cell rising rank read is =
    let it = rank.within in
    let within : at < length cells = omega (arith, it, as_many cells) in
    let there : slice_index_or (claims_in cells) at (claim_in old) ≡ claim_in old =
    claim_at cells at old (claim_in old) within ∙ ap claim_in (sym read) in
    let same : old.ssrc ≡ ssrc = ap (λ (claim : Claim). claim.ssrc) (sym there) ∙ rank.its_ssrc (claim_in old) in
    cell_written cells at cell
    ∙ ap (set (claims_in cells) at) (is ∙ (λ i. claim_leaving (Some (same i)) (sym there i)))
    ∙ rank_leaves ssrc (claims_in cells) at (claim_in old) rising rank.within (rank.its_ssrc (claim_in old))
