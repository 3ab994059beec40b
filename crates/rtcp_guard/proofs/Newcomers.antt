-- New sources of an origin are merged into the claims.
use Rattle.std.proofs.Common.{◌≡◌, ◌<◌, ◌≤◌, ◌+◌, ◌==◌, ◌||◌, ◌++◌, ℕ, zero, suc, Bool, true, false, cond, List, [], ◌∷◌, length, slice_index_or, get_or, set, take, drop, ◌-◌, Some, None, arith, refl, sym, ap, subst, ◌∙◌, inl, inr}
use Rattle.std.specs.List.{AllByRecursion, insert}
use Rattle.std.proofs.lemmas.Bool.{cases_lt, eqb-true}
use Rattle.std.proofs.lemmas.Bool.Decides.{nat_tests}
use Rattle.std.specs.List.Sorted.{IsNonDecreasingBy}
use Rattle.std.proofs.lemmas.List.{append_assoc, drop-set, get_or_default, get_or-take, length-take, map-append, take-append-drop, take_more}
use Rattle.rtcp_guard.specs.Claims.{Claim, claim_after, claim_by, found, is_named, put, with_name, with_names}
use Rattle.rtcp_guard.specs.Tables.{AreRising, AreRisingNames, AreSince, AreUnclaimed, IsRankOf, claim_in, claims_in, no_cell}
use Rattle.rtcp_guard.specs.declared.cells.Cell.{Cell}
use Rattle.rtcp_guard.proofs.Ages.{since_put}
use Rattle.rtcp_guard.proofs.Claiming.{found_names, names_append, rising_name, rising_names}
use Rattle.rtcp_guard.proofs.Counting.{named_more}
use Rattle.rtcp_guard.proofs.Orders.{before, same, behind, order, put_before, put_same, put_behind, found_first, found_before, found_behind, missing_above, rank_found, rising_at}
use Rattle.rtcp_guard.proofs.Rows.{as_many, claims_more, its_ssrc}
use Rattle.rtcp_guard.proofs.Putting.{found_put, is_any, tally_all, tally_put, weight}

-- ---- Names that rise

all_at : (P : ℕ → Type 0) (names : List ℕ) (k : ℕ) → AllByRecursion P names → k < length names →
    P (get_or names k 0)
all_at P [] k all within = absurd (omega arith)
all_at P (n ∷ rest) zero all within = all.0
all_at P (n ∷ rest) (suc k) all within = all_at P rest k all.1 (omega arith)

all_from : (P : ℕ → Type 0) (names : List ℕ) → ((k : ℕ) → k < length names → P (get_or names k 0)) →
    AllByRecursion P names
all_from P [] each = tt
all_from P (n ∷ rest) each = (each 0 (omega arith), all_from P rest (λ k within. each (suc k) (omega arith)))

all_named : (P : ℕ → Type 0) (ssrc : ℕ) (names : List ℕ) → AllByRecursion P names → is_named ssrc names ≡ true → P ssrc
all_named P ssrc [] all named = absurd cc
all_named P ssrc (n ∷ rest) all named =
    elim (n == ssrc) as (λ b. n == ssrc ≡ b → b || is_named ssrc rest ≡ true → P ssrc) [
      | true ↦ λ e is. subst P (eqb-true n ssrc e) all.0
      | false ↦ λ e is. all_named P ssrc rest all.1 is
    ] refl named

all_insert : (P : ℕ → Type 0) (names : List ℕ) (rank n : ℕ) → AllByRecursion P names → P n →
    AllByRecursion P (insert names rank n)
all_insert P [] zero n all its = (its, tt)
all_insert P [] (suc rank) n all its = (its, tt)
all_insert P (m ∷ rest) zero n all its = (its, all)
all_insert P (m ∷ rest) (suc rank) n all its = (all.0, all_insert P rest rank n all.1 its)

pub rise_at : (names : List ℕ) (i j : ℕ) → AreRisingNames names → i < j → j < length names →
    get_or names i 0 < get_or names j 0
rise_at [] i j rising order within = absurd (omega arith)
rise_at (n ∷ rest) i zero rising order within = absurd (omega arith)
rise_at (n ∷ rest) zero (suc j) rising order within = all_at (λ m. n < m) rest j rising.0 (omega arith)
rise_at (n ∷ rest) (suc i) (suc j) rising order within = rise_at rest i j rising.1 (omega arith) (omega arith)

pub falls_nowhere : (names : List ℕ) → AreRisingNames names → IsNonDecreasingBy (λ (n : ℕ). n) names
falls_nowhere names rising i j d order within = elim (cases_lt i j) [
  | inl less ↦
      let it = rise_at names i j rising less within in
      let one = get_or_default names i 0 d (omega arith) in
      let other = get_or_default names j 0 d within in
      omega (arith, it, one, other)
  | inr until ↦ let same : i ≡ j = omega arith in let it = ap (λ k. get_or names k d) same in omega (arith, it)
]

pub rise_insert : (names : List ℕ) (rank n : ℕ) → AreRisingNames names →
    ((k : ℕ) → k < rank → k < length names → get_or names k 0 < n) →
    ((k : ℕ) → rank ≤ k → k < length names → n < get_or names k 0) → AreRisingNames (insert names rank n)
rise_insert [] zero n rising lesser greater = (tt, tt)
rise_insert [] (suc rank) n rising lesser greater = (tt, tt)
rise_insert (m ∷ rest) zero n rising lesser greater =
    (all_from (λ k. n < k) (m ∷ rest) (λ k within. greater k (omega arith) within), rising)
rise_insert (m ∷ rest) (suc rank) n rising lesser greater = (
  all_insert (λ k. m < k) rest rank n rising.0 (lesser 0 (omega arith) (omega arith)),
  rise_insert rest rank n rising.1 (λ k early within. lesser (suc k) (omega arith) (omega arith))
      (λ k late within. greater (suc k) (omega arith) (omega arith)),
)

rise_to : (names : List ℕ) (i j : ℕ) → AreRisingNames names → i ≤ j → j < length names →
    get_or names i 0 ≤ get_or names j 0
rise_to names i j rising order within = elim (cases_lt i j) [
  | inl less ↦ let it = rise_at names i j rising less within in omega (arith, it)
  | inr until ↦ let same : i ≡ j = omega arith in let it = ap (λ k. get_or names k 0) same in omega (arith, it)
]

-- Where the name at a rank is another one, those from there on are greater.
pub greater_from : (names : List ℕ) (rank n : ℕ) → AreRisingNames names →
    ((k : ℕ) → rank ≤ k → k < length names → n ≤ get_or names k 0) →
    (rank < length names → get_or names rank 0 ≡ n → ⊥) →
    (k : ℕ) → rank ≤ k → k < length names → n < get_or names k 0
greater_from names rank n rising from other k late within = elim (cases_lt rank k) [
  | inl less ↦
      let first = from rank (omega arith) (omega arith) in
      let it = rise_at names rank k rising less within in
      omega (arith, first, it)
  | inr until ↦
      let same : k ≡ rank = omega arith in
      let it = from k late within in
      let apart : get_or names k 0 ≡ n → ⊥ = λ is. other (omega (arith, same, within))
      (ap (λ j. get_or names j 0) (sym same) ∙ is) in
      omega (arith, it, apart)
]

swapped : (a b c : Bool) → a || (b || c) ≡ b || (a || c)
swapped true true c = refl
swapped true false c = refl
swapped false true c = refl
swapped false false c = refl

last_first : (a b : Bool) → a || b ≡ b || (a || false)
last_first true true = refl
last_first true false = refl
last_first false true = refl
last_first false false = refl

named_insert : (ssrc : ℕ) (names : List ℕ) (rank n : ℕ) →
    is_named ssrc (insert names rank n) ≡ n == ssrc || is_named ssrc names
named_insert ssrc names zero n = refl
named_insert ssrc [] (suc rank) n = refl
named_insert ssrc (m ∷ rest) (suc rank) n = ap (λ b. m == ssrc || b) (named_insert ssrc rest rank n)
    ∙ swapped (m == ssrc) (n == ssrc) (is_named ssrc rest)

-- wherever it is put
pub named_anywhere : (ssrc : ℕ) (names : List ℕ) (rank n : ℕ) →
    is_named ssrc (insert names rank n) ≡ is_named ssrc (names ++ n ∷ [])
named_anywhere ssrc names rank n = named_insert ssrc names rank n
    ∙ last_first (n == ssrc) (is_named ssrc names) ∙ sym (named_more ssrc n names)

pub is_there : (names : List ℕ) (k : ℕ) → k < length names → is_named (get_or names k 0) names ≡ true
is_there [] k within = absurd (omega arith)
is_there (n ∷ rest) zero within =
    let itself : n == n ≡ true = grind (arith, nat_tests) in ap (λ b. b || is_named n rest) itself
is_there (n ∷ rest) (suc k) within =
    ap (λ b. n == get_or rest k 0 || b) (is_there rest k (omega arith)) ∙ or_true (n == get_or rest k 0)
  where
    or_true : (b : Bool) → b || true ≡ true
    or_true true = refl
    or_true false = refl

-- A name between lesser and greater ones is not among these.
pub not_among : (names : List ℕ) (rank n : ℕ) →
    ((k : ℕ) → k < rank → k < length names → get_or names k 0 < n) →
    ((k : ℕ) → rank ≤ k → k < length names → n < get_or names k 0) → is_named n names ≡ false
not_among [] rank n lesser greater = refl
not_among (m ∷ rest) zero n lesser greater =
    let less = greater 0 (omega arith) (omega arith) in
    let apart : m == n ≡ false = grind (arith, nat_tests, less) in
    ap (λ b. b || is_named n rest) apart
    ∙ not_among rest zero n (λ k early within. absurd (omega arith))
    (λ k late within. greater (suc k) (omega arith) (omega arith))
not_among (m ∷ rest) (suc rank) n lesser greater =
    let less = lesser 0 (omega arith) (omega arith) in
    let apart : m == n ≡ false = grind (arith, nat_tests, less) in
    ap (λ b. b || is_named n rest) apart
    ∙ not_among rest rank n (λ k early within. lesser (suc k) (omega arith) (omega arith))
    (λ k late within. greater (suc k) (omega arith) (omega arith))

-- ---- What is found says which claims there are

pub same_claims : (one other : List Claim) → AreRising one → AreRising other →
    ((ssrc : ℕ) → found ssrc one ≡ found ssrc other) → one ≡ other
same_claims [] [] first second alike = refl
same_claims [] (y ∷ other) first second alike =
    let is = alike y.ssrc ∙ found_first y.ssrc y other refl in absurd cc
same_claims (x ∷ one) [] first second alike =
    let is = sym (found_first x.ssrc x one refl) ∙ alike x.ssrc in absurd cc
same_claims (x ∷ one) (y ∷ other) first second alike = elim (order x.ssrc y.ssrc) [
  | before less ↦
      let is : Some x ≡ None = sym (found_first x.ssrc x one refl) ∙ alike x.ssrc ∙ found_behind x.ssrc y other less
      ∙ missing_above x.ssrc y.ssrc other (omega (arith, less)) second.0 in
      absurd cc
  | same e ↦
      let head : Some x ≡ Some y = sym (found_first x.ssrc x one refl) ∙ alike x.ssrc
      ∙ found_first x.ssrc y other (sym e) in
      let it : x ≡ y = cc in
      let rest : one ≡ other = same_claims one other first.1 second.1 (λ ssrc. elim (cases_lt x.ssrc ssrc) [
        | inl less ↦ sym (found_before ssrc x one less) ∙ alike ssrc
            ∙ found_before ssrc y other (omega (arith, e, less))
        | inr from ↦ missing_above ssrc x.ssrc one from first.0
            ∙ sym (missing_above ssrc y.ssrc other (omega (arith, e, from)) second.0)
      ]) in
      (λ i. it i ∷ rest i)
  | behind less ↦
      let is : Some y ≡ None = sym (found_first y.ssrc y other refl) ∙ sym (alike y.ssrc)
      ∙ found_behind y.ssrc x one less ∙ missing_above y.ssrc x.ssrc one (omega (arith, less)) first.0 in
      absurd cc
]

-- ---- Claims under a number

module _ (claim last : Claim) where
  put_under : (claims : List Claim) → claim.ssrc < last.ssrc →
      put claim (claims ++ last ∷ []) ≡ put claim claims ++ last ∷ []
  put_under [] less = put_behind claim last [] less
  put_under (first ∷ rest) less = elim (order first.ssrc claim.ssrc) [
    | before is ↦ put_before claim first (rest ++ last ∷ []) is ∙ ap (λ cs. first ∷ cs) (put_under rest less)
        ∙ sym (ap (λ cs. cs ++ last ∷ []) (put_before claim first rest is))
    | same is ↦ put_same claim first (rest ++ last ∷ []) is
        ∙ sym (ap (λ cs. cs ++ last ∷ []) (put_same claim first rest is))
    | behind is ↦ put_behind claim first (rest ++ last ∷ []) is
        ∙ sym (ap (λ cs. cs ++ last ∷ []) (put_behind claim first rest is))
  ]

found_under : (ssrc : ℕ) (last : Claim) (claims : List Claim) → ssrc < last.ssrc →
    found ssrc (claims ++ last ∷ []) ≡ found ssrc claims
found_under ssrc last [] less = found_behind ssrc last [] less
found_under ssrc last (first ∷ rest) less =
    ap (λ o. cond (first.ssrc == ssrc) (Some first) o) (found_under ssrc last rest less)

-- each SSRC is below this one
abbrev pub AreBelow : (ssrc : ℕ) → List Claim → Type 0
AreBelow ssrc claims = AllByRecursion (λ (claim : Claim). claim.ssrc < ssrc) claims

below_from : (ssrc : ℕ) (claims : List Claim) →
    ((k : ℕ) (d : Claim) → k < length claims → (slice_index_or claims k d).ssrc < ssrc) → AreBelow ssrc claims
below_from ssrc [] each = tt
below_from ssrc (first ∷ rest) each =
    (each 0 first (omega arith), below_from ssrc rest (λ k d within. each (suc k) d (omega arith)))

below_put : (ssrc : ℕ) (claim : Claim) (claims : List Claim) → AreBelow ssrc claims → claim.ssrc < ssrc →
    AreBelow ssrc (put claim claims)
below_put ssrc claim [] below less = (less, tt)
below_put ssrc claim (first ∷ rest) below less = elim (order first.ssrc claim.ssrc) [
  | before is ↦ subst (AreBelow ssrc) (sym (put_before claim first rest is))
      (below.0, below_put ssrc claim rest below.1 less)
  | same is ↦ subst (AreBelow ssrc) (sym (put_same claim first rest is)) (less, below.1)
  | behind is ↦ subst (AreBelow ssrc) (sym (put_behind claim first rest is)) (less, below)
]

put_last : (claim : Claim) (claims : List Claim) → AreBelow claim.ssrc claims → put claim claims ≡ claims ++ claim ∷ []
put_last claim [] below = refl
put_last claim (first ∷ rest) below =
    put_before claim first rest below.0 ∙ ap (λ cs. first ∷ cs) (put_last claim rest below.1)

found_none : (ssrc : ℕ) (claims : List Claim) → AreBelow ssrc claims → found ssrc claims ≡ None
found_none ssrc [] below = refl
found_none ssrc (first ∷ rest) below = found_before ssrc first rest below.0 ∙ found_none ssrc rest below.1

-- ---- An origin's names

module _ (origin moment : ℕ) where
  -- The same sources, in whichever order and however often, are the same claims.
  pub same_names : (one other : List ℕ) (claims : List Claim) → AreRising claims →
      ((ssrc : ℕ) → is_named ssrc one ≡ is_named ssrc other) →
      with_names origin moment one claims ≡ with_names origin moment other claims
  same_names one other claims rising alike =
      same_claims (with_names origin moment one claims) (with_names origin moment other claims)
      (rising_names origin moment one claims rising) (rising_names origin moment other claims rising)
      (λ ssrc. found_names origin moment ssrc one claims
      ∙ ap (λ b. cond b (Some (claim_after origin moment ssrc (found ssrc claims))) (found ssrc claims)) (alike ssrc)
      ∙ sym (found_names origin moment ssrc other claims))

  pub name_last : (names : List ℕ) (n : ℕ) (claims : List Claim) → AreRising claims →
      with_names origin moment names (with_name origin moment n claims)
      ≡ with_name origin moment n (with_names origin moment names claims)
  name_last names n claims rising =
      same_names (n ∷ names) (names ++ n ∷ []) claims rising
      (λ ssrc. last_first (n == ssrc) (is_named ssrc names) ∙ sym (named_more ssrc n names))
      ∙ names_append origin moment names (n ∷ []) claims

  pub named_as : (names more : List ℕ) (n : ℕ) (claims : List Claim) → AreRising claims →
      ((ssrc : ℕ) → is_named ssrc more ≡ is_named ssrc (names ++ n ∷ [])) →
      with_names origin moment more claims ≡ with_name origin moment n (with_names origin moment names claims)
  named_as names more n claims rising alike =
      same_names more (names ++ n ∷ []) claims rising alike ∙ names_append origin moment names (n ∷ []) claims

  -- A source that is claimed already leaves the others unclaimed.
  pub unclaimed_still : (names : List ℕ) (n rank : ℕ) (claims : List Claim) → AreRising claims →
      IsRankOf n claims rank → AreUnclaimed names claims → AreUnclaimed names (with_name origin moment n claims)
  unclaimed_still names n rank claims rising is new = λ ssrc named.
      let claim = claim_after origin moment n (found n claims) in
      found_put ssrc claim claims
      ∙ elim (n == ssrc) as (λ b. n == ssrc ≡ b → cond b (Some claim) (found ssrc claims) ≡ None) [
        | true ↦ λ e.
            let some = rank_found n claims rank claim rising is.within (is.its_ssrc claim) in
            let none = new ssrc named in
            let alike : found n claims ≡ found ssrc claims = ap (λ s. found s claims) (eqb-true n ssrc e) in
            absurd cc
        | false ↦ λ e. new ssrc named
      ] refl

  pub since_names : (since : ℕ) (names : List ℕ) (claims : List Claim) → since ≤ moment → AreSince since claims →
      AreSince since (with_names origin moment names claims)
  since_names since [] claims early all = all
  since_names since (n ∷ rest) claims early all =
      since_names since rest (with_name origin moment n claims) early
      (since_put since (claim_after origin moment n (found n claims)) claims all early)

  -- ---- Merged from the last on

  names_under : (names : List ℕ) (claims : List Claim) (last : Claim) →
      ((k : ℕ) → k < length names → get_or names k 0 < last.ssrc) →
      with_names origin moment names (claims ++ last ∷ []) ≡ with_names origin moment names claims ++ last ∷ []
  names_under [] claims last lesser = refl
  names_under (n ∷ rest) claims last lesser =
      let less : n < last.ssrc = lesser 0 (omega arith) in
      ap (with_names origin moment rest) (ap (λ o. put (claim_after origin moment n o) (claims ++ last ∷ []))
      (found_under n last claims less) ∙ put_under (claim_after origin moment n (found n claims)) last claims less)
      ∙ names_under rest (with_name origin moment n claims) last (λ k within. lesser (suc k) (omega arith))

  names_below : (ssrc : ℕ) (names : List ℕ) (claims : List Claim) →
      ((k : ℕ) → k < length names → get_or names k 0 < ssrc) → AreBelow ssrc claims →
      AreBelow ssrc (with_names origin moment names claims)
  names_below ssrc [] claims lesser below = below
  names_below ssrc (n ∷ rest) claims lesser below =
      names_below ssrc rest (with_name origin moment n claims) (λ k within. lesser (suc k) (omega arith))
      (below_put ssrc (claim_after origin moment n (found n claims)) claims below (lesser 0 (omega arith)))

  -- The last claim is beyond the names: it stays the last.
  cell_moves : (names : List ℕ) (claims : List Claim) (last : Claim) (placed : List Claim) →
      ((k : ℕ) → k < length names → get_or names k 0 < last.ssrc) →
      with_names origin moment names (claims ++ last ∷ []) ++ placed
      ≡ with_names origin moment names claims ++ last ∷ placed
  cell_moves names claims last placed lesser = ap (λ cs. cs ++ placed) (names_under names claims last lesser)
      ∙ append_assoc (with_names origin moment names claims) (last ∷ []) placed

  -- The last name is beyond the claims: its claim is the last.
  name_comes : (names : List ℕ) (n : ℕ) (claims placed : List Claim) →
      ((k : ℕ) → k < length names → get_or names k 0 < n) → AreBelow n claims →
      with_names origin moment (names ++ n ∷ []) claims ++ placed
      ≡ with_names origin moment names claims ++ claim_by origin moment n ∷ placed
  name_comes names n claims placed lesser below =
      let so = names_below n names claims lesser below in
      ap (λ cs. cs ++ placed) (names_append origin moment names (n ∷ []) claims
      ∙ ap (λ o. put (claim_after origin moment n o) (with_names origin moment names claims))
      (found_none n (with_names origin moment names claims) so)
      ∙ put_last (claim_by origin moment n) (with_names origin moment names claims) so)
      ∙ append_assoc (with_names origin moment names claims) (claim_by origin moment n ∷ []) placed

  -- ---- The same in cells

  module _ (names : List ℕ) (cells first : List Cell) (rising : AreRisingNames names) where
    -- what is left of the names, put among what is left of the first cells, and the cells that were moved
    abbrev pub merged : (from left : ℕ) → List Cell → List Claim
    merged from left cells = with_names origin moment (take left names) (claims_in (take from first))
        ++ claims_in (drop (from + left) cells)

    lesser : (left at ssrc : ℕ) → left ≤ at + 1 → at < length names → get_or names at 0 < ssrc →
        (k : ℕ) → k < length (take left names) → get_or (take left names) k 0 < ssrc
    lesser left at ssrc few within less k inside =
        let early : k < left = omega (arith, inside, length-take left names) in
        let it = rise_to names k at rising (omega (arith, early, few)) within in
        let its = get_or-take left names k 0 early in
        omega (arith, it, its, less)

    pub cell_merged : (from left : ℕ) → 0 < left → left ≤ length names → from + left < length cells →
        from < length first → take (from + 1) cells ≡ take (from + 1) first →
        get_or names (left - 1) 0 < (slice_index_or cells from no_cell).ssrc →
        merged from left (set cells (from + left) (slice_index_or cells from no_cell)) ≡ merged (from + 1) left cells
    cell_merged from left some few inside within kept less =
        let cell = slice_index_or cells from no_cell in
        let placed = claims_in (drop (from + left + 1) cells) in
        let its : cell ≡ slice_index_or first from no_cell =
        sym (get_or-take (from + 1) cells from no_cell (omega arith))
        ∙ ap (λ cs. slice_index_or cs from no_cell) kept ∙ get_or-take (from + 1) first from no_cell (omega arith) in
        ap (λ cs. with_names origin moment (take left names) (claims_in (take from first)) ++ claims_in cs)
        (drop-set cells (from + left) cell inside)
        ∙ sym (cell_moves (take left names) (claims_in (take from first)) (claim_in cell) placed
        (lesser left (left - 1) cell.ssrc (omega arith) (omega arith) less))
        ∙ ap (λ cs. with_names origin moment (take left names) cs ++ placed)
        (ap (λ (c : Cell). claims_in (take from first) ++ claim_in c ∷ []) its
        ∙ sym (claims_more first from no_cell within))
        ∙ ap (λ n. with_names origin moment (take left names) (claims_in (take (from + 1) first))
        ++ claims_in (drop n cells)) (omega arith)

    pub name_merged : (from left : ℕ) (cell : Cell) → left < length names → from + left < length cells →
        AreBelow (get_or names left 0) (claims_in (take from first)) →
        claim_in cell ≡ claim_by origin moment (get_or names left 0) →
        merged from left (set cells (from + left) cell) ≡ merged from (left + 1) cells
    name_merged from left cell within inside below is =
        let n = get_or names left 0 in
        let placed = claims_in (drop (from + left + 1) cells) in
        ap (λ cs. with_names origin moment (take left names) (claims_in (take from first)) ++ claims_in cs)
        (drop-set cells (from + left) cell inside)
        ∙ ap (λ c. with_names origin moment (take left names) (claims_in (take from first)) ++ c ∷ placed) is
        ∙ sym (name_comes (take left names) n (claims_in (take from first)) placed (λ k early.
        let soon : k < left = omega (arith, early, length-take left names) in
        let it = rise_at names k left rising soon within in
        let its = get_or-take left names k 0 soon in
        omega (arith, it, its)) below)
        ∙ ap (λ ns. with_names origin moment ns (claims_in (take from first)) ++ placed)
        (sym (take_more names left 0 within))
        ∙ ap (λ m. with_names origin moment (take (left + 1) names) (claims_in (take from first))
        ++ claims_in (drop m cells)) (omega arith)

    pub all_merged : (from : ℕ) → take from cells ≡ take from first → claims_in cells ≡ merged from 0 cells
    all_merged from kept = ap claims_in (sym (take-append-drop from cells))
        ∙ map-append claim_in (take from cells) (drop from cells)
        ∙ ap (λ cs. claims_in cs ++ claims_in (drop from cells)) kept
        ∙ ap (λ n. claims_in (take from first) ++ claims_in (drop n cells)) (omega arith)

  -- Each new source is one claim more.
  pub one_each : (names : List ℕ) (claims : List Claim) → AreRising claims → AreRisingNames names →
      ((ssrc : ℕ) → is_named ssrc names ≡ true → found ssrc claims ≡ None) →
      length (with_names origin moment names claims) ≡ length claims + length names
  one_each [] claims rising names_rise new = omega arith
  one_each (n ∷ rest) claims rising names_rise new =
      let more = one_each rest (with_name origin moment n claims) (rising_name origin moment n claims rising)
      names_rise.1 new_then in
      let one = tally_put is_any (claim_after origin moment n (found n claims)) claims rising in
      let none : found n claims ≡ None = new n (is_there (n ∷ rest) 0 (omega arith)) in
      let absent = ap (λ o. weight is_any o) none in
      let all = tally_all claims in
      let then = tally_all (with_name origin moment n claims) in
      omega (arith, more, one, absent, all, then)
    where
      new_then : (ssrc : ℕ) → is_named ssrc rest ≡ true → found ssrc (with_name origin moment n claims) ≡ None
      new_then ssrc named =
          let less : n < ssrc = all_named (λ m. n < m) ssrc rest names_rise.0 named in
          let apart : n == ssrc ≡ false = grind (arith, nat_tests, less) in
          found_put ssrc (claim_after origin moment n (found n claims)) claims
          ∙ ap (λ b. cond b (Some (claim_after origin moment n (found n claims))) (found ssrc claims)) apart
          ∙ new ssrc (ap (λ b. b || is_named ssrc rest) apart ∙ named)

-- ---- The first cells

taken_at : (cells : List Cell) (n k : ℕ) (d : Claim) → k < n → k < length cells →
    (slice_index_or (claims_in (take n cells)) k d).ssrc ≡ (slice_index_or cells k no_cell).ssrc
taken_at cells n k d early within =
    its_ssrc (take n cells) k no_cell d (omega (arith, length-take n cells, early, within))
    ∙ ap (λ (cell : Cell). cell.ssrc) (get_or-take n cells k no_cell early)

-- An unclaimed source from the last of the first cells on is beyond all of these.
pub below_taken : (ssrc : ℕ) (cells : List Cell) (count from : ℕ) → from ≤ count → count ≤ length cells →
    AreRising (claims_in (take count cells)) → found ssrc (claims_in (take count cells)) ≡ None →
    (0 < from → (slice_index_or cells (from - 1) no_cell).ssrc ≤ ssrc) → AreBelow ssrc (claims_in (take from cells))
below_taken ssrc cells count from few within rising none until =
    below_from ssrc (claims_in (take from cells)) (λ k d inside.
    let early : k < from = omega (arith, inside, as_many (take from cells), length-take from cells) in
    let long : length (claims_in (take count cells)) ≡ count =
    omega (arith, as_many (take count cells), length-take count cells, within) in
    let its = taken_at cells from k d early (omega (arith, early, few, within)) in
    let same = taken_at cells count k d (omega (arith, early, few)) (omega (arith, early, few, within)) in
    let last = taken_at cells count (from - 1) d (omega (arith, early, few)) (omega (arith, early, few, within)) in
    let order = rising_at (claims_in (take count cells)) k (from - 1) d rising (omega (arith, early))
    (omega (arith, early, few, long)) in
    let most = until (omega (arith, early)) in
    let apart : (slice_index_or cells (from - 1) no_cell).ssrc ≡ ssrc → ⊥ = λ is.
    let some = rank_found ssrc (claims_in (take count cells)) (from - 1) d rising
    (omega (arith, early, few, long)) (last ∙ is) in
    absurd cc in
    omega (arith, its, same, last, order, most, apart))
