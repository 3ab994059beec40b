-- Items and chunks have no proper prefixes, and a body of chunks ends in one way.
use Rattle.std.proofs.Common.{◌≡◌, ℕ, ◌+◌, ◌%◌, ◌<◌, List, [], ◌∷◌, ◌++◌, length, sym, ap, ◌∙◌, append_assoc, append-nil, arith, inl, inr}
use Rattle.std.proofs.lemmas.List.{length-append}
use Rattle.byteorder.specs.Endian.{big_number}
use Rattle.rtcp_wire.specs.Values.{ItemValue, ChunkValue}
use Rattle.rtcp_wire.specs.Grammar.{Joins, IsItem, IsChunk}
use Rattle.rtcp_wire.specs.Faults.{IsCut, EndsBesideChunks, EndsInsideChunk}
use Rattle.rtcp_wire.proofs.Joining.{IsPrefixFree, IsNeverEmpty, same_count}
use Rattle.rtcp_wire.proofs.Prefixes.{cons_parts, cons_not_nil, same_prefixes, cut_prefix, length_parts, BeginsNone, same_end, no_longer}

-- ---- Items

-- An item is its type and its text.
same_item : (x y : ItemValue) → x.kind ≡ y.kind → x.text ≡ y.text → x ≡ y
same_item x y kind text = λ i. record { kind = kind i; text = text i }

-- An item says the length of its text before it.
pub one_item : IsPrefixFree IsItem
one_item x y a c r s h k e =
    let spelled : (x.kind ∷ length x.text ∷ x.text) ++ r ≡ (y.kind ∷ length y.text ∷ y.text) ++ s =
    ap (λ (t : List ℕ). t ++ r) (sym h.1) ∙ e ∙ ap (λ (t : List ℕ). t ++ s) k.1 in
    let kinds = cons_parts x.kind y.kind (length x.text ∷ (x.text ++ r)) (length y.text ∷ (y.text ++ s)) spelled in
    let sizes = cons_parts (length x.text) (length y.text) (x.text ++ r) (y.text ++ s) kinds.1 in
    let texts = same_prefixes x.text y.text r s sizes.0 sizes.1 in
    let same : x ≡ y = same_item x y kinds.0 texts.0 in
    (h.1 ∙ ap (λ (z : ItemValue). z.kind ∷ length z.text ∷ z.text) same ∙ sym k.1, same)

-- A zero octet begins no item.
pub zero_ends_items : (rest : List ℕ) → BeginsNone IsItem (0 ∷ rest)
zero_ends_items rest x f g e h =
    let spelled : 0 ∷ rest ≡ x.kind ∷ (length x.text ∷ x.text ++ g) = e ∙ ap (λ (t : List ℕ). t ++ g) h.1 in
    h.0 (sym (cons_parts 0 x.kind rest (length x.text ∷ x.text ++ g) spelled).0)

-- Nor does what is cut.
pub cut_ends_items : (cut : List ℕ) → IsCut cut → BeginsNone IsItem cut
cut_ends_items [] ends x f g e h = cons_not_nil x.kind (length x.text ∷ x.text ++ g)
    (sym (e ∙ ap (λ (t : List ℕ). t ++ g) h.1))
cut_ends_items (kind ∷ []) ends x f g e h =
    let spelled : kind ∷ [] ≡ x.kind ∷ (length x.text ∷ x.text ++ g) = e ∙ ap (λ (t : List ℕ). t ++ g) h.1 in
    cons_not_nil (length x.text) (x.text ++ g) (sym (cons_parts kind x.kind [] (length x.text ∷ x.text ++ g) spelled).1)
cut_ends_items (kind ∷ size ∷ text) ends x f g e h =
    let spelled : kind ∷ size ∷ text ≡ x.kind ∷ (length x.text ∷ x.text ++ g) = e ∙ ap (λ (t : List ℕ). t ++ g) h.1 in
    let following = cons_parts kind x.kind (size ∷ text) (length x.text ∷ x.text ++ g) spelled in
    let sizes = cons_parts size (length x.text) text (x.text ++ g) following.1 in
    omega (arith, ends.1, sizes.0, length_parts text x.text g sizes.1)

-- What is cut begins with no zero octet.
pub cut_not_zero : (cut rest : List ℕ) → IsCut cut → cut ≡ 0 ∷ rest → ⊥
cut_not_zero [] rest ends e = cons_not_nil 0 rest (sym e)
cut_not_zero (kind ∷ []) rest ends e = ends (cons_parts kind 0 [] rest e).0
cut_not_zero (kind ∷ size ∷ text) rest ends e = ends.0 (cons_parts kind 0 (size ∷ text) rest e).0

-- ---- Chunks

-- A chunk is its source and its items.
same_chunk : (x y : ChunkValue) → x.id ≡ y.id → x.items ≡ y.items → x ≡ y
same_chunk x y id items = λ i. record { id = id i; items = items i }

-- the whole of a chunk with what follows it, part by part
regroup : (id items free r : List ℕ) → (id ++ (items ++ 0 ∷ free)) ++ r ≡ id ++ (items ++ (0 ∷ (free ++ r)))
regroup id items free r = append_assoc id (items ++ 0 ∷ free) r
    ∙ ap (λ (t : List ℕ). id ++ t) (append_assoc items (0 ∷ free) r)

-- how long a chunk is: an identifier, the zero octet, and the rest
pub chunk_length : (x : ChunkValue) (a : List ℕ) (h : IsChunk x a) → length a ≡ 5 + (length h.items + length h.free)
chunk_length x a h = omega (
  arith,
  length_parts a h.id (h.items ++ 0 ∷ h.free) h.parts,
  length-append h.items (0 ∷ h.free),
  h.id_size,
)

-- One fill of under four octets makes whole words.
fill_is_fixed : (items free other a c : ℕ) → a ≡ 5 + (items + free) → c ≡ 5 + (items + other) → free < 4 → other < 4 →
    a % 4 ≡ 0 → c % 4 ≡ 0 → free ≡ other
fill_is_fixed items free other a c a_is c_is few fewer whole whole_too = omega arith

-- A chunk's items end at its zero octet, and its fill at the word's end.
pub one_chunk : IsPrefixFree IsChunk
one_chunk x y a c r s h k e =
    let spelled : h.id ++ (h.items ++ (0 ∷ (h.free ++ r))) ≡ k.id ++ (k.items ++ (0 ∷ (k.free ++ s))) =
    sym (ap (λ (t : List ℕ). t ++ r) h.parts ∙ regroup h.id h.items h.free r) ∙ e ∙ ap (λ (t : List ℕ). t ++ s) k.parts
    ∙ regroup k.id k.items k.free s in
    let id_sizes : length h.id ≡ length k.id = h.id_size ∙ sym k.id_size in
    let ids = same_prefixes h.id k.id (h.items ++ (0 ∷ (h.free ++ r))) (k.items ++ (0 ∷ (k.free ++ s))) id_sizes
    spelled in
    let items = same_end IsItem one_item x.items y.items h.items k.items (0 ∷ (h.free ++ r)) (0 ∷ (k.free ++ s)) h.each
    k.each ids.1 (zero_ends_items (h.free ++ r)) (zero_ends_items (k.free ++ s)) in
    let fills = cons_parts 0 0 (h.free ++ r) (k.free ++ s) items.2 in
    let fill_sizes = fill_is_fixed (length h.items) (length h.free) (length k.free) (length a) (length c)
    (chunk_length x a h) (chunk_length y c k ∙ ap (λ (t : List ℕ). 5 + (length t + length k.free)) (sym items.0))
    h.fill k.fill h.aligned k.aligned in
    let free = same_prefixes h.free k.free r s fill_sizes fills.1 in
    let same_id : h.id ≡ k.id = ids.0 in
    let same_items : h.items ≡ k.items = items.0 in
    let same_free : h.free ≡ k.free = free.0 in
    let h_parts : a ≡ h.id ++ (h.items ++ 0 ∷ h.free) = h.parts in
    let k_parts : c ≡ k.id ++ (k.items ++ 0 ∷ k.free) = k.parts in
    (cc, same_chunk x y (h.source ∙ ap (big_number 4) same_id ∙ sym k.source) items.1)

-- No chunk is empty.
pub chunk_has_octets : IsNeverEmpty IsChunk
chunk_has_octets x h = absurd (omega (arith, chunk_length x [] h))

-- ---- How a body of chunks ends

-- Fewer than four octets begin no chunk.
pub few_end_chunks : (rest : List ℕ) → length rest < 4 → BeginsNone IsChunk rest
few_end_chunks rest few x f g e h = omega (arith, length_parts rest f g e, chunk_length x f h)

-- Nor do an identifier and whole items before a cut.
pub cut_ends_chunks : (items : List ItemValue) (id middle cut : List ℕ) → length id ≡ 4 → Joins IsItem items middle →
    IsCut cut → BeginsNone IsChunk (id ++ (middle ++ cut))
cut_ends_chunks items id middle cut id_size each ends x f g e h =
    let spelled : id ++ (middle ++ cut) ≡ h.id ++ (h.items ++ (0 ∷ (h.free ++ g))) = e
    ∙ ap (λ (t : List ℕ). t ++ g) h.parts ∙ regroup h.id h.items h.free g in
    let ids = same_prefixes id h.id (middle ++ cut) (h.items ++ (0 ∷ (h.free ++ g))) (id_size ∙ sym h.id_size)
    spelled in
    let inner = same_end IsItem one_item items x.items middle h.items cut (0 ∷ (h.free ++ g)) each h.each ids.1
    (cut_ends_items cut ends) (zero_ends_items (h.free ++ g)) in
    cut_not_zero cut (h.free ++ g) ends inner.2

-- Where a body ends inside a chunk, no chunk begins at that place.
inside_ends : (count : ℕ) (body : List ℕ) (e : EndsInsideChunk count body) →
    BeginsNone IsChunk (e.id ++ (e.middle ++ e.cut))
inside_ends count body e = cut_ends_chunks e.items e.id e.middle e.cut e.id_size e.each_item e.ends

-- A body of exactly the chunks that are counted doesn't end inside one.
pub not_inside : (count : ℕ) (body : List ℕ) (chunks : List ChunkValue) → length chunks ≡ count →
    Joins IsChunk chunks body → EndsInsideChunk count body → ⊥
not_inside count body chunks counted each e =
    omega (
      arith,
      e.expected,
      no_longer IsChunk one_chunk e.chunks chunks e.prefix body (e.id ++ (e.middle ++ e.cut)) []
          e.each each (sym e.parts ∙ sym (append-nil body)) (inside_ends count body e),
    )

-- Nor beside one.
pub not_beside : (count : ℕ) (body : List ℕ) (chunks : List ChunkValue) → length chunks ≡ count →
    Joins IsChunk chunks body → EndsBesideChunks count body → ⊥
not_beside count body chunks counted each e =
    elim e.stop [
      | inl few ↦ omega (
        arith,
        few.0,
        no_longer IsChunk one_chunk e.chunks chunks e.prefix body e.rest [] e.each each
            (sym e.parts ∙ sym (append-nil body)) (few_end_chunks e.rest few.1),
      )
      | inr left ↦ (let whole : e.prefix ++ e.rest ≡ body ++ [] = sym e.parts ∙ sym (append-nil body) in
          left.1 (cut_prefix e.prefix body e.rest []
          (same_count IsChunk one_chunk e.chunks chunks e.prefix body e.rest [] e.each each whole
          (left.0 ∙ sym counted)).0 whole))
    ]

-- It ends beside chunks or inside one, and never both.
pub not_both : (count : ℕ) (body : List ℕ) → EndsBesideChunks count body → EndsInsideChunk count body → ⊥
not_both count body b e =
    let inside = e.id ++ (e.middle ++ e.cut) in
    let whole : b.prefix ++ b.rest ≡ e.prefix ++ inside = sym b.parts ∙ e.parts in
    elim b.stop [
      | inl few ↦ (let same = same_end IsChunk one_chunk b.chunks e.chunks b.prefix e.prefix b.rest inside b.each e.each
          whole (few_end_chunks b.rest few.1) (inside_ends count body e) in
          omega (arith, few.1, length_parts b.rest e.id (e.middle ++ e.cut) same.2, e.id_size))
      | inr left ↦ omega (
        arith,
        left.0,
        e.expected,
        no_longer IsChunk one_chunk e.chunks b.chunks e.prefix b.prefix
            inside b.rest e.each b.each (sym whole) (inside_ends count body e),
      )
    ]
