-- Items and chunks that are passed one after the other: a lemma for each step of the tests, and a walk over the items
-- of any octets by these steps.
use Rattle.std.proofs.Common.{◌≡◌, ◌≢◌, ℕ, zero, suc, ◌+◌, ◌%◌, ◌<◌, ◌≤◌, ◌⊎◌, List, [], ◌∷◌, ◌++◌, length, take, drop, refl, sym, ap, subst, ◌∙◌, append_assoc, append-nil, arith, inl, inr}
use Rattle.std.proofs.lemmas.Bool.{cases_lt, cases_eq}
use Rattle.std.proofs.lemmas.List.{take-append-drop, length-take-le, length-drop, length-append, length-take, nil_from_length}
use Rattle.byteorder.specs.Endian.{big_number}
use Rattle.rtcp_wire.specs.Values.{ItemValue, ChunkValue, sdes}
use Rattle.rtcp_wire.specs.Grammar.{Joins, IsItem, IsChunk}
use Rattle.rtcp_wire.specs.Faults.{IsCut, EndsBesideChunks, EndsInsideChunk}
use Rattle.rtcp_wire.specs.Parts.{TakesPrefix, EndsInItems, EndsInChunk}
use Rattle.rtcp_wire.specs.Validity.{PassesItems, IsSomeChunk, IsSomeBody}
use Rattle.rtcp_wire.proofs.Joining.{Joins-push}

-- one part more after those that were taken
pub one_part_more : {A : Type 0} (S : A → List ℕ → Type 0) (xs : List A) (y : A) (octets old new : List ℕ) →
    TakesPrefix octets old (Joins S xs) → TakesPrefix old new (S y) → TakesPrefix octets new (Joins S (xs ++ y ∷ []))
one_part_more S xs y octets old new all one = (
  all.0 ++ one.0,
  all.1 ∙ ap (λ (t : List ℕ). all.0 ++ t) one.1 ∙ sym (append_assoc all.0 one.0 new),
  Joins-push S xs y all.0 one.0 all.2 one.2,
)

-- ---- Items

-- The octets so far are items.
abbrev pub HasTakenItems : List ℕ → List ℕ → Type 0
HasTakenItems octets left = (items : List ItemValue) × TakesPrefix octets left (Joins IsItem items)

-- the item whose type and length are these, with its text
one_item : (kind size : ℕ) (text : List ℕ) → kind ≢ 0 → size ≤ length text →
    TakesPrefix (kind ∷ size ∷ text) (drop size text) (IsItem (record { kind = kind; text = take size text }))
one_item kind size text some room = (
  kind ∷ size ∷ take size text,
  ap (λ (t : List ℕ). kind ∷ size ∷ t) (sym (take-append-drop size text)),
  (some, ap (λ (n : ℕ). kind ∷ n ∷ take size text) (sym (length-take-le size text room))),
)

-- one item more
pub item_taken : (octets old new : List ℕ) (kind size : ℕ) (text : List ℕ) → HasTakenItems octets old →
    old ≡ kind ∷ size ∷ text → kind ≢ 0 → size ≤ length text → new ≡ drop size text → HasTakenItems octets new
item_taken octets old new kind size text so_far is some room after =
    let item : ItemValue = record { kind = kind; text = take size text } in
    let one : TakesPrefix old new (IsItem item) = rw (is, after) (one_item kind size text some room) in
    (so_far.0 ++ item ∷ [], one_part_more IsItem so_far.0 item octets old new so_far.1 one)

-- a cut item after them
items_cut : (octets left : List ℕ) → HasTakenItems octets left → IsCut left → EndsInItems octets
items_cut octets left h ends = record {
  items = h.0;
  middle = h.1.0;
  cut = left;
  parts = h.1.1;
  each = h.1.2;
  ends = ends;
}

-- the zero octet after them
items_passed : (octets : List ℕ) (kind : ℕ) (after : List ℕ) → HasTakenItems octets (kind ∷ after) → kind ≡ 0 →
    PassesItems octets after
items_passed octets kind after h none =
    record { items = h.0; middle = h.1.0; parts = h.1.1 ∙ ap (λ (k : ℕ). h.1.0 ++ k ∷ after) none; each = h.1.2 }

-- how items end: too early, or at a zero octet
abbrev ItemsEnd : List ℕ → Type 0
ItemsEnd octets = EndsInItems octets ⊎ ((after : List ℕ) × PassesItems octets after)

-- Items are passed until none begins.
items_from : (bound : ℕ) (octets left : List ℕ) → length left < bound → HasTakenItems octets left → ItemsEnd octets
items_from zero octets left below h = absurd (omega arith)
items_from (suc n) octets [] below h = inl (items_cut octets [] h tt)
items_from (suc n) octets (kind ∷ []) below h =
    elim (cases_eq kind 0) [
      | inl none ↦ inr ([], items_passed octets kind [] h none)
      | inr some ↦ inl (items_cut octets (kind ∷ []) h some)
    ]
items_from (suc n) octets (kind ∷ size ∷ text) below h =
    elim (cases_eq kind 0) [
      | inl none ↦ inr (size ∷ text, items_passed octets kind (size ∷ text) h none)
      | inr some ↦ elim (cases_lt (length text) size) [
        | inl few ↦ inl (items_cut octets (kind ∷ size ∷ text) h (some, few))
        | inr room ↦ items_from n octets (drop size text) (omega (arith, length-drop size text))
            (item_taken octets (kind ∷ size ∷ text) (drop size text) kind size text h refl some room refl)
      ]
    ]

-- ---- Chunks

-- an identifier before the items that end too early
chunk_ends : (octets : List ℕ) → 4 ≤ length octets → EndsInItems (drop 4 octets) → EndsInChunk octets
chunk_ends octets room items =
    record {
      id = take 4 octets;
      after = drop 4 octets;
      parts = sym (take-append-drop 4 octets);
      id_size = length-take-le 4 octets room;
      items = items;
    }

-- an identifier, items, their zero octet, and the fill up to the word's end
pub chunk_passed : (octets after : List ℕ) → 4 ≤ length octets → length octets % 4 ≡ 0 →
    PassesItems (drop 4 octets) after
    → TakesPrefix octets (drop (length after % 4) after) IsSomeChunk × (length (drop (length after % 4) after) % 4 ≡ 0)
chunk_passed octets after room words p =
    let fill = length after % 4 in
    let free = take fill after in
    let rest = drop fill after in
    let octets_taken = take 4 octets ++ (p.middle ++ 0 ∷ free) in
    let split : after ≡ free ++ rest = sym (take-append-drop fill after) in
    let inner : p.middle ++ 0 ∷ after ≡ (p.middle ++ 0 ∷ free) ++ rest = ap (λ (t : List ℕ). p.middle ++ 0 ∷ t) split
    ∙ sym (append_assoc p.middle (0 ∷ free) rest) in
    let whole : octets ≡ octets_taken ++ rest =
    sym (take-append-drop 4 octets) ∙ ap (λ (t : List ℕ). take 4 octets ++ t) (p.parts ∙ inner)
    ∙ sym (append_assoc (take 4 octets) (p.middle ++ 0 ∷ free) rest) in
    let rest_words : length rest % 4 ≡ 0 = omega (arith, length-drop fill after) in
    let sizes : length octets ≡ length octets_taken + length rest = ap length whole ∙ length-append octets_taken rest in
    let chunk : ChunkValue = record { id = big_number 4 (take 4 octets); items = p.items } in
    let made : IsChunk chunk octets_taken = record {
      id = take 4 octets;
      items = p.middle;
      free = free;
      parts = refl;
      id_size = length-take-le 4 octets room;
      source = refl;
      each = p.each;
      fill = omega (arith, length-take fill after);
      aligned = omega arith;
    } in
    ((octets_taken, whole, (chunk, made)), rest_words)

-- In whole words, with room for an identifier, a chunk is passed or ends too early.
pub chunk_from : (octets : List ℕ) → 4 ≤ length octets → length octets % 4 ≡ 0 →
    EndsInChunk octets ⊎ ((left : List ℕ) × (TakesPrefix octets left IsSomeChunk × (length left % 4 ≡ 0)))
chunk_from octets room words =
    elim (items_from (suc (length (drop 4 octets))) (drop 4 octets) (drop 4 octets) (omega arith)
    ([], ([], refl, refl))) [
      | inl cut ↦ inl (chunk_ends octets room cut)
      | inr passed ↦ inr (drop (length passed.0 % 4) passed.0, chunk_passed octets passed.0 room words passed.1)
    ]

-- ---- Bodies of chunks

-- So many chunks were taken from the body, and whole words are left.
pub record HasTakenChunks (count : ℕ) (body left : List ℕ) : Type 0 where
  pub words : length left % 4 ≡ 0
  pub chunks : List ChunkValue
  pub counted : length chunks ≡ count
  pub taken : TakesPrefix body left (Joins IsChunk chunks)

-- before the first chunk
pub no_chunk_taken : (body : List ℕ) → length body % 4 ≡ 0 → HasTakenChunks 0 body body
no_chunk_taken body words = record { words = words; chunks = []; counted = refl; taken = ([], refl, refl) }

-- one chunk more
pub chunk_taken : (count : ℕ) (body old new : List ℕ) → HasTakenChunks count body old →
    TakesPrefix old new IsSomeChunk →
    length new % 4 ≡ 0 → HasTakenChunks (count + 1) body new
chunk_taken count body old new h one words = record {
  words = words;
  chunks = h.chunks ++ one.2.0 ∷ [];
  counted = omega (arith, length-append h.chunks (one.2.0 ∷ []), h.counted);
  taken = one_part_more IsChunk h.chunks one.2.0 body old new h.taken (one.0, one.1, one.2.1);
}

-- The last chunk ends the body.
pub all_chunks : (turns count : ℕ) (body left : List ℕ) → HasTakenChunks turns body left → turns ≡ count →
    length left ≡ 0 → IsSomeBody 202 count body
all_chunks turns count body left h all none =
    let whole : body ≡ h.taken.0 = h.taken.1 ∙ ap (λ (t : List ℕ). h.taken.0 ++ t) (nil_from_length left none)
    ∙ append-nil h.taken.0 in
    (sdes h.chunks, (refl, h.counted ∙ all, subst (Joins IsChunk h.chunks) (sym whole) h.taken.2))

-- Where a chunk is missing or octets are left, the body ends beside its chunks,
pub chunks_beside : (turns count : ℕ) (body left : List ℕ) → HasTakenChunks turns body left →
    ((turns < count) × (length left < 4)) ⊎ ((turns ≡ count) × (left ≢ [])) → EndsBesideChunks count body
chunks_beside turns count body left h stop = record {
  chunks = h.chunks;
  prefix = h.taken.0;
  rest = left;
  parts = h.taken.1;
  each = h.taken.2;
  stop = rw h.counted stop;
}

-- and where the next one ends too early, inside it.
pub chunks_inside : (turns count : ℕ) (body left : List ℕ) → HasTakenChunks turns body left → turns < count →
    EndsInChunk left → EndsInsideChunk count body
chunks_inside turns count body left h expected e = record {
  chunks = h.chunks;
  items = e.items.items;
  prefix = h.taken.0;
  id = e.id;
  middle = e.items.middle;
  cut = e.items.cut;
  parts = h.taken.1 ∙ ap (λ (t : List ℕ). h.taken.0 ++ t) (e.parts ∙ ap (λ (t : List ℕ). e.id ++ t) e.items.parts);
  each = h.taken.2;
  expected = rw h.counted expected;
  id_size = e.id_size;
  each_item = e.items.each;
  ends = e.items.ends;
}
