-- Chunks that are read one after the other, of octets that begin with as many chunks.
use Rattle.std.proofs.Common.{◌≡◌, ℕ, suc, ◌-◌, ◌≤◌, List, [], ◌∷◌, ◌++◌, length, take, drop, refl, sym, ap, subst, ◌∙◌, append_assoc, arith}
use Rattle.std.proofs.lemmas.List.{length-append}
use Rattle.byteorder.specs.Endian.{big_number}
use Rattle.rtcp_wire.specs.Values.{ChunkValue}
use Rattle.rtcp_wire.specs.Grammar.{Joins, IsChunk}
use Rattle.rtcp_wire.specs.Validity.{HasItems, HasChunks}
use Rattle.rtcp_wire.specs.Walks.{items_after, chunk_size, chunks_in}
use Rattle.rtcp_wire.proofs.ReadingWalks.{other_part, chunk_parts, chunk_read, chunk_length, after_chunk}

-- the octets of the chunk that stands first
abbrev pub first_size : List ℕ → ℕ
first_size octets = chunk_size (items_after 0 (drop 4 octets))

-- A chunk stands first, and so many others after it.
pub record ChunkStep (others : ℕ) (octets : List ℕ) : Type 0 where
  pub begun : 4 ≤ length octets
  pub items : HasItems (drop 4 octets)
  pub room : first_size octets ≤ length octets
  pub more : HasChunks others (drop (first_size octets) octets)

-- at a chunk and what follows it
here : (others : ℕ) (chunk : ChunkValue) (a r : List ℕ) (h : IsChunk chunk a) → HasChunks others r →
    ChunkStep others (a ++ r)
here others chunk a r h more =
    let after_id : drop 4 (a ++ r) ≡ h.items ++ 0 ∷ (h.free ++ r) =
    ap (drop 4) (chunk_parts chunk a r h) ∙ other_part 4 h.id (h.items ++ 0 ∷ (h.free ++ r)) h.id_size in
    let size : first_size (a ++ r) ≡ length a = ap (λ (c : ChunkValue). chunk_size c.items) (chunk_read chunk a r h)
    ∙ chunk_length chunk a r h in
    record {
      begun = omega (
        arith,
        ap length (chunk_parts chunk a r h),
        length-append h.id (h.items ++ 0 ∷ (h.free ++ r)),
        h.id_size,
      );
      items = (h.free ++ r, record { items = chunk.items; middle = h.items; parts = after_id; each = h.each });
      room = omega (arith, size, length-append a r);
      more = subst (HasChunks others) (sym (after_chunk chunk a r h)) more;
    }

-- Octets that begin with some chunks begin with a chunk.
pub chunk_step : (count : ℕ) (octets : List ℕ) → HasChunks count octets → (count ≡ 0 → ⊥) → ChunkStep (count - 1) octets
chunk_step count octets h some = step h.chunks h.middle h.counted h.parts h.each
  where
    step : (chunks : List ChunkValue) (middle : List ℕ) → length chunks ≡ count → octets ≡ middle ++ h.after →
        Joins IsChunk chunks middle → ChunkStep (count - 1) octets
    step [] middle counted parts each = absurd (some (sym counted))
    step (chunk ∷ chunks) middle counted parts each =
        let rest = each.1 ++ h.after in
        let whole : octets ≡ each.0 ++ rest = parts ∙ ap (λ (t : List ℕ). t ++ h.after) each.2
        ∙ append_assoc each.0 each.1 h.after in
        let more : HasChunks (count - 1) rest =
        record {
          chunks = chunks;
          middle = each.1;
          after = h.after;
          counted = omega (arith, counted, some);
          parts = refl;
          each = each.4;
        } in
        subst (ChunkStep (count - 1)) (sym whole) (here (count - 1) chunk each.0 rest each.3 more)

-- one chunk, and those after it
pub chunks_step : (count : ℕ) (octets id_octets after_id others : List ℕ) (id size : ℕ) → (count ≡ 0 → ⊥) →
    id_octets ≡ take 4 octets → after_id ≡ drop 4 octets → id ≡ big_number 4 id_octets
    → size ≡ chunk_size (items_after 0 after_id) → others ≡ drop size octets →
    chunks_in count octets ≡ record { id = id; items = items_after 0 after_id } ∷ chunks_in (count - 1) others
chunks_step count octets id_octets after_id others id size some id_is after is sized others_is =
    let counted : count ≡ suc (count - 1) = omega (arith, some) in
    let source : id ≡ big_number 4 (take 4 octets) = is ∙ ap (big_number 4) id_is in
    let size_is : size ≡ first_size octets = sized ∙ ap (λ t. chunk_size (items_after 0 t)) after in
    let left : others ≡ drop (first_size octets) octets = others_is ∙ ap (λ (n : ℕ). drop n octets) size_is in
    ap (λ (n : ℕ). chunks_in n octets) counted
    ∙ (λ i. record { id = sym source i; items = items_after 0 (sym after i) } ∷ chunks_in (count - 1) (sym left i))
