-- What the octets of a packet's parts say can be written again: texts, counts and numbers are in the bounds of what
-- can be written, and what is written of a part is no longer than what was read.
use Rattle.std.proofs.Common.{◌≡◌, ℕ, ◌≤ℤ◌, pos, negsuc, ◌+◌, ◌*◌, ◌%◌, ◌^◌, ◌<◌, ◌≤◌, List, ◌∷◌, ◌++◌, All, Option, Some, None, length, drop, refl, sym, ap, subst, inl, inr, arith}
use Rattle.std.specs.List.{flat_map}
use Rattle.std.proofs.lemmas.Bool.{cases_lt}
use Rattle.std.proofs.lemmas.Int.{ints}
use Rattle.std.proofs.lemmas.List.{length-append}
use Rattle.byteorder.specs.Endian.{big_number, twos_complement}
use Rattle.rtcp_wire.specs.Values.{SenderValue, ReportBlock, ItemValue, ChunkValue}
use Rattle.rtcp_wire.specs.Grammar.{AreOctets, IsBlock, IsId, IsItem, IsChunk, IsReasonPart, IsReportEnd}
use Rattle.rtcp_wire.specs.Readings.{block_in, sender_in}
use Rattle.rtcp_wire.specs.Writing.{fill_after, written_block, written_item, written_chunk, written_reason, IsWritableBlock, IsWritableItem, IsWritableChunk, IsWritableReason, IsWritableEnd, IsBlockInRange, IsSenderInRange, IsChunkInRange}
use Rattle.rtcp_wire.proofs.Appending.{same_size}
use Rattle.rtcp_wire.proofs.Fixed.{fixed_length}
use Rattle.rtcp_wire.proofs.Octets.{octet_at, number_fits, number_fits_after, both_octets, each_joined}
use Rattle.rtcp_wire.proofs.Prefixes.{length_parts, joined_lengths}
use Rattle.rtcp_wire.proofs.Written.{below_sign, from_sign, fill_few, fill_words}

-- ---- Identifiers and senders

pub id_in_range : (id : ℕ) (octets : List ℕ) → AreOctets octets → IsId id octets → id < 2 ^ 32
id_in_range id octets all h = subst (λ (x : ℕ). x < 2 ^ 32) (sym h.1) (number_fits 4 octets all)

pub sender_in_range : (sender : SenderValue) (octets : List ℕ) → AreOctets octets → sender ≡ sender_in octets →
    IsSenderInRange sender
sender_in_range sender octets all says =
    subst (λ (s : SenderValue). IsSenderInRange s) (sym says) (record {
      ssrc = number_fits 4 octets all;
      ntp = number_fits_after 4 8 octets all;
      rtp = number_fits_after 12 4 octets all;
      packets = number_fits_after 16 4 octets all;
      octets = number_fits_after 20 4 octets all;
    })

-- ---- Blocks

-- Three octets say a number of packets lost that 24 bits with a sign hold.
lost_fits : (x : ℕ) → x < 16777216 →
    (negsuc 8388607 ≤ℤ twos_complement 3 x) × (twos_complement 3 x ≤ℤ pos 8388607)
lost_fits x fits = elim (cases_lt x 8388608) [
  | inl below ↦ rw (below_sign x below) (omega (arith, ints), omega (arith, ints))
  | inr from ↦ rw (from_sign x from fits) (omega (arith, ints), omega (arith, ints))
]

module _ (block : ReportBlock) (octets : List ℕ) (all : AreOctets octets) (h : IsBlock block octets) where
  block_writable : IsWritableBlock block
  block_writable =
      let lost = lost_fits (big_number 3 (drop 5 octets)) (number_fits_after 5 3 octets all) in
      subst (λ (b : ReportBlock). IsWritableBlock b) (sym h.1) lost

  block_in_range : IsBlockInRange block
  block_in_range = subst (λ (b : ReportBlock). IsBlockInRange b) (sym h.1) (record {
    ssrc = number_fits 4 octets all;
    highest = number_fits_after 8 4 octets all;
    jitter = number_fits_after 12 4 octets all;
    lsr = number_fits_after 16 4 octets all;
    dlsr = number_fits_after 20 4 octets all;
  })

-- Blocks and an extension: 24 octets each, and the others.
module _ (blocks : List ReportBlock) (extension : List ℕ) (count : ℕ) (octets : List ℕ)
    (h : IsReportEnd blocks extension count octets) where
  end_length : length octets ≡ 24 * length blocks + length extension
  end_length =
      let parts = length_parts octets h.reports extension h.parts in
      omega (arith, parts, fixed_length 24 block_in blocks h.reports h.each)

  pub end_no_longer : length (flat_map written_block blocks ++ extension) ≤ length octets
  end_no_longer =
      let written = length-append (flat_map written_block blocks) extension in
      omega (arith, end_length, written, same_size written_block 24 (λ x. refl) blocks)

  module _ (all : AreOctets octets) where
    reports_octets : AreOctets h.reports
    reports_octets = (both_octets octets h.reports extension h.parts all).0

    pub end_writable : count ≤ 31 → length octets % 4 ≡ 0 → IsWritableEnd blocks extension
    end_writable few words = (
      omega (arith, few, h.counted),
      each_joined IsBlock IsWritableBlock block_writable blocks h.reports reports_octets h.each,
      omega (arith, words, end_length),
    )

    pub end_in_range : All IsBlockInRange blocks
    end_in_range = each_joined IsBlock IsBlockInRange block_in_range blocks h.reports reports_octets h.each

-- ---- Descriptions

item_writable : (item : ItemValue) (octets : List ℕ) → AreOctets octets → IsItem item octets → IsWritableItem item
item_writable item octets all h =
    let spelled : AreOctets (written_item item) = subst (λ (t : List ℕ). AreOctets t) h.1 all in
    let kind : item.kind < 256 = octet_at (written_item item) spelled 0 in
    let size : length item.text < 256 = octet_at (written_item item) spelled 1 in
    (not_zero item.kind h.0, omega (arith, kind), omega (arith, size))
  where
    not_zero : (n : ℕ) → (n ≡ 0 → ⊥) → 1 ≤ n
    not_zero n not = grind (arith, not)

item_no_longer : (item : ItemValue) (octets : List ℕ) → IsItem item octets →
    length (written_item item) ≤ length octets
item_no_longer item octets h = omega (arith, ap length h.1)

-- Where no more octets are written, no more words are: the zeros that fill the last word of those that are written are
-- fewer than four, and what was read fills its last word too.
filled : (size fill read free : ℕ) → size ≤ read → fill < 4 → (size + fill) % 4 ≡ 0 → (read + free) % 4 ≡ 0 →
    size + fill ≤ read + free
filled size fill read free le few words aligned = omega arith

filled_after : (size read free : ℕ) → size ≤ read → (read + free) % 4 ≡ 0 →
    size + length (fill_after size) ≤ read + free
filled_after size read free le aligned =
    filled size (length (fill_after size)) read free le (fill_few size) (fill_words size) aligned

pub chunk_no_longer : (chunk : ChunkValue) (octets : List ℕ) → IsChunk chunk octets →
    length (written_chunk chunk) ≤ length octets
chunk_no_longer chunk octets h =
    let items : List ℕ = flat_map written_item chunk.items in
    let few : length items ≤ length h.items =
    joined_lengths IsItem written_item item_no_longer chunk.items h.items h.each in
    let parts = length_parts octets h.id (h.items ++ 0 ∷ h.free) h.parts in
    let whole : length octets ≡ 4 + ((length h.items + 1) + length h.free) =
    omega (arith, parts, length-append h.items (0 ∷ h.free), h.id_size) in
    let room = filled_after (length items + 1) (length h.items + 1) (length h.free) in
    let fits = room (omega (arith, few)) (omega (arith, whole, h.aligned)) in
    omega (arith, whole, fits, length-append items (0 ∷ fill_after (length items + 1)))

module _ (chunk : ChunkValue) (octets : List ℕ) (all : AreOctets octets) (h : IsChunk chunk octets) where
  chunk_octets : AreOctets h.id × AreOctets (h.items ++ 0 ∷ h.free)
  chunk_octets = both_octets octets h.id (h.items ++ 0 ∷ h.free) h.parts all

  items_octets : AreOctets h.items
  items_octets = (both_octets (h.items ++ 0 ∷ h.free) h.items (0 ∷ h.free) refl chunk_octets.1).0

  pub chunk_writable : IsWritableChunk chunk
  chunk_writable = each_joined IsItem IsWritableItem item_writable chunk.items h.items items_octets h.each

  pub chunk_in_range : IsChunkInRange chunk
  chunk_in_range = id_in_range chunk.id h.id chunk_octets.0 (h.id_size, h.source)

-- ---- BYEs

pub reason_writable : (reason : Option (List ℕ)) (octets : List ℕ) → AreOctets octets → IsReasonPart reason octets →
    IsWritableReason reason
reason_writable None octets all h = tt {0}
reason_writable (Some text) octets all h =
    let spelled = subst (λ (t : List ℕ). AreOctets t) h.parts all in
    let size : length text < 256 = octet_at (length text ∷ (text ++ h.free)) spelled 0 in
    omega (arith, size)

pub reason_no_longer : (reason : Option (List ℕ)) (octets : List ℕ) → IsReasonPart reason octets →
    length (written_reason reason) ≤ length octets
reason_no_longer None octets h = omega arith
reason_no_longer (Some text) octets h =
    let whole : length octets ≡ (length text + 1) + length h.free =
    omega (arith, ap length h.parts, length-append text h.free) in
    let room = filled_after (length text + 1) (length text + 1) (length h.free) in
    let fits = room (omega arith) (omega (arith, whole, h.aligned)) in
    omega (arith, whole, fits, length-append text (fill_after (length text + 1)))
