-- Each part that is written is a spelling of its value.
use Rattle.std.proofs.Common.{◌≡◌, ℕ, ℤ, pos, negsuc, ◌≤ℤ◌, ◌+◌, ◌-◌, ◌%◌, ◌^◌, ◌<◌, ◌≤◌, List, [], ◌∷◌, ◌++◌, All, Option, Some, None, length, drop, refl, sym, ap, ◌∙◌, arith}
use Rattle.std.specs.Int.{w64}
use Rattle.std.specs.List.{flat_map}
use Rattle.std.proofs.lemmas.Bool.Decides.{nat_tests}
use Rattle.std.proofs.lemmas.Int.{ints}
use Rattle.std.proofs.lemmas.List.{length-append, length-replicate}
use Rattle.std.proofs.lemmas.List.Elements.{All-head, All-tail}
use Rattle.byteorder.specs.Endian.{big_number, low_bytes, twos_complement}
use Rattle.byteorder.specs.Numbers.{big_number-reads_back}
use Rattle.rtcp_wire.specs.Values.{SenderValue, ReportBlock, ItemValue, ChunkValue}
use Rattle.rtcp_wire.specs.Grammar.{Joins, IsBlock, IsId, IsItem, IsChunk, IsReasonPart}
use Rattle.rtcp_wire.specs.Readings.{sender_in}
use Rattle.rtcp_wire.specs.Writing.{fill_after, written_word, written_block, written_sender, written_item, written_chunk, written_reason, IsWritableBlock, IsWritableItem, IsWritableChunk, IsBlockInRange, IsSenderInRange, IsChunkInRange}
use Rattle.rtcp_wire.proofs.Joining.{Joins-cons}

-- ---- Lists

-- Where each value's octets spell it, all of them are joined.
pub joins_written : {A : Type 0} (S : A → List ℕ → Type 0) (f : A → List ℕ) (P : A → Type 0) →
    ((x : A) → P x → S x (f x)) → (xs : List A) → All P xs → Joins S xs (flat_map f xs)
joins_written S f P each [] all = refl
joins_written S f P each (x ∷ xs) all = Joins-cons S x xs (f x) (flat_map f xs) (each x (All-head P x xs all))
    (joins_written S f P each xs (All-tail P x xs all))

-- what holds of each value in two ways
pub both_all : {A : Type 0} (P Q : A → Type 0) (xs : List A) → All P xs → All Q xs → All (λ x. P x × Q x) xs
both_all P Q xs all also k d lt = (all k d lt, also k d lt)

-- Where each value has whole words, all have.
pub words_joined : {A : Type 0} (f : A → List ℕ) → ((x : A) → length (f x) % 4 ≡ 0) → (xs : List A) →
    length (flat_map f xs) % 4 ≡ 0
words_joined f each [] = refl
words_joined f each (x ∷ xs) = omega (arith, each x, words_joined f each xs, length-append (f x) (flat_map f xs))

-- ---- Numbers

-- a number of a word, whatever follows
pub word_back : (x : ℕ) (rest : List ℕ) → x < 2 ^ 32 → x ≡ big_number 4 (written_word x ++ rest)
word_back x rest fits = sym (big_number-reads_back 4 x rest fits)

pub id_written : (x : ℕ) → x < 2 ^ 32 → IsId x (written_word x)
id_written x fits = (refl, word_back x [] fits)

-- Three octets say the packets lost.
low_fits : (z : ℤ) → low_bytes w64 3 z < 256 ^ 3
low_fits z = omega arith

-- a number of 24 bits without the sign bit
pub below_sign : (x : ℕ) → x < 8388608 → twos_complement 3 x ≡ pos x
below_sign x lt = grind (arith, nat_tests)

-- a number of 24 bits with the sign bit
pub from_sign : (x : ℕ) → 8388608 ≤ x → x < 16777216 → twos_complement 3 x ≡ negsuc (16777215 - x)
from_sign x le lt = grind (arith, nat_tests)

lost_back : (z : ℤ) → negsuc 8388607 ≤ℤ z → z ≤ℤ pos 8388607 → twos_complement 3 (low_bytes w64 3 z) ≡ z
lost_back (pos n) low high =
    let few : n ≤ 8388607 = omega (arith, ints) in
    let same : low_bytes w64 3 (pos n) ≡ n = omega arith in
    ap (twos_complement 3) same ∙ below_sign n (omega arith)
lost_back (negsuc n) low high =
    let few : n ≤ 8388607 = omega (arith, ints) in
    let same : low_bytes w64 3 (negsuc n) ≡ 16777215 - n = omega arith in
    ap (twos_complement 3) same ∙ from_sign (16777215 - n) (omega arith) (omega arith) ∙ ap negsuc (omega arith)

-- ---- Reports

-- Equal fields make an equal sender,
same_sender : (v : SenderValue) (a b c d e : ℕ) → v.ssrc ≡ a → v.ntp ≡ b → v.rtp ≡ c → v.packets ≡ d → v.octets ≡ e →
    v ≡ record { ssrc = a; ntp = b; rtp = c; packets = d; octets = e }
same_sender v a b c d e p q r s t = rw (← p, ← q, ← r, ← s, ← t) refl

-- and an equal block.
same_block : (v : ReportBlock) (a b : ℕ) (z : ℤ) (c d e f : ℕ) → v.ssrc ≡ a → v.fraction ≡ b → v.lost ≡ z →
    v.highest ≡ c → v.jitter ≡ d → v.lsr ≡ e → v.dlsr ≡ f →
    v ≡ record { ssrc = a; fraction = b; lost = z; highest = c; jitter = d; lsr = e; dlsr = f }
same_block v a b z c d e f p q r s t u w = rw (← p, ← q, ← r, ← s, ← t, ← u, ← w) refl

pub sender_written : (sender : SenderValue) → IsSenderInRange sender → sender ≡ sender_in (written_sender sender)
sender_written sender fits =
    let octets : List ℕ = written_sender sender in
    same_sender sender (big_number 4 octets) (big_number 8 (drop 4 octets)) (big_number 4 (drop 12 octets))
    (big_number 4 (drop 16 octets)) (big_number 4 (drop 20 octets))
    (word_back sender.ssrc (drop 4 octets) fits.ssrc)
    (sym (big_number-reads_back 8 sender.ntp (drop 12 octets) fits.ntp))
    (word_back sender.rtp (drop 16 octets) fits.rtp)
    (word_back sender.packets (drop 20 octets) fits.packets)
    (word_back sender.octets [] fits.octets)

-- The packets lost follow the fraction.
lost_written : (block : ReportBlock) → IsWritableBlock block →
    block.lost ≡ twos_complement 3 (big_number 3 (drop 5 (written_block block)))
lost_written block is =
    sym (ap (twos_complement 3) (big_number-reads_back 3 (low_bytes w64 3 block.lost) (drop 8 (written_block block))
    (low_fits block.lost)) ∙ lost_back block.lost is.0 is.1)

pub block_written : (block : ReportBlock) → IsWritableBlock block × IsBlockInRange block →
    IsBlock block (written_block block)
block_written block is =
    let octets : List ℕ = written_block block in
    let fits = is.1 in (
      refl,
      same_block block (big_number 4 octets) block.fraction (twos_complement 3 (big_number 3 (drop 5 octets)))
          (big_number 4 (drop 8 octets)) (big_number 4 (drop 12 octets)) (big_number 4 (drop 16 octets))
          (big_number 4 (drop 20 octets))
          (word_back block.ssrc (drop 4 octets) fits.ssrc)
          refl
          (lost_written block is.0)
          (word_back block.highest (drop 12 octets) fits.highest)
          (word_back block.jitter (drop 16 octets) fits.jitter)
          (word_back block.lsr (drop 20 octets) fits.lsr)
          (word_back block.dlsr [] fits.dlsr),
    )

-- ---- Fill

-- The fill is less than a word,
pub fill_few : (n : ℕ) → length (fill_after n) < 4
fill_few n = omega (arith, length-replicate {A = ℕ} ((4 - n % 4) % 4) 0)

-- and ends one.
pub fill_words : (n : ℕ) → (n + length (fill_after n)) % 4 ≡ 0
fill_words n = omega (arith, length-replicate {A = ℕ} ((4 - n % 4) % 4) 0)

-- ---- Descriptions

pub item_written : (item : ItemValue) → IsWritableItem item → IsItem item (written_item item)
item_written item is = ((λ none. absurd (omega (arith, none, is.0))), refl)

-- A chunk is whole words.
pub chunk_words : (chunk : ChunkValue) → length (written_chunk chunk) % 4 ≡ 0
chunk_words chunk =
    let items : List ℕ = flat_map written_item chunk.items in
    omega (arith, length-append items (0 ∷ fill_after (length items + 1)), fill_words (length items + 1))

pub chunk_written : (chunk : ChunkValue) → IsWritableChunk chunk × IsChunkInRange chunk →
    IsChunk chunk (written_chunk chunk)
chunk_written chunk is =
    let items : List ℕ = flat_map written_item chunk.items in
    record {
      id = written_word chunk.id;
      items = items;
      free = fill_after (length items + 1);
      parts = refl;
      id_size = refl;
      source = word_back chunk.id [] is.1;
      each = joins_written IsItem written_item IsWritableItem item_written chunk.items is.0;
      fill = fill_few (length items + 1);
      aligned = chunk_words chunk;
    }

-- ---- BYEs

-- A reason is whole words.
pub reason_words : (reason : Option (List ℕ)) → length (written_reason reason) % 4 ≡ 0
reason_words None = refl
reason_words (Some text) = omega (
  arith,
  length-append text (fill_after (length text + 1)),
  fill_words (length text + 1),
)

pub reason_written : (reason : Option (List ℕ)) → IsReasonPart reason (written_reason reason)
reason_written None = refl
reason_written (Some text) = record {
  free = fill_after (length text + 1);
  parts = refl;
  fill = fill_few (length text + 1);
  aligned = reason_words (Some text);
}
