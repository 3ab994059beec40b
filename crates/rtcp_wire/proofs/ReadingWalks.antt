-- A walk over encodings of packets reads these packets.
use Rattle.std.proofs.Common.{◌≡◌, ℕ, suc, ◌+◌, ◌-◌, ◌*◌, ◌/◌, ◌%◌, ◌<◌, ◌≤◌, false, ◌==◌, if◌then◌else◌, List, [], ◌∷◌, ◌++◌, length, take, drop, Option, Some, None, refl, sym, ap, subst, ◌∙◌, append_assoc, append-nil, arith}
use Rattle.std.proofs.Math.Seq.{take-append_seam, drop-append_seam}
use Rattle.std.proofs.lemmas.Bool.{ne_eqb}
use Rattle.std.proofs.lemmas.List.{length-append}
use Rattle.std.proofs.lemmas.List.Sums.{sum_by-append}
use Rattle.byteorder.specs.Endian.{big_number}
use Rattle.rtcp_wire.specs.Values.{ReportBlock, ItemValue, ChunkValue, RtcpPacket, sr, rr, sdes, bye, app, other}
use Rattle.rtcp_wire.specs.Grammar.{Joins, IsItem, IsChunk, IsReportEnd, IsReasonPart, IsOtherType, IsBody, IsSpelling, IsAccepted}
use Rattle.rtcp_wire.specs.Readings.{size_of, block_in, sender_in, values_in}
use Rattle.rtcp_wire.specs.Headers.{type_of, count_of, body_of}
use Rattle.rtcp_wire.specs.Walks.{blocks_in, ids_in, item_in, items_after, chunk_in, items_size, chunk_size, chunks_in, reason_in, body_says, packet_in, packets_after, packets_in}
use Rattle.rtcp_wire.specs.Validity.{IsSomeDatagram}
use Rattle.rtcp_wire.proofs.Prefixes.{length_parts}
use Rattle.rtcp_wire.proofs.Fixed.{Says, fixed_length}
use Rattle.rtcp_wire.proofs.Spellings.{spelling_parts, spelling_length}

-- ---- Parts of a whole

module _ {A : Type 0} (size : ℕ) (a r : List A) (is : length a ≡ size) where
  pub first_part : take size (a ++ r) ≡ a
  first_part = ap (λ (n : ℕ). take n (a ++ r)) (sym is) ∙ take-append_seam a r

  pub other_part : drop size (a ++ r) ≡ r
  other_part = ap (λ (n : ℕ). drop n (a ++ r)) (sym is) ∙ drop-append_seam a r

-- ---- Blocks and identifiers

pub values_read : {A : Type 0} (size : ℕ) (value : List ℕ → A) (xs : List A) (a r : List ℕ) →
    Joins (Says size value) xs a → values_in size value (length xs) (a ++ r) ≡ xs
values_read size value [] a r h = refl
values_read {A = A} size value (x ∷ xs) a r h =
    let whole : a ++ r ≡ h.0 ++ (h.1 ++ r) = ap (λ (t : List ℕ). t ++ r) h.2 ∙ append_assoc h.0 h.1 r in
    let first : take size (a ++ r) ≡ h.0 = ap (take size) whole ∙ first_part size h.0 (h.1 ++ r) h.3.0 in
    let others : drop size (a ++ r) ≡ h.1 ++ r = ap (drop size) whole ∙ other_part size h.0 (h.1 ++ r) h.3.0 in
    let head : value (take size (a ++ r)) ≡ x = ap value first ∙ sym h.3.1 in
    let rest : values_in size value (length xs) (drop size (a ++ r)) ≡ xs = ap (values_in size value (length xs)) others
    ∙ values_read size value xs h.1 r h.4 in
    λ i. head i ∷ rest i

-- what follows them
after_values : {A : Type 0} (size : ℕ) (value : List ℕ → A) (xs : List A) (a r : List ℕ) →
    Joins (Says size value) xs a → drop (size * length xs) (a ++ r) ≡ r
after_values size value xs a r h = other_part (size * length xs) a r (fixed_length size value xs a h)

-- ---- Items

items_skipped : (a r : List ℕ) → items_after (length a) (a ++ r) ≡ items_after 0 r
items_skipped [] r = refl
items_skipped (o ∷ a) r = items_skipped a r

not_zero : (kind : ℕ) → (kind ≡ 0 → ⊥) → (kind == 0) ≡ false
not_zero kind is = ne_eqb kind 0 is

pub first_item : (item : ItemValue) (rest : List ℕ) → (item.kind ≡ 0 → ⊥) →
    items_after 0 (item.kind ∷ length item.text ∷ (item.text ++ rest)) ≡ item ∷ items_after 0 rest
first_item item rest some =
    let text : take (length item.text) (item.text ++ rest) ≡ item.text = take-append_seam item.text rest in
    let read : item_in item.kind (length item.text ∷ (item.text ++ rest)) ≡ item =
    λ i. record { kind = item.kind; text = text i } in
    ap (λ b. if b then [] else item_in item.kind (length item.text ∷ (item.text ++ rest)) ∷ items_after
    (suc (length item.text)) (length item.text ∷ (item.text ++ rest))) (not_zero item.kind some)
    ∙ (λ i. read i ∷ items_skipped item.text rest i)

items_read : (items : List ItemValue) (a r : List ℕ) → Joins IsItem items a → items_after 0 (a ++ 0 ∷ r) ≡ items
items_read [] a r h = ap (λ (t : List ℕ). items_after 0 (t ++ 0 ∷ r)) h
items_read (item ∷ items) a r h =
    let whole : a ++ 0 ∷ r ≡ item.kind ∷ length item.text ∷ (item.text ++ (h.1 ++ 0 ∷ r)) =
    ap (λ (t : List ℕ). t ++ 0 ∷ r) (h.2 ∙ ap (λ (t : List ℕ). t ++ h.1) h.3.1)
    ∙ ap (λ (t : List ℕ). item.kind ∷ length item.text ∷ t) (append_assoc item.text h.1 (0 ∷ r)) in
    ap (items_after 0) whole
    ∙ first_item item (h.1 ++ 0 ∷ r) h.3.0
    ∙ ap (λ (t : List ItemValue). item ∷ t) (items_read items h.1 r h.4)

pub items_length : (items : List ItemValue) (a : List ℕ) → Joins IsItem items a → length a ≡ items_size items
items_length [] a h = ap length h
items_length (item ∷ items) a h =
    let one = sum_by-append (λ (i : ItemValue). length i.text + 2) (item ∷ []) items in
    omega (arith, one, length_parts a h.0 h.1 h.2, ap length h.3.1, items_length items h.1 h.4)

-- ---- Chunks

to_the_word : (items free whole : ℕ) → whole ≡ 5 + (items + free) → free < 4 → whole % 4 ≡ 0 →
    4 * ((items + 8) / 4) ≡ whole
to_the_word items free whole is few aligned = omega arith

module _ (chunk : ChunkValue) (a r : List ℕ) (h : IsChunk chunk a) where
  pub chunk_parts : a ++ r ≡ h.id ++ (h.items ++ 0 ∷ (h.free ++ r))
  chunk_parts = ap (λ (t : List ℕ). t ++ r) h.parts ∙ append_assoc h.id (h.items ++ 0 ∷ h.free) r
      ∙ ap (λ (t : List ℕ). h.id ++ t) (append_assoc h.items (0 ∷ h.free) r)

  pub chunk_read : chunk_in (a ++ r) ≡ chunk
  chunk_read =
      let id : big_number 4 (take 4 (a ++ r)) ≡ chunk.id = ap (λ t. big_number 4 (take 4 t)) chunk_parts
      ∙ ap (big_number 4) (first_part 4 h.id (h.items ++ 0 ∷ (h.free ++ r)) h.id_size) ∙ sym h.source in
      let items : items_after 0 (drop 4 (a ++ r)) ≡ chunk.items = ap (λ t. items_after 0 (drop 4 t)) chunk_parts
      ∙ ap (items_after 0) (other_part 4 h.id (h.items ++ 0 ∷ (h.free ++ r)) h.id_size)
      ∙ items_read chunk.items h.items (h.free ++ r) h.each in
      λ i. record { id = id i; items = items i }

  pub chunk_length : chunk_size chunk.items ≡ length a
  chunk_length =
      let whole : length a ≡ 5 + (length h.items + length h.free) =
      omega (
        arith,
        length_parts a h.id (h.items ++ 0 ∷ h.free) h.parts,
        length-append h.items (0 ∷ h.free),
        h.id_size,
      ) in
      let size = items_length chunk.items h.items h.each in
      to_the_word (items_size chunk.items) (length h.free) (length a) (omega (arith, whole, size)) h.fill h.aligned

  pub after_chunk : drop (chunk_size (chunk_in (a ++ r)).items) (a ++ r) ≡ r
  after_chunk = ap (λ (c : ChunkValue). drop (chunk_size c.items) (a ++ r)) chunk_read
      ∙ other_part (chunk_size chunk.items) a r (sym chunk_length)

chunks_read : (chunks : List ChunkValue) (a r : List ℕ) → Joins IsChunk chunks a →
    chunks_in (length chunks) (a ++ r) ≡ chunks
chunks_read [] a r h = refl
chunks_read (chunk ∷ chunks) a r h =
    let whole : a ++ r ≡ h.0 ++ (h.1 ++ r) = ap (λ (t : List ℕ). t ++ r) h.2 ∙ append_assoc h.0 h.1 r in
    ap (chunks_in (suc (length chunks))) whole
    ∙ (λ i. chunk_read chunk h.0 (h.1 ++ r) h.3 i ∷ chunks_in (length chunks) (after_chunk chunk h.0 (h.1 ++ r) h.3 i))
    ∙ ap (λ (t : List ChunkValue). chunk ∷ t) (chunks_read chunks h.1 r h.4)

-- ---- Bodies

reason_read : (reason : Option (List ℕ)) (octets : List ℕ) → IsReasonPart reason octets → reason_in octets ≡ reason
reason_read None octets h = ap reason_in h
reason_read (Some text) octets h = ap reason_in h.parts ∙ ap Some (take-append_seam text h.free)

module _ (blocks : List ReportBlock) (extension : List ℕ) (count : ℕ) (octets : List ℕ)
    (h : IsReportEnd blocks extension count octets) where
  blocks_read : blocks_in count octets ≡ blocks
  blocks_read =
      (λ i. blocks_in (sym h.counted i) (h.parts i)) ∙ values_read 24 block_in blocks h.reports extension h.each

  extension_read : drop (24 * count) octets ≡ extension
  extension_read =
      (λ i. drop (24 * sym h.counted i) (h.parts i)) ∙ after_values 24 block_in blocks h.reports extension h.each

other_type : (kind : ℕ) → IsOtherType kind → (k : ℕ) → 200 ≤ k → k ≤ 204 → (kind == k) ≡ false
other_type kind is k low high = ne_eqb kind k (λ same. omega (arith, same, is, low, high))

body_read : (packet : RtcpPacket) (kind count : ℕ) (body : List ℕ) → IsBody packet kind count body →
    body_says kind count body ≡ packet
body_read (sr sender blocks extension) kind count body h =
    let first : take 24 body ≡ h.1.prefix = ap (take 24) h.1.parts
    ∙ first_part 24 h.1.prefix h.1.rest h.1.prefix_size in
    let rest : drop 24 body ≡ h.1.rest = ap (drop 24) h.1.parts ∙ other_part 24 h.1.prefix h.1.rest h.1.prefix_size in
    ap (λ k. body_says k count body) h.0
    ∙ (λ i. sr (sender_in (first i)) (blocks_in count (rest i)) (drop (24 * count) (rest i)))
    ∙ (λ i. sr (sym h.1.says i) (blocks_read blocks extension count h.1.rest h.1.ends i)
    (extension_read blocks extension count h.1.rest h.1.ends i))
body_read (rr ssrc blocks extension) kind count body h =
    let first : take 4 body ≡ h.1.id = ap (take 4) h.1.parts ∙ first_part 4 h.1.id h.1.rest h.1.sender.0 in
    let rest : drop 4 body ≡ h.1.rest = ap (drop 4) h.1.parts ∙ other_part 4 h.1.id h.1.rest h.1.sender.0 in
    ap (λ k. body_says k count body) h.0
    ∙ (λ i. rr (big_number 4 (first i)) (blocks_in count (rest i)) (drop (24 * count) (rest i)))
    ∙ (λ i. rr (sym h.1.sender.1 i) (blocks_read blocks extension count h.1.rest h.1.ends i)
    (extension_read blocks extension count h.1.rest h.1.ends i))
body_read (sdes chunks) kind count body h =
    ap (λ k. body_says k count body) h.0
    ∙ ap sdes ((λ i. chunks_in (sym h.1 i) (sym (append-nil body) i)) ∙ chunks_read chunks body [] h.2)
body_read (bye ids reason) kind count body h =
    let read : ids_in count body ≡ ids = (λ i. ids_in (sym h.1.counted i) (h.1.parts i))
    ∙ values_read 4 (big_number 4) ids h.1.prefix h.1.rest h.1.each in
    let rest : drop (4 * count) body ≡ h.1.rest = (λ i. drop (4 * sym h.1.counted i) (h.1.parts i))
    ∙ after_values 4 (big_number 4) ids h.1.prefix h.1.rest h.1.each in
    ap (λ k. body_says k count body) h.0
    ∙ (λ i. bye (read i) (reason_in (rest i)))
    ∙ ap (bye ids) (reason_read reason h.1.rest h.1.ends)
body_read (app subtype ssrc name content) kind count body h =
    let first : take 4 body ≡ h.2.id = ap (take 4) h.2.parts ∙ first_part 4 h.2.id (name ++ content) h.2.source.0 in
    let rest : drop 4 body ≡ name ++ content = ap (drop 4) h.2.parts
    ∙ other_part 4 h.2.id (name ++ content) h.2.source.0 in
    ap (λ k. body_says k count body) h.0
    ∙ (λ i. app count (big_number 4 (first i)) (take 4 (rest i)) (drop 4 (rest i)))
    ∙ (λ i. app (sym h.1 i) (sym h.2.source.1 i) (first_part 4 name content h.2.name_size i)
    (other_part 4 name content h.2.name_size i))
body_read (other its_kind its_count its_body) kind count body h =
    let not_sr = other_type kind h.0 200 (omega arith) (omega arith) in
    let not_rr = other_type kind h.0 201 (omega arith) (omega arith) in
    let not_sdes = other_type kind h.0 202 (omega arith) (omega arith) in
    let not_bye = other_type kind h.0 203 (omega arith) (omega arith) in
    let not_app = other_type kind h.0 204 (omega arith) (omega arith) in
    rw (not_sr, not_rr, not_sdes, not_bye, not_app) (λ i. other (sym h.1 i) (sym h.2 i) (sym h.3 i))

-- ---- Packets

packets_skipped : (a r : List ℕ) → packets_after (length a) (a ++ r) ≡ packets_after 0 r
packets_skipped [] r = refl
packets_skipped (o ∷ a) r = packets_skipped a r

pub packet_read : (packet : RtcpPacket) (a r : List ℕ) → IsSpelling packet a → packet_in (a ++ r) ≡ packet
packet_read packet a r h =
    let parts = spelling_parts packet a r h in
    (λ i. body_says (parts.header.kind i) (parts.header.count i) (parts.body i))
    ∙ body_read packet (type_of a) (count_of a) (body_of a) h.body

pub first_packet : (packet : RtcpPacket) (a r : List ℕ) → IsSpelling packet a →
    packets_after 0 (a ++ r) ≡ packet ∷ packets_after 0 r
first_packet packet [] r h = absurd (omega (arith, spelling_length packet [] h))
first_packet packet (o ∷ a) r h =
    let size : size_of (o ∷ (a ++ r)) ≡ suc (length a) = (spelling_parts packet (o ∷ a) r h).header.size ∙ sym h.size in
    let left : size_of (o ∷ (a ++ r)) - 1 ≡ length a = omega (arith, size) in
    (λ i. packet_read packet (o ∷ a) r h i ∷ packets_after (left i) (a ++ r))
    ∙ ap (λ (t : List RtcpPacket). packet ∷ t) (packets_skipped a r)

pub walk_reads : (packets : List RtcpPacket) (octets : List ℕ) → Joins IsSpelling packets octets →
    packets_in octets ≡ packets
walk_reads [] octets h = ap (packets_after 0) h
walk_reads (packet ∷ packets) octets h =
    ap (packets_after 0) h.2 ∙ first_packet packet h.0 h.1 h.3 ∙ ap (λ (t : List RtcpPacket). packet ∷ t)
    (walk_reads packets h.1 h.4)

-- Where packets are accepted, they are those that the walk reads.
pub accepted_as_read : (datagram : List ℕ) → IsSomeDatagram datagram → IsAccepted datagram (packets_in datagram)
accepted_as_read datagram some = subst (IsAccepted datagram) (sym (walk_reads some.0 datagram some.1.joined)) some.1
