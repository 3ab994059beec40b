-- What is written of a packet is one of its spellings, and what is written of packets is read back.
use Rattle.std.proofs.Common.{◌≡◌, ℕ, ◌+◌, ◌-◌, ◌/◌, ◌%◌, ◌^◌, ◌<◌, ◌≤◌, Bool, true, false, nat_eq, List, [], ◌∷◌, ◌++◌, All, length, refl, ap, subst, inl, inr, arith}
use Rattle.std.specs.List.{flat_map}
use Rattle.std.proofs.lemmas.List.{length-append, take_all}
use Rattle.std.proofs.lemmas.List.Elements.{All-head, All-append}
use Rattle.std.proofs.lemmas.List.Concat.{flat_map-append}
use Rattle.byteorder.specs.Numbers.{big_number-reads_back}
use Rattle.rtcp_wire.specs.Values.{ReportBlock, RtcpPacket, sr, rr, sdes, bye, app, other}
use Rattle.rtcp_wire.specs.Grammar.{IsBlock, IsId, IsChunk, IsReportEnd, IsBody, IsSpelling, MayBegin, IsAccepted}
use Rattle.rtcp_wire.specs.Readings.{size_of}
use Rattle.rtcp_wire.specs.Headers.{version_of, is_padded, count_of, type_of, padding_of, body_of}
use Rattle.rtcp_wire.specs.Writing.{written_word, written_block, written_sender, written_chunk, written_reason, written_header, written_body, written_count, written_type, written, written_all, IsWritableBlock, IsWritableChunk, IsWords, HasWritableParts, IsWritable, IsBlockInRange, IsChunkInRange, IsInRange, BeginsWithReport, ReadsBack}
use Rattle.rtcp_wire.proofs.Written.{joins_written, both_all, words_joined, id_written, sender_written, block_written, chunk_words, chunk_written, reason_words, reason_written}

-- ---- Bodies

-- A report's end is its blocks and its extension.
end_written : (blocks : List ReportBlock) (extension : List ℕ) → All IsWritableBlock blocks →
    All IsBlockInRange blocks → IsReportEnd blocks extension (length blocks)
    (flat_map written_block blocks ++ extension)
end_written blocks extension can fits = record {
  reports = flat_map written_block blocks;
  parts = refl;
  counted = refl;
  each = joins_written IsBlock written_block (λ b. IsWritableBlock b × IsBlockInRange b) block_written blocks
      (both_all IsWritableBlock IsBlockInRange blocks can fits);
}

-- After the header stands a body of the packet.
pub body_written : (p : RtcpPacket) → HasWritableParts p → IsInRange p →
    IsBody p (written_type p) (written_count p) (written_body p)
body_written (sr sender blocks extension) can fits = (
  refl,
  record {
    prefix = written_sender sender;
    rest = flat_map written_block blocks ++ extension;
    parts = refl;
    prefix_size = refl;
    says = sender_written sender fits.0;
    ends = end_written blocks extension can.1 fits.1;
  },
)
body_written (rr ssrc blocks extension) can fits = (
  refl,
  record {
    id = written_word ssrc;
    rest = flat_map written_block blocks ++ extension;
    parts = refl;
    sender = id_written ssrc fits.0;
    ends = end_written blocks extension can.1 fits.1;
  },
)
body_written (sdes chunks) can fits = (
  refl,
  refl,
  joins_written IsChunk written_chunk (λ c. IsWritableChunk c × IsChunkInRange c) chunk_written chunks
      (both_all IsWritableChunk IsChunkInRange chunks can.1 fits),
)
body_written (bye ids reason) can fits = (
  refl,
  record {
    prefix = flat_map written_word ids;
    rest = written_reason reason;
    parts = refl;
    counted = refl;
    each = joins_written IsId written_word (λ id. id < 2 ^ 32) id_written ids fits;
    ends = reason_written reason;
  },
)
body_written (app subtype ssrc name content) can fits =
    (refl, refl, record { id = written_word ssrc; parts = refl; source = id_written ssrc fits.0; name_size = fits.1 })
body_written (other kind count body) can fits = (can.0, refl, refl, refl)

-- Blocks and an extension are whole words.
end_words : (blocks : List ReportBlock) (extension : List ℕ) → IsWords extension →
    length (flat_map written_block blocks ++ extension) % 4 ≡ 0
end_words blocks extension words = omega (
  arith,
  length-append (flat_map written_block blocks) extension,
  words_joined written_block (λ b. refl) blocks,
  words,
)

-- A body is whole words.
pub body_words : (p : RtcpPacket) → HasWritableParts p → IsInRange p → length (written_body p) % 4 ≡ 0
body_words (sr sender blocks extension) can fits = omega (arith, end_words blocks extension can.2)
body_words (rr ssrc blocks extension) can fits = omega (arith, end_words blocks extension can.2)
body_words (sdes chunks) can fits = words_joined written_chunk chunk_words chunks
body_words (bye ids reason) can fits = omega (
  arith,
  length-append (flat_map written_word ids) (written_reason reason),
  words_joined written_word (λ x. refl) ids,
  reason_words reason,
)
body_words (app subtype ssrc name content) can fits = omega (arith, length-append name content, can.1, fits.1)
body_words (other kind count body) can fits = can.2

-- The five bits of the header have room for the count.
count_few : (p : RtcpPacket) → HasWritableParts p → written_count p ≤ 31
count_few (sr sender blocks extension) can = can.0
count_few (rr ssrc blocks extension) can = can.0
count_few (sdes chunks) can = can.0
count_few (bye ids reason) can = can.0
count_few (app subtype ssrc name content) can = can.0
count_few (other kind count body) can = can.1

-- ---- Headers

-- a test of two numbers that are not the same
not_same : (n : ℕ) → n ≡ 0 → nat_eq n 1 ≡ false
not_same n e = ap (λ (m : ℕ). nat_eq m 1) e

-- A written header says what it is made of.
pub record SaysHeader (count kind : ℕ) (body octets : List ℕ) : Type 0 where
  pub version : version_of octets ≡ 2
  pub clear : is_padded octets ≡ false
  pub its_count : count_of octets ≡ count
  pub its_type : type_of octets ≡ kind
  pub size : size_of octets ≡ length body + 4
  pub its_body : body_of octets ≡ body

pub header_written : (count kind : ℕ) (body : List ℕ) → count ≤ 31 → length body ≤ 262140 → length body % 4 ≡ 0 →
    SaysHeader count kind body (written_header count kind (length body) ++ body)
header_written count kind body few short words =
    let octets : List ℕ = written_header count kind (length body) ++ body in
    let clear : is_padded octets ≡ false = not_same ((128 + count) / 32 % 2) (omega arith) in
    let size : size_of octets ≡ length body + 4 =
    omega (arith, big_number-reads_back 2 (length body / 4) body (omega arith)) in
    let none : padding_of octets ≡ 0 = rw clear refl in
    record {
      version = omega arith;
      clear = clear;
      its_count = omega arith;
      its_type = refl;
      size = size;
      its_body = take_all (size_of octets - 4 - padding_of octets) body (omega (arith, size, none));
    }

-- the header of a packet
packet_header : (p : RtcpPacket) → IsWritable p → IsInRange p →
    SaysHeader (written_count p) (written_type p) (written_body p) (written p)
packet_header p can fits = header_written (written_count p) (written_type p) (written_body p) (count_few p can.parts)
    (omega (arith, can.size)) (body_words p can.parts fits)

-- ---- Packets

-- a body, under a type, a count and octets that are the same
same_body_of : (p : RtcpPacket) (kind k count n : ℕ) (body b : List ℕ) → kind ≡ k → count ≡ n → body ≡ b →
    IsBody p k n b → IsBody p kind count body
same_body_of p kind k count n body b e f g h = rw (e, f, g) h

pub written_is_spelling : (p : RtcpPacket) → IsWritable p → IsInRange p →
    IsSpelling p (written p) × (is_padded (written p) ≡ false)
written_is_spelling p can fits =
    let header = packet_header p can fits in (
      record {
        version = header.version;
        size = omega (arith, header.size);
        padding = (λ set. absurd (true_not_false (is_padded (written p)) set header.clear));
        body = same_body_of p (type_of (written p)) (written_type p) (count_of (written p)) (written_count p)
            (body_of (written p)) (written_body p) header.its_type header.its_count header.its_body
            (body_written p can.parts fits);
      },
      header.clear,
    )
  where
    true_not_false : (b : Bool) → b ≡ true → b ≡ false → ⊥
    true_not_false b e f = cc

-- ---- Compounds

-- A report at the start may begin a datagram.
begins_written : (ps : List RtcpPacket) → All IsWritable ps → All IsInRange ps → BeginsWithReport ps →
    MayBegin (written_all ps)
begins_written [] can fits begins = absurd begins
begins_written (sr sender blocks extension ∷ ps) can fits begins = (
  inl refl,
  (packet_header (sr sender blocks extension) (All-head IsWritable _ ps can)
      (All-head IsInRange _ ps fits)).clear,
)
begins_written (rr ssrc blocks extension ∷ ps) can fits begins = (
  inr refl,
  (packet_header (rr ssrc blocks extension) (All-head IsWritable _ ps can)
      (All-head IsInRange _ ps fits)).clear,
)
begins_written (_ ∷ ps) can fits begins = absurd begins

-- Packets that are written, the first a report, are read back.
pub reads_back : (ps : List RtcpPacket) → All IsWritable ps → All IsInRange ps → length (written_all ps) ≤ 65535 →
    ReadsBack (written_all ps) ps
reads_back ps can fits short begins = record {
  short = short;
  begins = begins_written ps can fits begins;
  joined = joins_written IsSpelling written (λ p. IsWritable p × IsInRange p)
      (λ p both. (written_is_spelling p both.0 both.1).0) ps (both_all IsWritable IsInRange ps can fits);
}

-- Packets that are written after others, the first of all a report, are read back together.
pub read_back_together : (first others : List RtcpPacket) → All IsWritable first → All IsWritable others →
    All IsInRange first → All IsInRange others → BeginsWithReport (first ++ others) →
    length (written_all first ++ written_all others) ≤ 65535 →
    IsAccepted (written_all first ++ written_all others) (first ++ others)
read_back_together first others can also fits fit begins short =
    let whole : written_all (first ++ others) ≡ written_all first ++ written_all others =
    flat_map-append written first others in
    let room : length (written_all (first ++ others)) ≤ 65535 = omega (arith, ap length whole, short) in
    let all_can = All-append IsWritable first others can also in
    let all_fit = All-append IsInRange first others fits fit in
    let accepted = reads_back (first ++ others) all_can all_fit room begins in
    subst (λ (t : List ℕ). IsAccepted t (first ++ others)) whole accepted
