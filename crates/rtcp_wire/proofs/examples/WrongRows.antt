-- What would be wrong: each statement here is a law with a number moved, a premise left out or a part added, and there
-- is a datagram, an RTP packet or a list of packets of which it does not hold.
use Rattle.std.proofs.Common.{◌≡◌, ℕ, zero, suc, ◌+◌, ◌<◌, ◌≤◌, ◌^◌, ◌≤ℤ◌, pos, List, [], ◌∷◌, ◌++◌, length, replicate, nat_lt, All, true, false, Option, Some, None, refl, ap, arith, inr}
use Rattle.std.specs.List.{list_all}
use Rattle.std.proofs.lemmas.Bool.{ltb-true}
use Rattle.std.proofs.lemmas.List.Elements.{All-nil, All-head, All-weaker, All-from_recursion}
use Rattle.std.proofs.lemmas.List.Sums.{AllPass-from_list_all}
use Rattle.rtcp_wire.specs.Values.{ReportBlock, ItemValue, RtcpPacket, rr, sdes, bye, RtpValue}
use Rattle.rtcp_wire.specs.Grammar.{AreOctets, Joins, IsAccepted}
use Rattle.rtcp_wire.specs.Readings.{block_in}
use Rattle.rtcp_wire.specs.RtpHeads.{IsReserved, IsCsrc, IsRtpHead}
use Rattle.rtcp_wire.specs.Writing.{written_all, IsWritable, IsWritableBlock, IsWritableItem, IsWritableChunk, IsWritableReason, IsInRange, IsBlockInRange, IsChunkInRange, BeginsWithReport}
use Rattle.rtcp_wire.specs.Contents.{all_items, all_goodbyes, all_blocks}
use Rattle.rtcp_wire.specs.Facts.{facts_of}
use Rattle.rtcp_wire.proofs.LawLemmas.{one_reading, reads_back}
use Rattle.rtcp_wire.proofs.examples.RtpRows.{in_parts}
use Rattle.rtcp_wire.proofs.examples.Rows.{unpadded, empty_spelled, of_seven, alone_accepted, report, report_accepted, after_accepted, padded, padded_accepted}

are_octets : (octets : List ℕ) → list_all (λ octet. nat_lt octet 256) octets ≡ true → AreOctets octets
are_octets octets is =
    All-weaker (λ (octet : ℕ). nat_lt octet 256 ≡ true) (λ (octet : ℕ). octet < 256) (λ octet. ltb-true octet 256)
    octets
    (AllPass-from_list_all (λ octet. nat_lt octet 256) octets is)

-- ---- RTP packets: the greatest numbers of a head

abbrev fixed : List ℕ
fixed = 143 ∷ 127 ∷ 255 ∷ 255 ∷ 255 ∷ 255 ∷ 255 ∷ 255 ∷ 0 ∷ 0 ∷ 0 ∷ 3 ∷ []

-- so many words of one CSRC, 4
abbrev words : ℕ → List ℕ
words zero = []
words (suc n) = 0 ∷ 0 ∷ 0 ∷ 4 ∷ words n

each_csrc : (n : ℕ) → Joins IsCsrc (replicate n 4) (words n)
each_csrc zero = refl
each_csrc (suc n) = (0 ∷ 0 ∷ 0 ∷ 4 ∷ [], words n, refl, (refl, refl), each_csrc n)

abbrev greatest : RtpValue
greatest = record {
  payload_type = 127;
  marker = false;
  sequence = 65535;
  timestamp = 4294967295;
  ssrc = 3;
  csrcs = replicate 15 4;
  payload = [];
}

abbrev its_octets : List ℕ
its_octets = fixed ++ words 15

not_reserved : IsReserved 127 → ⊥
not_reserved is = omega (arith, is.1)

greatest_read : IsRtpHead its_octets greatest
greatest_read = in_parts fixed (words 15) [] [] refl (search not_reserved) refl (each_csrc 15) refl refl

octets_of_greatest : AreOctets its_octets
octets_of_greatest = are_octets its_octets refl

csrcs_at_most_14 : ((octets : List ℕ) (head : RtpValue) → IsRtpHead octets head → length head.csrcs ≤ 14) → ⊥
csrcs_at_most_14 law =
    let fifteen : 15 ≤ 14 = law its_octets greatest greatest_read in
    omega (arith, fifteen)

payload_type_below_127 : ((octets : List ℕ) (head : RtpValue) → IsRtpHead octets head →
    (head.payload_type < 127) × (IsReserved head.payload_type → ⊥)) → ⊥
payload_type_below_127 law =
    let below : 127 < 127 = (law its_octets greatest greatest_read).0 in
    omega (arith, below)

sequence_below_65535 : ((octets : List ℕ) (head : RtpValue) → AreOctets octets → IsRtpHead octets head →
    head.sequence < 65535) → ⊥
sequence_below_65535 law =
    let below : 65535 < 65535 = law its_octets greatest octets_of_greatest greatest_read in
    omega (arith, below)

timestamps_of_31_bits : ((octets : List ℕ) (head : RtpValue) → AreOctets octets → IsRtpHead octets head →
    (head.timestamp < 2 ^ 31) × (head.ssrc < 2 ^ 32) × All (λ csrc. csrc < 2 ^ 32) head.csrcs) → ⊥
timestamps_of_31_bits law =
    let below : 4294967295 < 2147483648 = (law its_octets greatest octets_of_greatest greatest_read).0 in
    omega (arith, below)

-- ---- What is accepted: one packet, in as many octets as are written of it, and one fact

always_two_packets : ((octets : List ℕ) (packets : List RtcpPacket) → IsAccepted octets packets →
    BeginsWithReport packets × (2 ≤ length packets)) → ⊥
always_two_packets law =
    let two : 2 ≤ 1 = (law report (rr 7 [] [] ∷ []) report_accepted).1 in
    omega (arith, two)

facts_of_one_octet : ((octets : List ℕ) (packets : List RtcpPacket) → IsAccepted octets packets →
    length octets ≤ length (facts_of packets)) → ⊥
facts_of_one_octet law =
    let eight : 8 ≤ 1 = law report (rr 7 [] [] ∷ []) report_accepted in
    omega (arith, eight)

always_shorter : ((octets : List ℕ) (packets : List RtcpPacket) → IsAccepted octets packets →
    length (written_all packets) + 1 ≤ length octets) → ⊥
always_shorter law =
    let nine : 9 ≤ 8 = law report (rr 7 [] [] ∷ []) report_accepted in
    omega (arith, nine)

-- Padding is not written again.
relayed_octet_for_octet : ((octets : List ℕ) (packets : List RtcpPacket) → AreOctets octets →
    IsAccepted octets packets → (written_all packets ≡ octets) × IsAccepted (written_all packets) packets) → ⊥
relayed_octet_for_octet law =
    let same = (law (report ++ padded) (rr 7 [] [] ∷ bye (7 ∷ []) None ∷ []) (are_octets (report ++ padded) refl)
    padded_accepted).0 in
    let sixteen : 16 ≡ 20 = ap length same in
    omega (arith, sixteen)

-- A call that writes fewer packets than fit may write none.
writes_some_packet : ((packets : List RtcpPacket) (used : ℕ) → All IsWritable packets →
    (1472 < used + length (written_all packets) → ⊥) → All IsInRange packets × (0 < length packets)) → ⊥
writes_some_packet law =
    let some : 0 < 0 = (law [] 0 (All-nil IsWritable) (λ full. omega (arith, full))).1 in
    omega (arith, some)

-- ---- The longest text of an item

abbrev text_of_255 : ItemValue
text_of_255 = record { kind = 1; text = replicate 255 97 }

abbrev described : List RtcpPacket
described = rr 7 [] [] ∷ sdes (record { id = 7; items = text_of_255 ∷ [] } ∷ []) ∷ []

writable : All IsWritable described
writable = All-from_recursion IsWritable described (
  record { parts = (omega arith, All-nil IsWritableBlock, refl); size = omega arith },
  (
    record {
      parts = (
        omega arith,
        All-from_recursion IsWritableChunk (record { id = 7; items = text_of_255 ∷ [] } ∷ [])
            (All-from_recursion IsWritableItem (text_of_255 ∷ []) ((omega arith, omega arith, omega arith), tt), tt),
      );
      size = omega arith;
    },
    tt,
  ),
)

in_range : All IsInRange described
in_range = All-from_recursion IsInRange described (
  (omega arith, All-nil IsBlockInRange),
  (All-from_recursion IsChunkInRange (record { id = 7; items = text_of_255 ∷ [] } ∷ []) (omega arith, tt), tt),
)

described_accepted : IsAccepted (written_all described) described
described_accepted = reads_back described writable in_range tt (omega arith)

item_texts_of_254 : ((octets : List ℕ) (packets : List RtcpPacket) → AreOctets octets → IsAccepted octets packets →
    All (λ item. IsWritableItem item.1 × (length item.1.text ≤ 254)) (all_items packets)) → ⊥
item_texts_of_254 law =
    let short : 255 ≤ 254 = (All-head (λ (item : ℕ × ItemValue). IsWritableItem item.1 × (length item.1.text ≤ 254))
    (7, text_of_255) []
    (law (written_all described) described (are_octets (written_all described) refl) described_accepted)).1 in
    omega (arith, short)

-- ---- Numbers that are no octets

-- a receiver report of one that no word can say
abbrev wide : List RtcpPacket
wide = rr 4294967296 [] [] ∷ []

abbrev wide_report : List ℕ
wide_report = 128 ∷ 201 ∷ 0 ∷ 1 ∷ 0 ∷ 0 ∷ 0 ∷ 4294967296 ∷ []

wide_accepted : IsAccepted wide_report wide
wide_accepted = alone_accepted (rr 4294967296 [] []) wide_report (empty_spelled 4294967296) (omega arith)
    (inr refl, refl)

range_of_any_numbers : ((octets : List ℕ) (packets : List RtcpPacket) → IsAccepted octets packets →
    All IsInRange packets) → ⊥
range_of_any_numbers law =
    let below : 4294967296 < 4294967296 = (All-head IsInRange (rr 4294967296 [] []) []
    (law wide_report wide wide_accepted)).0 in
    omega (arith, below)

-- It would be written as a report of source 0.
abbrev of_nobody : List ℕ
of_nobody = 128 ∷ 201 ∷ 0 ∷ 1 ∷ 0 ∷ 0 ∷ 0 ∷ 0 ∷ []

nobody_accepted : IsAccepted of_nobody (rr 0 [] [] ∷ [])
nobody_accepted = alone_accepted (rr 0 [] []) of_nobody (empty_spelled 0) (omega arith) (inr refl, refl)

abbrev first_reporter : List RtcpPacket → ℕ
first_reporter [] = 1
first_reporter (rr ssrc blocks extension ∷ packets) = ssrc
first_reporter (_ ∷ packets) = 1

together_of_any_numbers : ((first others : List RtcpPacket) → All IsWritable first → All IsWritable others →
    All IsInRange first → BeginsWithReport (first ++ others) →
    length (written_all first ++ written_all others) ≤ 65535 →
    IsAccepted (written_all first ++ written_all others) (first ++ others)) → ⊥
together_of_any_numbers law =
    let can = All-from_recursion IsWritable wide
    (record { parts = (omega arith, All-nil IsWritableBlock, refl); size = omega arith }, tt) in
    let read : IsAccepted of_nobody wide = law [] wide (All-nil IsWritable) can (All-nil IsInRange) tt (omega arith) in
    let same : 4294967296 ≡ 0 = ap first_reporter (one_reading of_nobody wide (rr 0 [] [] ∷ []) read nobody_accepted) in
    omega (arith, same)

-- a report with a block that says more lost packets than 24 bits can
abbrev wide_block : List ℕ
wide_block = 0 ∷ 0 ∷ 0 ∷ 8 ∷ 0 ∷ 0 ∷ 0 ∷ 33554432 ∷ replicate 16 0

abbrev wide_loss : List ℕ
wide_loss = 129 ∷ 201 ∷ 0 ∷ 7 ∷ 0 ∷ 0 ∷ 0 ∷ 7 ∷ wide_block

abbrev lossy : List RtcpPacket
lossy = rr 7 (block_in wide_block ∷ []) [] ∷ []

wide_loss_accepted : IsAccepted wide_loss lossy
wide_loss_accepted = alone_accepted (rr 7 (block_in wide_block ∷ []) []) wide_loss
    (unpadded (rr 7 (block_in wide_block ∷ []) []) wide_loss refl refl refl (
      refl,
      record {
        id = 0 ∷ 0 ∷ 0 ∷ 7 ∷ [];
        rest = wide_block;
        parts = refl;
        sender = (refl, refl);
        ends = record {
          reports = wide_block;
          parts = refl;
          counted = refl;
          each = (wide_block, [], refl, (refl, refl), refl);
        };
      },
    ))
    (omega arith) (inr refl, refl)

its_loss : (block_in wide_block).lost ≡ pos 16777216
its_loss = refl

lost_of_any_numbers : ((octets : List ℕ) (packets : List RtcpPacket) → IsAccepted octets packets →
    All (λ block. IsWritableBlock block.1) (all_blocks packets)) → ⊥
lost_of_any_numbers law =
    let few : pos 16777216 ≤ℤ pos 8388607 = (All-head (λ (block : ℕ × ReportBlock). IsWritableBlock block.1)
    (7, block_in wide_block) [] (law wide_loss lossy wide_loss_accepted)).1 in
    omega (arith, few)

-- a BYE whose reason has 256 octets
abbrev reason_of_256 : List ℕ
reason_of_256 = replicate 256 97

abbrev wide_goodbye : List ℕ
wide_goodbye = 129 ∷ 203 ∷ 0 ∷ 66 ∷ 0 ∷ 0 ∷ 0 ∷ 7 ∷ 256 ∷ (reason_of_256 ++ 0 ∷ 0 ∷ 0 ∷ [])

abbrev said : List RtcpPacket
said = rr 7 [] [] ∷ bye (7 ∷ []) (Some reason_of_256) ∷ []

wide_goodbye_accepted : IsAccepted (report ++ wide_goodbye) said
wide_goodbye_accepted =
    let goodbye = bye (7 ∷ []) (Some reason_of_256) in
    let spelled = unpadded goodbye wide_goodbye refl refl refl (
      refl,
      of_seven (Some reason_of_256) (256 ∷ (reason_of_256 ++ 0 ∷ 0 ∷ 0 ∷ []))
          (record { free = 0 ∷ 0 ∷ 0 ∷ []; parts = refl; fill = omega arith; aligned = refl }),
    ) in
    after_accepted goodbye wide_goodbye spelled (omega arith)

reasons_of_any_numbers : ((octets : List ℕ) (packets : List RtcpPacket) → IsAccepted octets packets →
    All (λ goodbye. IsWritableReason goodbye.1) (all_goodbyes packets)) → ⊥
reasons_of_any_numbers law =
    let short : 256 ≤ 255 = All-head (λ (goodbye : ℕ × Option (List ℕ)). IsWritableReason goodbye.1)
    (7, Some reason_of_256) [] (law (report ++ wide_goodbye) said wide_goodbye_accepted) in
    omega (arith, short)
