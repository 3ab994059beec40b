-- The values of datagrams are fit for a line where their numbers are in the ranges of their fields.
use Rattle.std.proofs.Common.{◌≡◌, ℕ, ℤ, pos, negsuc, ◌^◌, ◌<◌, ◌≤◌, ◌≤ℤ◌, ◌==◌, if◌then◌else◌, Bool, true, false, List, All, Option, Some, None, codes, refl, arith}
use Rattle.std.proofs.lemmas.Int.{ints}
use lib.Signed.{mag}
use Rattle.json.specs.Json.{Json, string}
use Rattle.json.proofs.Printed.Utf8.{are_ascii, IsUtf8-are_ascii}
use Rattle.rtcp_wire.specs.Values.{SenderValue, ReportBlock, ItemValue, ChunkValue, RtcpPacket, sr, rr, sdes, bye, app, other}
use Rattle.rtcp_wire.specs.Writing.{IsWritableBlock, IsWritableItem, IsWritableChunk, HasWritableParts, IsBlockInRange, IsSenderInRange, IsInRange}
use Rattle.rtcp_wire.specs.declared.fault.FaultReason.{FaultReason}
use Rattle.rtcp_wire.specs.declared.fault.FaultReason.TheVariants.{Short, Version, FirstType, FirstPadding, Length, Padding, Body, Item, Reason, TooLong}
use Rattle.rtcp_wire.specs.declared.fault.WireFault.{WireFault}
use Rattle.rtcp_text.specs.Text.{reason_text}
use Rattle.rtcp_json.specs.JsonValues.{number_json, word_json, text_json, optional_json}
use Rattle.rtcp_json.specs.PacketValues.{block_json, blocks_json, sr_json, rr_json, item_type_json, item_json, chunk_json, sdes_json, bye_json, packet_json, datagram_json, fault_json}
use Rattle.rtcp_json.proofs.FitLemmas.{IsFitTo, arrays, decimal_fit, signed_fit}
use Rattle.rtcp_json.proofs.SmallLemmas.{IsSmallBlock, IsSmall}
use Rattle.rtcp_json.proofs.TextLemmas.{hex_utf8, lossy_utf8}

-- ---- Strings and numbers

name_fit : (name : List ℕ) → are_ascii name ≡ true → IsFitTo 0 (string name)
name_fit name ascii = record { shallow = omega arith; fit = IsUtf8-are_ascii name ascii }

number_fit : (n : ℕ) → n < 2 ^ 64 → IsFitTo 0 (number_json n)
number_fit n small = record { shallow = omega arith; fit = decimal_fit n small }

word_fit : (n : ℕ) → n < 2 ^ 32 → IsFitTo 0 (word_json n)
word_fit n small = record { shallow = omega arith; fit = hex_utf8 _ }

-- ---- Reports

abbrev IsFineBlock : ReportBlock → Type 0
IsFineBlock b = IsBlockInRange b × IsWritableBlock b × IsSmallBlock b

lost_small : (z : ℤ) → negsuc 8388607 ≤ℤ z → z ≤ℤ pos 8388607 → mag z < 2 ^ 63
lost_small (pos n) low high = omega (arith, ints)
lost_small (negsuc n) low high = omega (arith, ints)

block_fit : (b : ReportBlock) → IsFineBlock b → IsFitTo 1 (block_json b)
block_fit b fine =
    let ranges = fine.0 in
    let highest = ranges.highest in
    let jitter = ranges.jitter in
    let lsr = ranges.lsr in
    let dlsr = ranges.dlsr in
    let fraction : b.fraction < 256 = fine.2 in
    record {
      shallow = omega arith;
      fit = (
        refl,
        hex_utf8 _,
        (
          refl,
          decimal_fit b.fraction (omega arith),
          (
            refl,
            signed_fit b.lost (lost_small b.lost fine.1.0 fine.1.1),
            (
              refl,
              decimal_fit b.highest (omega arith),
              (
                refl,
                decimal_fit b.jitter (omega arith),
                (
                  refl,
                  decimal_fit b.lsr (omega arith),
                  (refl, decimal_fit b.dlsr (omega arith), tt),
                ),
              ),
            ),
          ),
        ),
      );
    }

-- what a report ends with
fine_blocks : (blocks : List ReportBlock) → All IsBlockInRange blocks → All IsWritableBlock blocks →
    All IsSmallBlock blocks → All IsFineBlock blocks
fine_blocks blocks ranges writable small = λ k d within. (ranges k d within, writable k d within, small k d within)

blocks_fit : (blocks : List ReportBlock) → All IsFineBlock blocks → IsFitTo 2 (blocks_json blocks)
blocks_fit blocks fine = arrays block_json 1 IsFineBlock block_fit blocks fine

sr_fit : (s : SenderValue) (blocks : List ReportBlock) (extension : List ℕ) → IsSenderInRange s →
    All IsFineBlock blocks → IsFitTo 6 (sr_json s blocks extension)
sr_fit s blocks extension ranges fine =
    let inner = blocks_fit blocks fine in
    let shallow = inner.shallow in
    let rtp = ranges.rtp in
    let packets = ranges.packets in
    let octets = ranges.octets in
    record {
      shallow = omega arith;
      fit = (
        refl,
        IsUtf8-are_ascii (codes "SR") refl,
        (
          refl,
          hex_utf8 _,
          (
            refl,
            hex_utf8 _,
            (
              refl,
              decimal_fit s.rtp (omega arith),
              (
                refl,
                decimal_fit s.packets (omega arith),
                (
                  refl,
                  decimal_fit s.octets (omega arith),
                  (refl, inner.fit, (refl, hex_utf8 extension, tt)),
                ),
              ),
            ),
          ),
        ),
      );
    }

rr_fit : (ssrc : ℕ) (blocks : List ReportBlock) (extension : List ℕ) → All IsFineBlock blocks →
    IsFitTo 6 (rr_json ssrc blocks extension)
rr_fit ssrc blocks extension fine =
    let inner = blocks_fit blocks fine in
    let shallow = inner.shallow in
    record {
      shallow = omega arith;
      fit = (
        refl,
        IsUtf8-are_ascii (codes "RR") refl,
        (refl, hex_utf8 _, (refl, inner.fit, (refl, hex_utf8 extension, tt))),
      );
    }

-- ---- Descriptions and BYEs

either : (b : Bool) (x y : Json) → IsFitTo 0 x → IsFitTo 0 y → IsFitTo 0 (if b then x else y)
either true x y h k = h
either false x y h k = k

item_type_fit : (kind : ℕ) → kind ≤ 255 → IsFitTo 0 (item_type_json kind)
item_type_fit kind small =
    either (kind == 1) _ _ (name_fit (codes "cname") refl)
    (either (kind == 2) _ _ (name_fit (codes "name") refl)
    (either (kind == 3) _ _ (name_fit (codes "email") refl)
    (either (kind == 4) _ _ (name_fit (codes "phone") refl)
    (either (kind == 5) _ _ (name_fit (codes "loc") refl)
    (either (kind == 6) _ _ (name_fit (codes "tool") refl)
    (either (kind == 7) _ _ (name_fit (codes "note") refl)
    (either (kind == 8) _ _ (name_fit (codes "priv") refl) (number_fit kind (omega arith)))))))))

item_fit : (i : ItemValue) → IsWritableItem i → IsFitTo 1 (item_json i)
item_fit i writable =
    let inner = item_type_fit i.kind writable.1 in
    let shallow = inner.shallow in
    record { shallow = omega arith; fit = (refl, inner.fit, (refl, lossy_utf8 i.text, tt)) }

chunk_fit : (chunk : ChunkValue) → IsWritableChunk chunk → IsFitTo 3 (chunk_json chunk)
chunk_fit chunk writable =
    let inner = arrays item_json 1 IsWritableItem item_fit chunk.items writable in
    let shallow = inner.shallow in
    record { shallow = omega arith; fit = (refl, hex_utf8 _, (refl, inner.fit, tt)) }

sdes_fit : (chunks : List ChunkValue) → All IsWritableChunk chunks → IsFitTo 6 (sdes_json chunks)
sdes_fit chunks writable =
    let inner = arrays chunk_json 3 IsWritableChunk chunk_fit chunks writable in
    let shallow = inner.shallow in
    record {
      shallow = omega arith;
      fit = (refl, IsUtf8-are_ascii (codes "SDES") refl, (refl, inner.fit, tt));
    }

reason_fit : (reason : Option (List ℕ)) → IsFitTo 0 (optional_json text_json reason)
reason_fit None = record { shallow = omega arith; fit = tt }
reason_fit (Some text) = record { shallow = omega arith; fit = lossy_utf8 text }

bye_fit : (ids : List ℕ) (reason : Option (List ℕ)) → All (λ id. id < 2 ^ 32) ids → IsFitTo 6 (bye_json ids reason)
bye_fit ids reason ranges =
    let inner = arrays word_json 0 (λ id. id < 2 ^ 32) word_fit ids ranges in
    let why = reason_fit reason in
    let shallow = inner.shallow in
    let shallow_reason = why.shallow in
    record {
      shallow = omega arith;
      fit = (refl, IsUtf8-are_ascii (codes "BYE") refl, (refl, inner.fit, (refl, why.fit, tt)));
    }

-- ---- Datagrams

abbrev pub IsFine : RtcpPacket → Type 0
IsFine packet = HasWritableParts packet × IsInRange packet × IsSmall packet

packet_fit : (packet : RtcpPacket) → IsFine packet → IsFitTo 6 (packet_json packet)
packet_fit (sr sender blocks extension) fine =
    sr_fit sender blocks extension fine.1.0 (fine_blocks blocks fine.1.1 fine.0.1 fine.2)
packet_fit (rr ssrc blocks extension) fine =
    rr_fit ssrc blocks extension (fine_blocks blocks fine.1.1 fine.0.1 fine.2)
packet_fit (sdes chunks) fine = sdes_fit chunks fine.0.1
packet_fit (bye ids reason) fine = bye_fit ids reason fine.1
packet_fit (app subtype ssrc name content) fine =
    let small = fine.0.0 in
    record {
      shallow = omega arith;
      fit = (
        refl,
        IsUtf8-are_ascii (codes "APP") refl,
        (
          refl,
          hex_utf8 _,
          (
            refl,
            decimal_fit subtype (omega arith),
            (
              refl,
              lossy_utf8 name,
              (refl, hex_utf8 content, tt),
            ),
          ),
        ),
      );
    }
packet_fit (other kind count body) fine =
    let few = fine.0.1 in
    let small = fine.2 in
    record {
      shallow = omega arith;
      fit = (
        refl,
        decimal_fit kind (omega arith),
        (refl, decimal_fit count (omega arith), (refl, hex_utf8 body, tt)),
      );
    }

pub datagram_fit : (packets : List RtcpPacket) → All IsFine packets → IsFitTo 8 (datagram_json packets)
datagram_fit packets fine =
    let inner = arrays packet_json 6 IsFine packet_fit packets fine in
    let shallow = inner.shallow in
    record { shallow = omega arith; fit = (refl, inner.fit, tt) }

pub reason_ascii : (reason : FaultReason) → are_ascii (reason_text reason) ≡ true
reason_ascii Short = refl
reason_ascii Version = refl
reason_ascii FirstType = refl
reason_ascii FirstPadding = refl
reason_ascii Length = refl
reason_ascii Padding = refl
reason_ascii Body = refl
reason_ascii Item = refl
reason_ascii Reason = refl
reason_ascii TooLong = refl

pub fault_fit : (fault : WireFault) → fault.place < 2 ^ 64 → IsFitTo 8 (fault_json fault)
fault_fit fault small = record {
  shallow = omega arith;
  fit = (
    refl,
    IsUtf8-are_ascii (reason_text fault.reason) (reason_ascii fault.reason),
    (
      refl,
      decimal_fit fault.place small,
      tt,
    ),
  );
}
