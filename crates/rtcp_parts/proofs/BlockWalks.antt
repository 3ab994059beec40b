-- A walk over report blocks.
use Rattle.std.proofs.Common.{inl, inr, ◌≡◌, ◌≢◌, ℕ, ◌+◌, ◌≤◌, List, [], ◌∷◌, ◌++◌, length, take, drop, flat_map, refl, sym, ap, subst, ◌∙◌, append_assoc, arith}
use Rattle.std.proofs.lemmas.List.{drop-drop, drop_at, length-append, take_at}
use Rattle.byteorder.specs.Endian.{big_number}
use Rattle.rtcp_wire.specs.Contents.{blocks_by, packet_blocks}
use Rattle.rtcp_wire.specs.Grammar.{IsBody, Joins, IsBlock, IsReportEnd, IsSpelling}
use Rattle.rtcp_wire.specs.Readings.{block_in}
use Rattle.rtcp_wire.specs.Views.{block_value}
use Rattle.rtcp_wire.specs.declared.block.Block.{Block}
use Rattle.rtcp_wire.specs.Values.{ReportBlock, RtcpPacket, SenderValue, sr, rr, other}
use Rattle.rtcp_wire.proofs.Prefixes.{length_parts}
use Rattle.rtcp_parts.specs.declared.cursor.Cursor.{Cursor}
use Rattle.rtcp_parts.specs.declared.packet.Packet.{Packet}
use Rattle.rtcp_parts.specs.declared.packet.Wanted.{Wanted}
use Rattle.rtcp_parts.specs.Cursors.{Leaves, LeavesBlocks, LeavesHere, ShowsReported, blocks_place, rest_of}
use Rattle.rtcp_parts.specs.Walks.{IsAtBlocks, IsPlaced, IsUnwanted}
use Rattle.rtcp_parts.proofs.Entering.{left_inside}
use Rattle.rtcp_parts.proofs.OctetParts.{word_first}
use Rattle.rtcp_parts.proofs.Rests.{rest_further}

-- both reports with at least one block
abbrev pub with_blocks : Wanted
with_blocks = record { first = 200; last = 201; least = 1 }

no_blocks : (blocks : List ReportBlock) → (1 ≤ length blocks → ⊥) → blocks ≡ []
no_blocks [] none = refl
no_blocks (block ∷ blocks) none = absurd (none (omega arith))

-- A packet of another type, or without blocks.
pub none_in : (packet : RtcpPacket) → IsUnwanted with_blocks packet → packet_blocks packet ≡ []
none_in (sr sender blocks extension) h =
    ap (λ (bs : List ReportBlock). packet_blocks (sr sender bs extension))
    (no_blocks blocks (λ some. h.4
    (omega (arith, h.3.0), omega (arith, h.3.0), omega (arith, some, h.3.1.ends.counted))))
none_in (rr reporter blocks extension) h =
    ap (λ (bs : List ReportBlock). packet_blocks (rr reporter bs extension))
    (no_blocks blocks (λ some. h.4
    (omega (arith, h.3.0), omega (arith, h.3.0), omega (arith, some, h.3.1.ends.counted))))
none_in packet h = refl

-- A report has room for what stands before its blocks, since it is one of the two.
pub room_before : (value : RtcpPacket) (kind count : ℕ) (body : List ℕ) → IsBody value kind count body → 200 ≤ kind
    → kind ≤ 201 → blocks_place kind ≤ length body
room_before (sr sender blocks extension) kind count body h low high =
    let size : blocks_place kind ≡ 24 = ap blocks_place h.0 in
    omega (arith, size, ap length h.1.parts, length-append h.1.prefix h.1.rest, h.1.prefix_size)
room_before (rr reporter blocks extension) kind count body h low high =
    let size : blocks_place kind ≡ 4 = ap blocks_place h.0 in
    omega (arith, size, ap length h.1.parts, length-append h.1.id h.1.rest, h.1.sender.0)
room_before (other its_kind its_count its_body) kind count body h low high =
    absurd (omega (arith, h.0, low, high))
room_before value kind count body h low high = absurd (omega (arith, high, h.0))

-- ---- The first block

-- what a walk that is placed so has left of a body
rest_is : (datagram body : List ℕ) (now : Cursor) (place before : ℕ)
    → body ≡ drop place (take (place + length body) datagram) → now.place ≡ place + before
    → now.end ≡ place + length body → rest_of datagram now ≡ drop before body
rest_is datagram body now place before is now_place now_end =
    ap (λ (n : ℕ). drop now.place (take n datagram)) now_end
    ∙ ap (λ (n : ℕ). drop n (take (place + length body) datagram)) now_place
    ∙ sym (drop-drop before place (take (place + length body) datagram))
    ∙ ap (drop before) (sym is)

-- The blocks of a report's end stand first in what is left.
at_end : (datagram : List ℕ) (now : Cursor) (reporter count : ℕ) (blocks : List ReportBlock) (extension rest : List ℕ)
    → rest_of datagram now ≡ rest → IsReportEnd blocks extension count rest → now.left ≡ count → now.ssrc ≡ reporter
    → LeavesBlocks datagram now (blocks_by reporter blocks)
at_end datagram now reporter count blocks extension rest is ends left ssrc = record {
  blocks = blocks;
  octets = ends.reports;
  more = extension;
  stand = is ∙ ends.parts;
  each = ends.each;
  counted = ends.counted ∙ sym left;
  here = ap (λ (n : ℕ). blocks_by n blocks) (sym ssrc);
}

-- The walk is at the first block of a report.
pub at_first_block : (datagram : List ℕ) (packet : Packet) (now : Cursor) (from : ℕ) (value : RtcpPacket)
    → IsPlaced datagram from packet → IsAtBlocks packet now
    → IsBody value packet.kind packet.count packet.body.now → 200 ≤ packet.kind → packet.kind ≤ 201
    → LeavesBlocks datagram now (packet_blocks value)
at_first_block datagram packet now from (sr sender blocks extension) placed at h low high =
    let place : now.place ≡ packet.place + 24 = at.place ∙ ap (λ (k : ℕ). packet.place + blocks_place k) h.0 in
    let rest : rest_of datagram now ≡ h.1.rest =
    rest_is datagram packet.body.now now packet.place 24 placed.body place at.end ∙ ap (drop 24) h.1.parts
    ∙ drop_at h.1.prefix h.1.rest 24 h.1.prefix_size in
    let ssrc : now.ssrc ≡ sender.ssrc =
    at.ssrc ∙ ap (big_number 4) h.1.parts
    ∙ word_first h.1.prefix h.1.rest (omega (arith, h.1.prefix_size))
    ∙ sym (ap (λ (s : SenderValue). s.ssrc) h.1.says) in
    at_end datagram now sender.ssrc packet.count blocks extension h.1.rest rest h.1.ends at.left ssrc
at_first_block datagram packet now from (rr reporter blocks extension) placed at h low high =
    let place : now.place ≡ packet.place + 4 = at.place ∙ ap (λ (k : ℕ). packet.place + blocks_place k) h.0 in
    let rest : rest_of datagram now ≡ h.1.rest =
    rest_is datagram packet.body.now now packet.place 4 placed.body place at.end ∙ ap (drop 4) h.1.parts
    ∙ drop_at h.1.id h.1.rest 4 h.1.sender.0 in
    let ssrc : now.ssrc ≡ reporter = at.ssrc ∙ ap (big_number 4) h.1.parts
    ∙ word_first h.1.id h.1.rest (omega (arith, h.1.sender.0)) ∙ sym h.1.sender.1 in
    at_end datagram now reporter packet.count blocks extension h.1.rest rest h.1.ends at.left ssrc
at_first_block datagram packet now from (other its_kind its_count its_body) placed at h low high =
    absurd (omega (arith, h.0, low, high))
at_first_block datagram packet now from value placed at h low high = absurd (omega (arith, high, h.0))

-- ---- The next block

-- What is left after a block, blocks or none.
blocks_here : (datagram : List ℕ) (now : Cursor) (blocks : List ReportBlock) (octets more : List ℕ)
    → rest_of datagram now ≡ octets ++ more → Joins IsBlock blocks octets → length blocks ≡ now.left
    → LeavesHere LeavesBlocks datagram now (blocks_by now.ssrc blocks)
blocks_here datagram now [] octets more stand each counted = inl (sym counted, refl)
blocks_here datagram now (block ∷ blocks) octets more stand each counted =
    inr (
      omega (arith, counted),
      record {
        blocks = block ∷ blocks;
        octets = octets;
        more = more;
        stand = stand;
        each = each;
        counted = counted;
        here = refl;
      },
    )

-- A walk that has blocks left of a packet takes the first of them.
module _ (datagram : List ℕ) (was now : Cursor) (block : Block) (place : now.place ≡ was.place + 24)
    (next : now.next ≡ was.next) (end : now.end ≡ was.end) (left : now.left + 1 ≡ was.left) (ssrc : now.ssrc ≡ was.ssrc)
    (own : block_value block ≡ block_in (take 24 (rest_of datagram was)))
  where
    -- the octets of the first block, and those after it
    rest_after : (prefix rest more : List ℕ) → rest_of datagram was ≡ (prefix ++ rest) ++ more → length prefix ≡ 24
        → rest_of datagram now ≡ rest ++ more
    rest_after prefix rest more stand size =
        rest_further datagram was now 24 place end ∙ ap (drop 24) (stand ∙ append_assoc prefix rest more)
        ∙ drop_at prefix (rest ++ more) 24 size

    value : (first : ReportBlock) (prefix rest more : List ℕ) → rest_of datagram was ≡ (prefix ++ rest) ++ more
        → IsBlock first prefix → block_value block ≡ first
    value first prefix rest more stand is =
        own ∙ ap (λ (t : List ℕ). block_in (take 24 t)) (stand ∙ append_assoc prefix rest more)
        ∙ ap block_in (take_at prefix (rest ++ more) 24 is.0) ∙ sym is.1

    pub takes_block : (parts : List (ℕ × ReportBlock)) → Leaves packet_blocks LeavesBlocks datagram was parts
        → (part : ℕ × ReportBlock) × (others : List (ℕ × ReportBlock)) × (parts ≡ part ∷ others)
        × ShowsReported part (was.ssrc, block) × Leaves packet_blocks LeavesBlocks datagram now others
    takes_block parts h = first inside.blocks inside.octets inside.stand inside.each inside.counted inside.here
      where
        inside : LeavesBlocks datagram was h.here
        inside = left_inside datagram was parts h (λ none. omega (arith, none, left))

        first : (blocks : List ReportBlock) (octets : List ℕ) → rest_of datagram was ≡ octets ++ inside.more
            → Joins IsBlock blocks octets → length blocks ≡ was.left → h.here ≡ blocks_by was.ssrc blocks
            → (part : ℕ × ReportBlock) × (others : List (ℕ × ReportBlock)) × (parts ≡ part ∷ others)
            × ShowsReported part (was.ssrc, block) × Leaves packet_blocks LeavesBlocks datagram now others
        first [] octets stand each counted is = absurd (omega (arith, counted, left))
        first (block_is ∷ blocks) octets stand each counted is =
            let begins = stand ∙ ap (λ (t : List ℕ). t ++ inside.more) each.2 in
            let others : List (ℕ × ReportBlock) = blocks_by was.ssrc blocks ++ flat_map packet_blocks h.packets in (
              (was.ssrc, block_is),
              others,
              h.all ∙ ap (λ (t : List (ℕ × ReportBlock)). t ++ flat_map packet_blocks h.packets) is,
              ap (λ (b : ReportBlock). (was.ssrc, b)) (value block_is each.0 each.1 inside.more begins each.3),
              record {
                here = blocks_by was.ssrc blocks;
                packets = h.packets;
                inside = subst (λ (n : ℕ). LeavesHere LeavesBlocks datagram now (blocks_by n blocks)) ssrc
                    (blocks_here datagram now blocks each.1 inside.more
                    (rest_after each.0 each.1 inside.more begins each.3.0) each.4 (omega (arith, counted, left)));
                after = subst (λ (n : ℕ). Joins IsSpelling h.packets (drop n datagram)) (sym next) h.after;
                all = refl;
              },
            )

-- A walk that has some left of a packet has room for one.
pub block_room : (datagram : List ℕ) (was : Cursor) (parts : List (ℕ × ReportBlock))
    → Leaves packet_blocks LeavesBlocks datagram was parts → was.left ≢ 0 → 24 ≤ length (rest_of datagram was)
block_room datagram was parts h some = first left.blocks left.octets left.stand left.each left.counted
  where
    left : LeavesBlocks datagram was h.here
    left = left_inside datagram was parts h some

    first : (blocks : List ReportBlock) (octets : List ℕ) → rest_of datagram was ≡ octets ++ left.more
        → Joins IsBlock blocks octets → length blocks ≡ was.left → 24 ≤ length (rest_of datagram was)
    first [] octets stand each counted = absurd (some (sym counted))
    first (block ∷ blocks) octets stand each counted =
        omega (
          arith,
          length_parts (rest_of datagram was) octets left.more stand,
          length_parts octets each.0 each.1 each.2,
          each.3.0,
        )
