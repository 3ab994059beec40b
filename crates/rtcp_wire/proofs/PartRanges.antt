-- What packets that can be written hold: their items, BYEs and blocks can be written too.
use Rattle.std.proofs.Common.{List, [], ◌∷◌, ℕ, All, Option}
use Rattle.std.specs.List.{flat_map}
use Rattle.std.proofs.lemmas.List.Elements.{All-nil, All-append, All-head, All-tail, All-map}
use Rattle.rtcp_wire.specs.Values.{ReportBlock, ItemValue, ChunkValue, RtcpPacket, sr, rr, sdes, bye, app, other}
use Rattle.rtcp_wire.specs.Contents.{chunk_items, packet_items, packet_goodbyes, packet_blocks, all_items, all_goodbyes, all_blocks}
use Rattle.rtcp_wire.specs.Writing.{IsWritableBlock, IsWritableItem, IsWritableChunk, IsWritableReason, IsWritable}

-- What holds of all that each value holds holds of all that all values hold.
all_flat : {A B : Type 0} (f : A → List B) (P : A → Type 0) (Q : B → Type 0) → ((x : A) → P x → All Q (f x))
    → (xs : List A) → All P xs → All Q (flat_map f xs)
all_flat f P Q each [] all = All-nil Q
all_flat f P Q each (x ∷ xs) all =
    let others = all_flat f P Q each xs (All-tail P x xs all) in
    All-append Q (f x) (flat_map f xs) (each x (All-head P x xs all)) others

-- ---- Items

abbrev ItemFits : ℕ × ItemValue → Type 0
ItemFits item = IsWritableItem item.1

packet_items_fit : (p : RtcpPacket) → IsWritable p → All ItemFits (packet_items p)
packet_items_fit (sr sender blocks extension) can = All-nil ItemFits
packet_items_fit (rr ssrc blocks extension) can = All-nil ItemFits
packet_items_fit (sdes chunks) can = all_flat chunk_items IsWritableChunk ItemFits of_chunk chunks can.parts.1
  where
    of_chunk : (chunk : ChunkValue) → IsWritableChunk chunk → All ItemFits (chunk_items chunk)
    of_chunk chunk is = All-map ItemFits (λ (item : ItemValue). (chunk.id, item)) chunk.items is
packet_items_fit (bye ids reason) can = All-nil ItemFits
packet_items_fit (app subtype ssrc name content) can = All-nil ItemFits
packet_items_fit (other kind count body) can = All-nil ItemFits

pub items_fit : (ps : List RtcpPacket) → All IsWritable ps → All (λ item. IsWritableItem item.1) (all_items ps)
items_fit = all_flat packet_items IsWritable ItemFits packet_items_fit

-- ---- BYEs

abbrev ReasonFits : ℕ × Option (List ℕ) → Type 0
ReasonFits goodbye = IsWritableReason goodbye.1

packet_goodbyes_fit : (p : RtcpPacket) → IsWritable p → All ReasonFits (packet_goodbyes p)
packet_goodbyes_fit (sr sender blocks extension) can = All-nil ReasonFits
packet_goodbyes_fit (rr ssrc blocks extension) can = All-nil ReasonFits
packet_goodbyes_fit (sdes chunks) can = All-nil ReasonFits
packet_goodbyes_fit (bye ids reason) can = All-map ReasonFits (λ (id : ℕ). (id, reason)) ids (λ k d lt. can.parts.1)
packet_goodbyes_fit (app subtype ssrc name content) can = All-nil ReasonFits
packet_goodbyes_fit (other kind count body) can = All-nil ReasonFits

pub goodbyes_fit : (ps : List RtcpPacket) → All IsWritable ps →
    All (λ goodbye. IsWritableReason goodbye.1) (all_goodbyes ps)
goodbyes_fit = all_flat packet_goodbyes IsWritable ReasonFits packet_goodbyes_fit

-- ---- Blocks

abbrev BlockFits : ℕ × ReportBlock → Type 0
BlockFits block = IsWritableBlock block.1

packet_blocks_fit : (p : RtcpPacket) → IsWritable p → All BlockFits (packet_blocks p)
packet_blocks_fit (sr sender blocks extension) can =
    All-map BlockFits (λ (block : ReportBlock). (sender.ssrc, block)) blocks can.parts.1
packet_blocks_fit (rr ssrc blocks extension) can =
    All-map BlockFits (λ (block : ReportBlock). (ssrc, block)) blocks can.parts.1
packet_blocks_fit (sdes chunks) can = All-nil BlockFits
packet_blocks_fit (bye ids reason) can = All-nil BlockFits
packet_blocks_fit (app subtype ssrc name content) can = All-nil BlockFits
packet_blocks_fit (other kind count body) can = All-nil BlockFits

pub blocks_fit : (ps : List RtcpPacket) → All IsWritable ps → All (λ block. IsWritableBlock block.1) (all_blocks ps)
blocks_fit = all_flat packet_blocks IsWritable BlockFits packet_blocks_fit
