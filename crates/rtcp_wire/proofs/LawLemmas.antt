-- The laws of this crate as lemmas, for the proofs of the crates above: each has the name of its law, and of the clause
-- where the law has several.
use Rattle.std.proofs.Common.{◌≡◌, ◌≤◌, ℕ, List, All, length, sum_by}
use Rattle.std.proofs.lemmas.List.Concat.{length-flat_map}
use Rattle.rtcp_wire.specs.Values.{RtcpPacket}
use Rattle.rtcp_wire.specs.Contents.{all_items, all_goodbyes, all_blocks}
use Rattle.rtcp_wire.specs.Grammar.{AreOctets, IsAccepted}
use Rattle.rtcp_wire.specs.Walks.{packets_in}
use Rattle.rtcp_wire.specs.Writing.{written, written_all, IsWritable, IsInRange, BeginsWithReport, IsWritableBlock, IsWritableItem, IsWritableReason}
use Rattle.rtcp_wire.proofs.PartRanges as parts
use Rattle.rtcp_wire.proofs.ReadingWalks.{walk_reads}
use Rattle.rtcp_wire.proofs.WritableAgain as again
use Rattle.rtcp_wire.proofs.WrittenPackets as writing
pub use Rattle.rtcp_wire.proofs.Spellings.{one_spelling, one_reading}
pub use Rattle.rtcp_wire.proofs.Refusals.{one_fault, never_both as accepted_or_faulty-never_both}
pub use Rattle.rtcp_wire.proofs.ReadDatagrams.{always_one as accepted_or_faulty-always_one}
pub use Rattle.rtcp_wire.proofs.ReadDatagrams.{accepted as readings_are_computed-accepted}
pub use Rattle.rtcp_wire.proofs.ReadDatagrams.{faulty as readings_are_computed-faulty}
pub use Rattle.rtcp_wire.proofs.NoMedia.{packets_give_none as compounds_give_no_media}
pub use Rattle.rtcp_wire.proofs.FewFacts.{few_facts as facts_are_few}
pub use Rattle.rtcp_wire.proofs.RtpFaults.{one_head, one_fault as one_rtp_fault}
pub use Rattle.rtcp_wire.proofs.RtpFaults.{never_both as packet_or_fault-never_both}
pub use Rattle.rtcp_wire.proofs.RtpComputed.{always_one as packet_or_fault-always_one}
pub use Rattle.rtcp_wire.proofs.RtpComputed.{of_head as rtp_readings_are_computed-head}
pub use Rattle.rtcp_wire.proofs.RtpComputed.{of_fault as rtp_readings_are_computed-fault}
pub use Rattle.rtcp_wire.proofs.RtpRanges.{payload_type as heads_are_in_range-payload_type}
pub use Rattle.rtcp_wire.proofs.RtpRanges.{sequence as heads_are_in_range-sequence}
pub use Rattle.rtcp_wire.proofs.RtpRanges.{few_csrcs as heads_are_in_range-csrcs, words as heads_are_in_range-words}
pub use Rattle.rtcp_wire.proofs.WrittenPackets.{written_is_spelling, read_back_together}
pub use Rattle.rtcp_wire.proofs.WritableAgain.{all_writable as accepted_packets_are_writable-writable}
pub use Rattle.rtcp_wire.proofs.WritableAgain.{all_in_range as accepted_packets_are_writable-in_range}
pub use Rattle.rtcp_wire.proofs.WritableAgain.{begins as accepted_packets_are_writable-begins}
pub use Rattle.rtcp_wire.proofs.WritableAgain.{no_longer as accepted_packets_are_writable-no_longer}
pub use Rattle.rtcp_wire.proofs.WritableAgain.{read_back as accepted_packets_are_writable-read_back}
pub use Rattle.rtcp_wire.proofs.Reports.{receiver_writable as reports_are_writable-receiver}
pub use Rattle.rtcp_wire.proofs.Reports.{sender_writable as reports_are_writable-sender}
pub use Rattle.rtcp_wire.proofs.Reports.{receiver_length as sizes_add_up-receiver, sender_length as sizes_add_up-sender}

-- ---- RTCP (src/laws.rt)

pub walks_read_encodings : (octets : List ℕ) (packets : List RtcpPacket) → IsAccepted octets packets →
    packets_in octets ≡ packets
walks_read_encodings octets packets accepted = walk_reads packets octets accepted.joined

-- ---- What is written (src/write_laws.rt)

pub reads_back : (packets : List RtcpPacket) → All IsWritable packets → All IsInRange packets →
    BeginsWithReport packets →
    length (written_all packets) ≤ 65535 → IsAccepted (written_all packets) packets
reads_back = λ packets can fits begins short. writing.reads_back packets can fits short begins

pub accepted_parts_are_writable-items : (octets : List ℕ) (packets : List RtcpPacket) → AreOctets octets →
    IsAccepted octets packets → All (λ item. IsWritableItem item.1) (all_items packets)
accepted_parts_are_writable-items = λ octets packets all accepted.
    parts.items_fit packets (again.all_writable octets packets all accepted)

pub accepted_parts_are_writable-goodbyes : (octets : List ℕ) (packets : List RtcpPacket) → AreOctets octets →
    IsAccepted octets packets → All (λ goodbye. IsWritableReason goodbye.1) (all_goodbyes packets)
accepted_parts_are_writable-goodbyes = λ octets packets all accepted.
    parts.goodbyes_fit packets (again.all_writable octets packets all accepted)

pub accepted_parts_are_writable-blocks : (octets : List ℕ) (packets : List RtcpPacket) → AreOctets octets →
    IsAccepted octets packets → All (λ block. IsWritableBlock block.1) (all_blocks packets)
accepted_parts_are_writable-blocks = λ octets packets all accepted.
    parts.blocks_fit packets (again.all_writable octets packets all accepted)

pub sizes_add_up-compound : (packets : List RtcpPacket) →
    length (written_all packets) ≡ sum_by (λ packet. length (written packet)) packets
sizes_add_up-compound = length-flat_map written
