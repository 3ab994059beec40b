-- The reports, each put before its blocks, and the second one after the first.
use Rattle.std.proofs.Common.{◌≡◌, ℕ, zero, suc, ◌+◌, ◌-◌, ◌*◌, ◌<◌, ◌≤◌, List, [], ◌∷◌, ◌++◌, length, take, drop, true, false, Option, Some, None, option_map, arith, refl, sym, ap, subst, ◌∙◌, append-nil}
use Rattle.std.specs.Prelude.{min, is_some}
use Rattle.std.specs.List.{flat_map}
use Rattle.std.proofs.lemmas.List.{length-append, length-take, take_all, take_at, drop_at, take_min}
use Rattle.std.proofs.lemmas.List.Elements.{All-cons, All-nil, All-append}
use Rattle.std.proofs.lemmas.List.Concat.{flat_map-append}
use Rattle.std.proofs.Math.Seq.{take-add}
use Rattle.rtcp_wire.specs.Grammar.{IsAccepted}
use Rattle.rtcp_wire.specs.Puts.{IsPut}
use Rattle.rtcp_wire.specs.Values.{SenderValue, ReportBlock, RtcpPacket, rr}
use Rattle.rtcp_wire.specs.Writing.{written_word, written_sender, written_header, written_body, written_block, written, written_all, IsWritable, IsInRange, BeginsWithReport}
use Rattle.rtcp_wire.proofs.LawLemmas.{sizes_add_up-receiver, sizes_add_up-sender, reads_back}
use Rattle.rtcp_wire.proofs.Putting.{put_after, put_before, part_at_start}
use Rattle.rtcp_members.specs.Pending.{EntryRow}
use Rattle.rtcp_report.specs.Gathered.{written_head, PutsPackets, PutsReports, PutsFurther}
use Rattle.rtcp_report.specs.Reports.{SentValue, report_with, further_count, further_reports, reports_with, first_report_size}
use Rattle.rtcp_report.specs.Views.{sent_value}
use Rattle.rtcp_report.specs.declared.sender.SrPart.{SrPart}
use Rattle.rtcp_report.proofs.ReportPackets.{one_report}

-- ---- A head and its blocks

pub size_of_some : (sent : Option SrPart) → true ≡ is_some sent → 28 ≡ first_report_size (option_map sent_value sent)
size_of_some None some = absurd cc
size_of_some (Some sent) some = refl

pub size_of_none : (sent : Option SrPart) → false ≡ is_some sent → 8 ≡ first_report_size (option_map sent_value sent)
size_of_none None none = refl
size_of_none (Some sent) none = absurd cc

pub head_length : (ssrc : ℕ) (sent : Option SentValue) (count : ℕ) →
    length (written_head ssrc sent count) ≡ first_report_size sent
head_length ssrc None count = refl
head_length ssrc (Some sent) count = refl

head_and_blocks : (ssrc : ℕ) (sent : Option SentValue) (blocks : List ReportBlock) (count : ℕ) → count ≡ length blocks →
    written_head ssrc sent count ++ flat_map written_block blocks ≡ written (report_with ssrc sent blocks)
head_and_blocks ssrc None blocks count is =
    let size : 4 + 24 * count ≡ length (written_body (rr ssrc blocks [])) =
    omega (arith, is, sizes_add_up-receiver ssrc blocks) in
    λ i. written_header (is i) 201 (size i) ++ (written_word ssrc
    ++ sym (append-nil (flat_map written_block blocks)) i)
head_and_blocks ssrc (Some sent) blocks count is =
    let sender : SenderValue = record {
      ssrc = ssrc;
      ntp = sent.ntp;
      rtp = sent.rtp;
      packets = sent.packets;
      octets = sent.octets;
    } in
    let size : 24 + 24 * count ≡ length (written_body (report_with ssrc (Some sent) blocks)) =
    omega (arith, is, sizes_add_up-sender sender blocks) in
    λ i. written_header (is i) 200 (size i) ++ (written_sender sender
    ++ sym (append-nil (flat_map written_block blocks)) i)

pub report_put : {old mid new : List ℕ} {at begin seam end : ℕ} (ssrc : ℕ) (sent : Option SentValue)
    (blocks : List ReportBlock) (count : ℕ) → count ≡ length blocks →
    IsPut old mid begin (flat_map written_block blocks) end →
    IsPut mid new at (written_head ssrc sent count) seam → begin ≡ at + first_report_size sent →
    IsPut old new at (written (report_with ssrc sent blocks)) end
report_put {old} {mid} {new} {at} {begin} {seam} {end} ssrc sent blocks count is body head place =
    let same : seam ≡ begin = omega (arith, head.ends, head_length ssrc sent count, place) in
    subst (λ (part : List ℕ). IsPut old new at part end) (head_and_blocks ssrc sent blocks count is)
    (put_before body (subst (IsPut mid new at (written_head ssrc sent count)) same head))

-- ---- Packets

pub one_packet : {old new : List ℕ} {at end : ℕ} (packet : RtcpPacket) → IsPut old new at (written packet) end →
    IsWritable packet → IsInRange packet → PutsPackets (packet ∷ []) old new at end
one_packet {old} {new} {at} {end} packet put can fits =
    record {
      put = subst (λ (part : List ℕ). IsPut old new at part end) (sym (append-nil (written packet))) put;
      writable = All-cons IsWritable packet [] can (All-nil IsWritable);
      in_range = All-cons IsInRange packet [] fits (All-nil IsInRange);
    }

pub both_packets : {old mid new : List ℕ} {at seam end : ℕ} (packets others : List RtcpPacket) →
    PutsPackets packets old mid at seam → PutsPackets others mid new seam end →
    PutsPackets (packets ++ others) old new at end
both_packets {old} {mid} {new} {at} {seam} {end} packets others first second =
    record {
      put = subst (λ (part : List ℕ). IsPut old new at part end) (sym (flat_map-append written packets others))
          (put_after first.put second.put);
      writable = All-append IsWritable packets others first.writable second.writable;
      in_range = All-append IsInRange packets others first.in_range second.in_range;
    }

-- Packets at the start of the octets are read back, where a report is the first.
pub octets_are : {old new : List ℕ} {end : ℕ} (packets : List RtcpPacket) → PutsPackets packets old new 0 end →
    take end new ≡ written_all packets
octets_are packets puts = part_at_start puts.put

pub read_back : {old new : List ℕ} {end : ℕ} (packets : List RtcpPacket) → PutsPackets packets old new 0 end →
    BeginsWithReport packets → end ≤ 1472 → IsAccepted (take end new) packets
read_back packets puts begins small =
    subst (λ (octets : List ℕ). IsAccepted octets packets) (sym (octets_are packets puts))
    (reads_back packets puts.writable puts.in_range begins (omega (arith, puts.put.ends, small)))

pub begins : (ssrc : ℕ) (sent : Option SentValue) (blocks : List ReportBlock) (others : List RtcpPacket) →
    BeginsWithReport (reports_with ssrc sent blocks ++ others)
begins ssrc None blocks others = tt {0}
begins ssrc (Some sent) blocks others = tt {0}

-- ---- The reports

pub few_put : {old new : List ℕ} {end : ℕ} (ssrc : ℕ) (sent : Option SentValue) (blocks : List ReportBlock) →
    length blocks ≤ 31 → PutsPackets (report_with ssrc sent blocks ∷ []) old new 0 end →
    PutsReports ssrc sent blocks old new end
few_put {old} {new} {end} ssrc sent blocks few puts =
    subst (λ (packets : List RtcpPacket). PutsPackets packets old new 0 end) (sym (one_report ssrc sent blocks few))
    puts

pub more_put : {old mid new : List ℕ} {seam end : ℕ} (ssrc : ℕ) (sent : Option SentValue)
    (blocks others : List ReportBlock) → length blocks ≡ 31 →
    PutsPackets (report_with ssrc sent blocks ∷ []) old mid 0 seam → PutsFurther ssrc others mid new seam end →
    PutsReports ssrc sent (blocks ++ others) old new end
more_put {old} {mid} {new} {seam} {end} ssrc sent blocks others full first further =
    let count : 31 + length others ≡ length (blocks ++ others) = omega (arith, full, length-append blocks others) in
    subst (λ (packets : List RtcpPacket). PutsPackets packets old new 0 end)
    (λ i. report_with ssrc sent (sym (take_at blocks others 31 full) i)
    ∷ further_reports ssrc (further_count (count i)) (sym (drop_at blocks others 31 full) i))
    (both_packets (report_with ssrc sent blocks ∷ []) (further_reports ssrc (further_count (31 + length others)) others)
    first further)

-- ---- A further report

pub one_further : {old new : List ℕ} {at end : ℕ} (ssrc : ℕ) (blocks : List ReportBlock) → 0 < length blocks →
    length blocks ≤ 31 → PutsPackets (rr ssrc blocks [] ∷ []) old new at end → PutsFurther ssrc blocks old new at end
one_further {old} {new} {at} {end} ssrc blocks some few puts =
    let one : suc zero ≡ further_count (31 + length blocks) = omega (arith, some, few) in
    subst (λ (packets : List RtcpPacket). PutsPackets packets old new at end)
    ((λ i. rr ssrc (sym (take_all 31 blocks few) i) [] ∷ [])
    ∙ ap (λ (n : ℕ). further_reports ssrc n blocks) one) puts

-- ---- The rows of the two

pub short_rows : (most few : ℕ) (rows : List EntryRow) → few ≡ min most 31 → length (take few rows) < 31 →
    take few rows ≡ take most rows
short_rows most few rows is short =
    let same : min few (length rows) ≡ min most (length rows) = omega (arith, is, short, length-take few rows) in
    sym (take_min few rows) ∙ ap (λ (n : ℕ). take n rows) same ∙ take_min most rows

pub both_rows : (most few : ℕ) (rows left : List EntryRow) → few ≡ min most 31 → 31 ≤ most → left ≡ drop few rows →
    take few rows ++ take (most - 31) left ≡ take most rows
both_rows most few rows left is many rest =
    let full : few ≡ 31 = omega (arith, is, many) in
    let whole : 31 + (most - 31) ≡ most = omega arith in
    ap (λ (others : List EntryRow). take few rows ++ take (most - 31) others) rest
    ∙ ap (λ (n : ℕ). take n rows ++ take (most - 31) (drop n rows)) full
    ∙ sym (take-add 31 (most - 31) rows) ∙ ap (λ (n : ℕ). take n rows) whole
