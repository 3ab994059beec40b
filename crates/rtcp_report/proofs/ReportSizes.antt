-- The octets of a report are as many as its size says.
use Rattle.std.proofs.Common.{◌≡◌, ℕ, zero, suc, ◌+◌, ◌-◌, ◌*◌, ◌/◌, ◌%◌, ◌≤◌, List, [], ◌∷◌, ◌++◌, length, take, drop, sum_by, Option, Some, None, arith, refl, ap, ◌∙◌}
use Rattle.std.proofs.lemmas.List.{length-append, length-replicate, length-take, length-drop}
use Rattle.std.proofs.lemmas.List.Sums.{sum_by-cons}
use Rattle.std.proofs.lemmas.List.Concat.{flat_map-append}
use Rattle.std.specs.List.{flat_map}
use Rattle.rtcp_wire.specs.Values.{ReportBlock, SenderValue, ItemValue, RtcpPacket, ChunkValue, rr}
use Rattle.rtcp_wire.specs.Writing.{fill_after, written_item, written_chunk, written, written_all}
use Rattle.rtcp_wire.proofs.LawLemmas.{sizes_add_up-receiver, sizes_add_up-sender}
use Rattle.rtcp_report.specs.Reports.{SentValue, Reporter, report_with, further_count, further_reports, reports_with, description_of, packets_with, first_report_size, report_size}
use Rattle.rtcp_report.specs.Sizes.{item_size, description_size}

-- ---- Descriptions

pub items_length : (items : List ItemValue) → length (flat_map written_item items) ≡ sum_by item_size items
items_length [] = refl
items_length (item ∷ items) =
    omega (
      arith,
      length-append (written_item item) (flat_map written_item items),
      items_length items,
      sum_by-cons item_size item items,
    )

fill_length : (size : ℕ) → length (fill_after size) ≡ (4 - size % 4) % 4
fill_length size = length-replicate ((4 - size % 4) % 4) 0

whole_words : (size : ℕ) → size + 1 + (4 - (size + 1) % 4) % 4 ≡ 4 * (size / 4 + 1)
whole_words size = omega arith

chunk_length : (chunk : ChunkValue) → length (written_chunk chunk) ≡ 4 + 4 * (sum_by item_size chunk.items / 4 + 1)
chunk_length chunk =
    let octets : List ℕ = flat_map written_item chunk.items in
    let words : length octets + 1 + (4 - (length octets + 1) % 4) % 4 ≡ 4 * (sum_by item_size chunk.items / 4 + 1) =
    whole_words (length octets) ∙ ap (λ (n : ℕ). 4 * (n / 4 + 1)) (items_length chunk.items) in
    omega (arith, words, length-append octets (0 ∷ fill_after (length octets + 1)), fill_length (length octets + 1))

pub description_length : (reporter : Reporter) → length (written (description_of reporter)) ≡ description_size
    reporter.items
description_length reporter =
    let chunk : ChunkValue = record { id = reporter.ssrc; items = reporter.items } in
    omega (arith, chunk_length chunk, length-append (written_chunk chunk) [])

-- ---- Reports

report_length : (ssrc : ℕ) (sent : Option SentValue) (blocks : List ReportBlock) →
    length (written (report_with ssrc sent blocks)) ≡ first_report_size sent + 24 * length blocks
report_length ssrc None blocks = sizes_add_up-receiver ssrc blocks
report_length ssrc (Some sent) blocks =
    let sender : SenderValue = record {
      ssrc = ssrc;
      ntp = sent.ntp;
      rtp = sent.rtp;
      packets = sent.packets;
      octets = sent.octets;
    } in
    sizes_add_up-sender sender blocks

further_length : (ssrc count : ℕ) (blocks : List ReportBlock) → length blocks ≤ 31 * count →
    length (written_all (further_reports ssrc count blocks)) ≡ 8 * count + 24 * length blocks
further_length ssrc zero blocks few = omega (arith, few)
further_length ssrc (suc count) blocks few =
    let rest = further_length ssrc count (drop 31 blocks) (omega (arith, few, length-drop 31 blocks)) in
    omega (
      arith,
      length-append (written (rr ssrc (take 31 blocks) []))
          (written_all (further_reports ssrc count (drop 31 blocks))),
      sizes_add_up-receiver ssrc (take 31 blocks),
      rest,
      length-take 31 blocks,
      length-drop 31 blocks,
    )

enough : (blocks : ℕ) → blocks - 31 ≤ 31 * further_count blocks
enough blocks = omega arith

pub reports_length : (ssrc : ℕ) (sent : Option SentValue) (blocks : List ReportBlock) →
    length (written_all (reports_with ssrc sent blocks)) ≡ first_report_size sent + 24 * length
    blocks + 8 * further_count (length blocks)
reports_length ssrc sent blocks =
    let further : List RtcpPacket = further_reports ssrc (further_count (length blocks)) (drop 31 blocks) in
    let rest : length (written_all further) ≡ 8 * further_count (length blocks) + 24 * length (drop 31 blocks) =
    further_length ssrc (further_count (length blocks)) (drop 31 blocks)
    (omega (arith, enough (length blocks), length-drop 31 blocks)) in
    omega (
      arith,
      length-append (written (report_with ssrc sent (take 31 blocks))) (written_all further),
      report_length ssrc sent (take 31 blocks),
      rest,
      length-take 31 blocks,
      length-drop 31 blocks,
    )

-- The reports and one packet more.
pub all_length : (packets : List RtcpPacket) (last : RtcpPacket) → length (written_all (packets ++ last ∷ [])) ≡ length
    (written_all packets) + length (written last)
all_length packets last =
    omega (
      arith,
      ap length (flat_map-append written packets (last ∷ [])),
      length-append (written_all packets)
          (written_all (last ∷ [])),
      length-append (written last) [],
    )

-- The size is the number of octets.
pub packets_length : (reporter : Reporter) (blocks : List ReportBlock) →
    length (written_all (packets_with reporter blocks)) ≡ report_size reporter (length blocks)
packets_length reporter blocks =
    omega (
      arith,
      all_length (reports_with reporter.ssrc reporter.sent blocks) (description_of reporter),
      reports_length reporter.ssrc reporter.sent blocks,
      description_length reporter,
    )
