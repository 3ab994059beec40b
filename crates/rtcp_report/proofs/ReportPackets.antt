-- The packets of a report can be written.
use Rattle.std.proofs.Common.{◌≡◌, ℕ, ◌≤◌, List, [], ◌∷◌, All, length, drop, Option, Some, None, arith}
use Rattle.std.proofs.lemmas.List.{take_all}
use Rattle.std.proofs.lemmas.List.Elements.{All-cons}
use Rattle.rtcp_wire.specs.Values.{ReportBlock}
use Rattle.rtcp_wire.specs.Writing.{IsWritable, IsWritableBlock, IsWritableItem, IsWritableChunk}
use Rattle.rtcp_wire.proofs.LawLemmas.{reports_are_writable-receiver, reports_are_writable-sender}
use Rattle.rtcp_report.specs.Reports.{SentValue, Reporter, report_with, further_count, further_reports, reports_with, description_of}
use Rattle.rtcp_report.specs.Sizes.{description_size}
use Rattle.rtcp_report.proofs.ReportSizes.{description_length}

-- ---- Reports

no_further : (blocks : ℕ) → blocks ≤ 31 → further_count blocks ≡ 0
no_further blocks few = omega (arith, few)

pub one_report : (ssrc : ℕ) (sent : Option SentValue) (blocks : List ReportBlock) → length blocks ≤ 31 →
    reports_with ssrc sent blocks ≡ report_with ssrc sent blocks ∷ []
one_report ssrc sent blocks few =
    λ i. report_with ssrc sent (take_all 31 blocks few i) ∷ further_reports ssrc (no_further (length blocks) few i)
    (drop 31 blocks)

-- ---- Packets that can be written

pub report_writable : (ssrc : ℕ) (sent : Option SentValue) (blocks : List ReportBlock) → length blocks ≤ 31 →
    All IsWritableBlock blocks → IsWritable (report_with ssrc sent blocks)
report_writable ssrc None blocks few can = reports_are_writable-receiver ssrc blocks few can
report_writable ssrc (Some sent) blocks few can = reports_are_writable-sender _ blocks few can

pub description_writable : (reporter : Reporter) → All IsWritableItem reporter.items →
    description_size reporter.items ≤ 1472 → IsWritable (description_of reporter)
description_writable reporter can short = record {
  parts = (
    omega arith,
    All-cons IsWritableChunk (record { id = reporter.ssrc; items = reporter.items }) [] can
        (λ i d less. absurd (omega (arith, less))),
  );
  size = omega (arith, short, description_length reporter);
}
