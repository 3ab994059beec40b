-- No compound passes its limit.
use Rattle.std.proofs.Common.{ℕ, suc, ◌≤◌, List, [], ◌∷◌, length, Option, Some, None, arith, ap}
use Rattle.std.specs.List.{cons_option}
use Rattle.std.proofs.lemmas.List.{length-append}
use Rattle.std.proofs.lemmas.List.Concat.{flat_map-append}
use Rattle.std.proofs.lemmas.List.Sums.{sum_by-cons}
use Rattle.rtcp_wire.specs.Values.{ReportBlock, ItemValue}
use Rattle.rtcp_wire.specs.Writing.{written, written_all}
use Rattle.rtcp_members.specs.Pending.{EntryRow, blocks_of}
use Rattle.rtcp_report.specs.Reports.{SentValue, Reporter, cname_item, receiver_named, bye_packet, packets_with, bye_of, items_of, first_report_size, report_size, fitting}
use Rattle.rtcp_report.specs.Sizes.{item_size, description_size, IsShort}
use Rattle.rtcp_report.proofs.Prefixes.{size_rises, longest_fitting}
use Rattle.rtcp_report.proofs.ReportSizes.{packets_length}

-- ---- Reports

one_more : (found : Option ReportBlock) (blocks : List ReportBlock) (n : ℕ) → length blocks ≤ n →
    length (cons_option found blocks) ≤ suc n
one_more None blocks n few = omega (arith, few)
one_more (Some block) blocks n few = omega (arith, few)

few_blocks : (t : ℕ) (rows : List EntryRow) → length (blocks_of t rows) ≤ length rows
few_blocks t [] = omega arith
few_blocks t (row ∷ rows) = one_more _ (blocks_of t rows) (length rows) (few_blocks t rows)

pub report_fits : (reporter : Reporter) (limit t : ℕ) (rows : List EntryRow) → report_size reporter 0 ≤ limit →
    length (written_all (packets_with reporter (blocks_of t (fitting reporter limit rows)))) ≤ limit
report_fits reporter limit t rows empty =
    let chosen = fitting reporter limit rows in
    let rises = size_rises reporter (length (blocks_of t chosen)) (length chosen) (few_blocks t chosen) in
    omega (arith, packets_length reporter (blocks_of t chosen), rises, (longest_fitting reporter limit rows empty).fits)

-- ---- Empty reports

first_is_small : (sent : Option SentValue) → first_report_size sent ≤ 28
first_is_small None = omega arith
first_is_small (Some sent) = omega arith

description_is_small : (cname : List ℕ) (extra : Option ItemValue) → length cname ≤ 255 → IsShort extra →
    description_size (items_of cname extra) ≤ 524
description_is_small cname None short none = omega (arith, short, sum_by-cons item_size (cname_item cname) [])
description_is_small cname (Some item) short also =
    omega (arith, short, also, sum_by-cons item_size (cname_item cname) (item ∷ []), sum_by-cons item_size item [])

pub empty_is_small : (ssrc : ℕ) (sent : Option SentValue) (cname : List ℕ) (extra : Option ItemValue) →
    length cname ≤ 255 → IsShort extra →
    report_size (record { ssrc = ssrc; sent = sent; items = items_of cname extra }) 0 ≤ 552
empty_is_small ssrc sent cname extra short also =
    omega (arith, first_is_small sent, description_is_small cname extra short also)

-- ---- The last compound

pub bye_is_small : (ssrc : ℕ) (cname : List ℕ) → length cname ≤ 255 → length (written_all (bye_of ssrc cname)) ≤ 284
bye_is_small ssrc cname short =
    let report = packets_with (receiver_named ssrc cname) [] in
    omega (
      arith,
      short,
      ap length (flat_map-append written report (bye_packet ssrc ∷ [])),
      length-append (written_all report) (written_all (bye_packet ssrc ∷ [])),
      packets_length (receiver_named ssrc cname) [],
      sum_by-cons item_size (cname_item cname) [],
    )
