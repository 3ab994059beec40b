-- The numbers that are kept of a source follow what it is given.
use Rattle.std.proofs.Common.{◌≡◌, ℕ, suc, ◌+◌, max, List, [], ◌∷◌, length, Option, option_map, arith, refl, ap₂}
use Rattle.rtcp_source.specs.Packets.{Given, packet_came, block_made, CountedPacket, PacketRun, run_of}
use Rattle.rtcp_source.specs.Takings.{transit_of}
use Rattle.rtcp_source.specs.LastBlocks.{LastBlockValue, last_block, said_of}
use Rattle.rtcp_source.specs.Summary.{SourceValue, numbers_of, packet_count, summary_of, StandsAt}
use Rattle.rtcp_source.specs.Fields.{LastReportValue, last_report_of}
use Rattle.rtcp_source.specs.Steps.{source_with, after_packet, run_reported, said_in, after_block_made}
use Rattle.rtcp_source.proofs.Takings.{by_taking}
use Rattle.rtcp_source.proofs.Summing.{same_taken}

-- what is kept that no packet changes: the last sender report, and what the last block said
abbrev Kept : Type 0
Kept = Option LastReportValue × Option LastBlockValue

-- what is kept of a run, beside the count of packets
abbrev summarised : (packets : ℕ) → Kept → PacketRun → SourceValue
summarised packets kept run =
    record {
      packets = packets;
      run = numbers_of run.counted run.reported;
      stray = run.stray;
      last_report = kept.0;
      last_block = kept.1;
    }

one_more : (n : ℕ) → suc n ≡ n + 1
one_more n = omega arith

alone : (n : ℕ) → max n 0 ≡ n
alone n = omega arith

-- One packet more moves the summary as it moves the numbers.
pub packet_moves : (seq timestamp arrival octets rate : ℕ) (given : List Given)
    → summary_of (packet_came seq timestamp arrival octets rate ∷ given)
    ≡ after_packet seq timestamp arrival octets rate (summary_of given)
packet_moves seq timestamp arrival octets rate given =
    let run : PacketRun = run_of given in
    let kept : Kept = (last_report_of given, last_block given) in
    let transit : ℕ = transit_of timestamp arrival in
    let packets : ℕ = packet_count given in
    rw (same_taken run.counted run.reported run.stray seq)
    (by_taking (λ before taken _ after. summarised (packets + 1) kept after
    ≡ source_with taken seq transit octets rate (summarised packets kept before)) seq transit octets rate
    (λ p earlier _ _. rw (one_more (length (p ∷ earlier))) refl) (λ _. rw (alone (seq + 65536)) refl)
    (λ _. rw (alone (seq + 65536)) refl) (λ _. refl) (λ _. refl) run.counted run.reported run.stray)

same_numbers : (counted before : List CountedPacket) →
    numbers_of counted counted ≡ run_reported (numbers_of counted before)
same_numbers [] before = refl
same_numbers (p ∷ earlier) before = refl

same_said : (counted before : List CountedPacket) →
    said_of counted before ≡ option_map said_in (numbers_of counted before)
same_said [] before = refl
same_said (p ∷ earlier) before = refl

-- A block moves the summary as it moves the numbers.
pub block_moves : (given : List Given) → summary_of (block_made ∷ given) ≡ after_block_made (summary_of given)
block_moves given =
    let run : PacketRun = run_of given in
    ap₂ (λ numbers said. record {
      packets = packet_count given;
      run = numbers;
      stray = run.stray;
      last_report = last_report_of given;
      last_block = said;
    }) (same_numbers run.counted run.reported) (same_said run.counted run.reported)

pub stands_after : (seq timestamp arrival octets rate : ℕ) (source next : SourceValue)
    → next ≡ after_packet seq timestamp arrival octets rate source
    → (given : List Given) → StandsAt source given →
    StandsAt next (packet_came seq timestamp arrival octets rate ∷ given)
stands_after seq timestamp arrival octets rate source next step given stands =
    rw (step, stands, packet_moves seq timestamp arrival octets rate given) refl
