-- What is kept of a source gives what the list of all that it was given says.
use Rattle.std.proofs.Common.{◌≡◌, ℕ, List, [], ◌∷◌, Option, Some, None, option_map, refl, sym, ap}
use Rattle.rtcp_wire.specs.Values.{ReportBlock}
use Rattle.rtcp_source.specs.Packets.{Given, packet_came, report_came, block_made, CountedPacket, PacketRun, run_of}
use Rattle.rtcp_source.specs.Takings.{greatest_of, taken_as}
use Rattle.rtcp_source.specs.LastBlocks.{said_of}
use Rattle.rtcp_source.specs.Summary.{SourceValue, numbers_of, summary_of, StandsAt}
use Rattle.rtcp_source.specs.ReportBlocks.{last_report_at, block_of_packets, block_over}
use Rattle.rtcp_source.specs.Fields.{last_report_of, lsr_of, dlsr_of}
use Rattle.rtcp_source.specs.Blocks.{block_for, block_of_run}
use Rattle.rtcp_source.specs.Receptions.{reception_where, reception_of_run, figures_of, figures_in, said_by}
use Rattle.rtcp_source.specs.Steps.{greatest_in}

pub same_taken : (counted before : List CountedPacket) (stray : Option ℕ) (seq : ℕ) →
    taken_as (greatest_in (numbers_of counted before)) stray seq ≡ taken_as (greatest_of counted) stray seq
same_taken [] before stray seq = refl
same_taken (p ∷ earlier) before stray seq = refl

-- What is told of the last sender report gives its LSR and DLSR.
pub same_report : (t : ℕ) (given : List Given) →
    last_report_at t given ≡ (lsr_of (last_report_of given), dlsr_of (last_report_of given) t)
same_report t [] = refl
same_report t (packet_came seq timestamp arrival octets rate ∷ given) = same_report t given
same_report t (report_came ntp rtp moment ∷ given) = refl
same_report t (block_made ∷ given) = same_report t given

same_numbers : (counted before : List CountedPacket) (ssrc lsr dlsr : ℕ)
    → option_map (block_of_run ssrc lsr dlsr) (numbers_of counted before)
    ≡ block_of_packets ssrc lsr dlsr counted before
same_numbers [] before ssrc lsr dlsr = refl
same_numbers (p ∷ earlier) before ssrc lsr dlsr = refl

pub same_block : (given : List Given) (ssrc t : ℕ) → block_for ssrc t (summary_of given) ≡ block_over ssrc t given
same_block given ssrc t =
    let run : PacketRun = run_of given in
    rw (same_report t given) (same_numbers run.counted run.reported ssrc (lsr_of (last_report_of given))
    (dlsr_of (last_report_of given) t))

-- a block made now says what is told of it later
pub same_said : (counted before : List CountedPacket) (ssrc lsr dlsr : ℕ)
    → said_of counted before ≡ option_map said_by (block_of_packets ssrc lsr dlsr counted before)
same_said [] before ssrc lsr dlsr = refl
same_said (p ∷ earlier) before ssrc lsr dlsr = refl

-- what a block says of the last sender report
abbrev clock_in : Option ReportBlock → ℕ × ℕ
clock_in None = (0, 0)
clock_in (Some block) = (block.lsr, block.dlsr)

pub same_clock : (counted before : List CountedPacket) (ssrc lsr dlsr : ℕ) (block : ReportBlock)
    → block_of_packets ssrc lsr dlsr counted before ≡ Some block →
    clock_in (Some block) ≡ (lsr, dlsr)
same_clock [] before ssrc lsr dlsr block made = absurd cc
same_clock (p ∷ earlier) before ssrc lsr dlsr block made = sym (ap clock_in made)

pub same_reception : (counted before : List CountedPacket) → option_map reception_of_run (numbers_of counted before)
    ≡ reception_where counted
same_reception [] before = refl
same_reception (p ∷ earlier) before = refl

-- but for the fraction lost, a block says the same
pub same_figures : (counted before : List CountedPacket) (ssrc lsr dlsr : ℕ)
    → option_map figures_of (reception_where counted)
    ≡ option_map figures_in (block_of_packets ssrc lsr dlsr counted before)
same_figures [] before ssrc lsr dlsr = refl
same_figures (p ∷ earlier) before ssrc lsr dlsr = refl

-- A block that is made by what is kept is that of the list.
pub block_of_list : (source : SourceValue) (ssrc t : ℕ) (made : Option ReportBlock) → made ≡ block_for ssrc t source
    → (given : List Given) → StandsAt source given → made ≡ block_over ssrc t given
block_of_list source ssrc t made by_numbers given stands = rw (by_numbers, stands) (same_block given ssrc t)
