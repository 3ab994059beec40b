-- The block of the first pending source, by the SSRC that it has itself.
use Rattle.std.proofs.Common.{◌≡◌, ℕ, List, Option, Some, None, option_and_then, option_map, unwrap_or, sym, ap, ◌∙◌}
use Rattle.std.specs.FinMap as finite
use Rattle.rtcp_wire.specs.Values.{ReportBlock}
use Rattle.rtcp_source.specs.Summary.{RunValue}
use Rattle.rtcp_source.specs.Blocks.{block_for, block_of_run}
use Rattle.rtcp_source.specs.Fields.{lsr_of, dlsr_of}
use Rattle.rtcp_members.specs.Entries.{EntryValue}
use Rattle.rtcp_members.specs.Tables.{TableValue}
use Rattle.rtcp_members.specs.Pending.{EntryRow, after_block, block_at, first_ssrc}

run_own : (ssrc lsr dlsr : ℕ) (run : Option RunValue) (value : ReportBlock) →
    Some value ≡ option_map (block_of_run ssrc lsr dlsr) run → value.ssrc ≡ ssrc
run_own ssrc lsr dlsr None value is = absurd cc
run_own ssrc lsr dlsr (Some run) value is = ap (λ (o : Option ReportBlock). (unwrap_or o value).ssrc) is

entry_own : (ssrc t : ℕ) (entry : Option EntryValue) (value : ReportBlock) →
    Some value ≡ option_and_then (λ (e : EntryValue). block_for ssrc t e.source) entry → value.ssrc ≡ ssrc
entry_own ssrc t None value is = absurd cc
entry_own ssrc t (Some entry) value is =
    run_own ssrc (lsr_of entry.source.last_report) (dlsr_of entry.source.last_report t) entry.source.run value is

-- What is told of a block is told by its own SSRC.
pub record IsNextBlock (t : ℕ) (rows : List EntryRow) (table after : TableValue) (value : ReportBlock) : Type 0 where
  pub source : Some value.ssrc ≡ first_ssrc rows
  pub block : Some value ≡ block_at value.ssrc t table
  pub content : after ≡ after_block value.ssrc table

pub next_block_made : (ssrc t : ℕ) (rows : List EntryRow) (table after : TableValue) (value : ReportBlock) →
    Some ssrc ≡ first_ssrc rows → Some value ≡ block_at ssrc t table → after ≡ after_block ssrc table →
    IsNextBlock t rows table after value
next_block_made ssrc t rows table after value first made moved =
    let own : value.ssrc ≡ ssrc = entry_own ssrc t (finite.get table.entries ssrc) value made in
    record {
      source = ap Some own ∙ first;
      block = made ∙ ap (λ s. block_at s t table) (sym own);
      content = moved ∙ ap (λ s. after_block s table) (sym own);
    }
