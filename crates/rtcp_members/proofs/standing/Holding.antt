-- What a table holds of a source is what the stay of the source says.
use Rattle.std.proofs.Common.{◌≡◌, ℕ, if◌then◌else◌, List, [], ◌∷◌, Option, Some, None, is_some, option_map, option_and_then, refl, ap, ◌∙◌}
use Rattle.std.specs.FinMap as finite
use Rattle.rtcp_wire.specs.Values.{ReportBlock}
use Rattle.rtcp_source.specs.Blocks.{block_for}
use Rattle.rtcp_source.specs.ReportBlocks.{block_over}
use Rattle.rtcp_source.proofs.LawLemmas.{summary_suffices-block}
use Rattle.rtcp_members.specs.Traces.{TraceStep}
use Rattle.rtcp_members.specs.Stays.{before_mark, mark_of, stay_of}
use Rattle.rtcp_members.specs.Entries.{EntryValue, entry_of, given_of}
use Rattle.rtcp_members.specs.Pending.{block_at}
use Rattle.rtcp_members.specs.Tables.{TableValue, StandsAt}

pub held_as_stayed : (table : TableValue) (trace : List TraceStep) (ssrc : ℕ) → StandsAt table trace →
    is_some (finite.get table.entries ssrc) ≡ is_some (stay_of table.capacity trace ssrc)
held_as_stayed table trace ssrc stands = ap is_some (stands ssrc) ∙ mapped (stay_of table.capacity trace ssrc)
  where
    mapped : (stay : Option (List TraceStep)) → is_some (option_map (entry_of ssrc) stay) ≡ is_some stay
    mapped None = refl
    mapped (Some stay) = refl

-- Without a mark the whole stay stands before it.
whole_stay : (ssrc : ℕ) (stay : List TraceStep) → mark_of ssrc stay ≡ None → before_mark ssrc stay ≡ stay
whole_stay ssrc [] none = refl
whole_stay ssrc (step ∷ earlier) none =
    ap (λ (mark : Option ℕ). if is_some mark then before_mark ssrc earlier else step ∷ earlier) none

pub block_of_stay : (table : TableValue) (trace : List TraceStep) (ssrc t : ℕ) (stay : List TraceStep) →
    StandsAt table trace → stay_of table.capacity trace ssrc ≡ Some stay → mark_of ssrc stay ≡ None
    → block_at ssrc t table ≡ block_over ssrc t (given_of ssrc stay)
block_of_stay table trace ssrc t stay stands stays none =
    let entry : Option EntryValue →
    Option ReportBlock = option_and_then (λ (entry : EntryValue). block_for ssrc t entry.source) in
    ap entry (stands ssrc ∙ ap (option_map (entry_of ssrc)) stays)
    ∙ summary_suffices-block (given_of ssrc (before_mark ssrc stay)) ssrc t
    ∙ ap (λ (own : List TraceStep). block_over ssrc t (given_of ssrc own)) (whole_stay ssrc stay none)
