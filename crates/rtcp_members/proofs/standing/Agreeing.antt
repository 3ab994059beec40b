-- A packet is counted by a table that stands at a trace where the trace counts it.
use Rattle.std.proofs.Common.{◌≡◌, ◌&&◌, false, List, Option, Some, None, is_none, refl, ap, ◌∙◌}
use Rattle.std.proofs.lemmas.Bool.{and_right}
use Rattle.std.specs.FinMap as map
use Rattle.rtcp_wire.specs.Facts.{subject}
use Rattle.rtcp_wire.specs.declared.fact.Fact.{Fact}
use Rattle.rtcp_wire.specs.declared.fact.Fact.TheVariants.{Media}
use Rattle.rtcp_source.specs.Packets.{is_counted_in, run_of}
use Rattle.rtcp_source.specs.Takings.{is_counted}
use Rattle.rtcp_source.specs.Summary.{SourceValue}
use Rattle.rtcp_source.specs.Steps.{taken_by}
use Rattle.rtcp_source.proofs.LawLemmas.{summary_suffices-counted}
use Rattle.rtcp_members.specs.Traces.{TraceStep}
use Rattle.rtcp_members.specs.Entries.{EntryValue, given_of, counted_at}
use Rattle.rtcp_members.specs.Tables.{TableValue, StandsAt, counts, counted_of, counted}
use Rattle.rtcp_members.proofs.stays.Staying.{such_by_stay}

uncounted : (fact : Fact) → ((source : SourceValue) → counts fact source ≡ false) → (entry : Option EntryValue) →
    counted_of fact entry ≡ false
uncounted fact none None = refl
uncounted fact none (Some entry) = and_right (is_none entry.mark) _ (none entry.source)

pub counted_agrees : (table : TableValue) (trace : List TraceStep) (fact : Fact) → StandsAt table trace →
    counted table fact ≡ counted_at table.capacity trace fact
counted_agrees table trace (Media ssrc seq timestamp octets rate) stands =
    ap (counted_of (Media ssrc seq timestamp octets rate)) (stands ssrc)
    ∙ such_by_stay (λ entry. is_none entry.mark && is_counted (taken_by entry.source seq))
    (λ ssrc stay. is_counted_in (run_of (given_of ssrc stay)) seq) ssrc
    (λ stay. summary_suffices-counted (given_of ssrc stay) seq) (λ own mark. refl) table.capacity trace
counted_agrees table trace fact stands =
    uncounted fact (λ source. refl) (map.get table.entries (subject fact))
