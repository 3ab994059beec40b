use Rattle.rtcp_members.proofs.turns.NewsOfTraces.{pending_is_traced, pending_have_rows}
use Rattle.rtcp_members.specs.Pending.{EntryRow}
use Rattle.std.proofs.Common.{◌∙◌, ap, map}
use Rattle.rtcp_members.proofs.LawLemmas.{turns_follow_traces-rows, turns_follow_traces-due}
use Rattle.rtcp_members.proofs.turn_laws.turns_follow_traces.Goals as goal

pub returns : goal.returns
returns c = record {
  sources = λ last table trace stands. ap (map (λ (row : EntryRow). row.0))
      (pending_is_traced last table trace stands) ∙ pending_have_rows last table.capacity trace;
  rows = turns_follow_traces-rows;
  due = turns_follow_traces-due;
}
