use Rattle.rtcp_members.proofs.LawLemmas.{rows_are_of_stays-all, rows_are_of_stays-sources, rows_are_of_stays-blocks}
use Rattle.rtcp_members.proofs.turn_laws.rows_are_of_stays.Goals as goal

pub returns : goal.returns
returns c = record {
  all = rows_are_of_stays-all;
  sources = rows_are_of_stays-sources;
  blocks = rows_are_of_stays-blocks;
}
