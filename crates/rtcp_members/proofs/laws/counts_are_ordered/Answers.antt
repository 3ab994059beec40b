use Rattle.rtcp_members.proofs.standing.Capacity.{len_updated}
use Rattle.rtcp_members.specs.Tables.{entry_after_check}
use Rattle.rtcp_members.proofs.LawLemmas.{counts_are_ordered-senders, counts_are_ordered-members, counts_are_ordered-check_senders}
use Rattle.rtcp_members.proofs.laws.counts_are_ordered.Goals as goal

pub returns : goal.returns
returns c = record {
  senders = counts_are_ordered-senders;
  members = counts_are_ordered-members;
  check_entries = λ table horizons. len_updated (entry_after_check horizons) table.entries;
  check_senders = counts_are_ordered-check_senders;
}
