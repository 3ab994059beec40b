use Rattle.rtcp_members.proofs.LawLemmas.{counts_agree-entries, counts_agree-members, counts_agree-senders, counts_agree-counted}
use Rattle.rtcp_members.proofs.laws.counts_agree.Goals as goal

pub returns : goal.returns
returns c = record {
  entries = counts_agree-entries;
  members = counts_agree-members;
  senders = counts_agree-senders;
  counted = counts_agree-counted;
}
