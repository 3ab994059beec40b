use Rattle.rtcp_members.proofs.LawLemmas as law
use Rattle.rtcp_members.proofs.laws.forgetting_goes_as_silence.Goals as goal

pub returns : goal.returns
returns c = record {
  left = law.forgetting_goes_as_silence-left;
  gone = law.forgetting_goes_as_silence-gone;
  members = law.forgetting_goes_as_silence-members;
  senders = law.forgetting_goes_as_silence-senders;
}
