use Rattle.rtcp_members.proofs.LawLemmas as law
use Rattle.rtcp_members.proofs.listing_laws.listings_follow_traces.Goals as goal

pub returns : goal.returns
returns c = record {
  listed = law.listings_follow_traces-listed;
  only = law.listings_follow_traces-only;
}
