use Rattle.rtcp_members.proofs.LawLemmas as law
use Rattle.rtcp_members.proofs.listing_laws.listings_lie_in_the_past.Goals as goal

pub returns : goal.returns
returns c = record {
  listed = law.listings_lie_in_the_past-listed;
  walk = law.listings_lie_in_the_past-walk;
  later = law.listings_lie_in_the_past-later;
  facts = law.listings_lie_in_the_past-facts;
}
