use Rattle.rtcp_members.proofs.LawLemmas as law
use Rattle.rtcp_members.proofs.listing_laws.tables_list_walks.Goals as goal

pub returns : goal.returns
returns c = record {
  walk = law.tables_list_walks-walk;
  more = law.tables_list_walks-more;
  none = law.tables_list_walks-none;
}
