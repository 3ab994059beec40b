use Rattle.rtcp_members.proofs.listing.Above.{walk_counts}
use Rattle.rtcp_members.proofs.LawLemmas as law
use Rattle.rtcp_members.proofs.listing_laws.walks_list_each_once.Goals as goal

pub returns-clause-once : goal.returns-clause-once
returns-clause-once c after capacity trace ssrc = walk_counts capacity trace ssrc after

pub returns-clause-rising : goal.returns-clause-rising
returns-clause-rising c = law.walks_list_each_once-rising
