use Rattle.rtcp_show.proofs.LeaveLemmas.{listed_by_participants}
use Rattle.rtcp_show.proofs.laws.listings_are_of_participants.Goals as goal

pub returns : goal.returns
returns c = listed_by_participants
