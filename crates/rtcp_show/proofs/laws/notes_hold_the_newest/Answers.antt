use Rattle.rtcp_show.proofs.ObservationLemmas.{notes_are_newest}
use Rattle.rtcp_show.proofs.laws.notes_hold_the_newest.Goals as goal

pub returns : goal.returns
returns c = notes_are_newest
