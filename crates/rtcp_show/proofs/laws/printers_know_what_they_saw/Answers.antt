use Rattle.rtcp_show.proofs.ObservationLemmas.{knows_more}
use Rattle.rtcp_show.proofs.laws.printers_know_what_they_saw.Goals as goal

pub returns : goal.returns
returns g c = knows_more
