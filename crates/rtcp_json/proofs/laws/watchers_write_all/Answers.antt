use Rattle.rtcp_json.proofs.WatchLemmas.{session_shown}
use Rattle.rtcp_json.proofs.laws.watchers_write_all.Goals as goal

pub returns : goal.returns
returns g c = session_shown g.W.Write.contents
