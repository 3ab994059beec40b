use Rattle.std.proofs.Common.{refl}
use Rattle.json.specs.Json.{null}
use Rattle.rtcp_json.proofs.AddingLemmas.{one}
use Rattle.rtcp_json.proofs.told.write_datagram.Goals as goal

pub returns-in_ok-null-in-None : goal.returns-in_ok-null-in-None
returns-in_ok-null-in-None c = (null, rw c.in-None.is refl, one c.in_ok-null-in-None.ensures)
