use Rattle.rtcp_wire.proofs.LawLemmas.{sizes_add_up-compound, sizes_add_up-receiver, sizes_add_up-sender}
use Rattle.rtcp_wire.proofs.write_laws.sizes_add_up.Goals as goal

pub returns-clause-compound : goal.returns-clause-compound
returns-clause-compound c = sizes_add_up-compound

pub returns-clause-receiver : goal.returns-clause-receiver
returns-clause-receiver c = sizes_add_up-receiver

pub returns-clause-sender : goal.returns-clause-sender
returns-clause-sender c = sizes_add_up-sender
