use Rattle.rtcp_wire.proofs.LawLemmas.{reports_are_writable-receiver, reports_are_writable-sender}
use Rattle.rtcp_wire.proofs.write_laws.reports_are_writable.Goals as goal

pub returns-clause-receiver : goal.returns-clause-receiver
returns-clause-receiver c = reports_are_writable-receiver

pub returns-clause-sender : goal.returns-clause-sender
returns-clause-sender c = reports_are_writable-sender
