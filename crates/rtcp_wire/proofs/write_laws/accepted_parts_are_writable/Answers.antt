use Rattle.rtcp_wire.proofs.LawLemmas.{accepted_parts_are_writable-items, accepted_parts_are_writable-goodbyes, accepted_parts_are_writable-blocks}
use Rattle.rtcp_wire.proofs.write_laws.accepted_parts_are_writable.Goals as goal

pub returns-clause-items : goal.returns-clause-items
returns-clause-items c = accepted_parts_are_writable-items

pub returns-clause-goodbyes : goal.returns-clause-goodbyes
returns-clause-goodbyes c = accepted_parts_are_writable-goodbyes

pub returns-clause-blocks : goal.returns-clause-blocks
returns-clause-blocks c = accepted_parts_are_writable-blocks
