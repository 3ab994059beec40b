use Rattle.rtcp_wire.proofs.LawLemmas.{accepted_packets_are_writable-writable, accepted_packets_are_writable-in_range, accepted_packets_are_writable-begins, accepted_packets_are_writable-no_longer, accepted_packets_are_writable-read_back}
use Rattle.rtcp_wire.proofs.write_laws.accepted_packets_are_writable.Goals as goal

pub returns-clause-writable : goal.returns-clause-writable
returns-clause-writable c = accepted_packets_are_writable-writable

pub returns-clause-in_range : goal.returns-clause-in_range
returns-clause-in_range c = accepted_packets_are_writable-in_range

pub returns-clause-begins : goal.returns-clause-begins
returns-clause-begins c = accepted_packets_are_writable-begins

pub returns-clause-no_longer : goal.returns-clause-no_longer
returns-clause-no_longer c = accepted_packets_are_writable-no_longer

pub returns-clause-read_back : goal.returns-clause-read_back
returns-clause-read_back c = accepted_packets_are_writable-read_back
