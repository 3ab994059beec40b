use Rattle.rtcp_wire.proofs.LawLemmas.{heads_are_in_range-payload_type, heads_are_in_range-sequence, heads_are_in_range-csrcs, heads_are_in_range-words}
use Rattle.rtcp_wire.proofs.rtp_laws.heads_are_in_range.Goals as goal

pub returns-clause-payload_type : goal.returns-clause-payload_type
returns-clause-payload_type c = heads_are_in_range-payload_type

pub returns-clause-sequence : goal.returns-clause-sequence
returns-clause-sequence c = heads_are_in_range-sequence

pub returns-clause-csrcs : goal.returns-clause-csrcs
returns-clause-csrcs c = heads_are_in_range-csrcs

pub returns-clause-words : goal.returns-clause-words
returns-clause-words c = heads_are_in_range-words
