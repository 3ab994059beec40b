-- Names that repeat the one before name nothing else, and each goodbye is of a name.
use Rattle.std.proofs.Common.{map}
use Rattle.rtcp_wire.specs.Facts.{facts_of, subject}
use Rattle.rtcp_guard.specs.Naming.{but}
use Rattle.rtcp_guard.proofs.Leavers.{goodbye_is_named}
use Rattle.rtcp_guard.proofs.Runs.{named_once}
use Rattle.rtcp_guard.proofs.laws.compounds_name_their_sources.Goals as goal

pub returns-clause-names : goal.returns-clause-names
returns-clause-names c = λ own ssrc packets. named_once ssrc (but own (map subject (facts_of packets)))

pub returns-clause-goodbye : goal.returns-clause-goodbye
returns-clause-goodbye c = goodbye_is_named
