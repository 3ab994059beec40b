use Rattle.rtcp_engine.proofs.LawLemmas.{one_reading-always, one_reading-once, one_reading-computed, one_reading-rtp_always, one_reading-rtp_once, one_reading-rtp_computed}
use Rattle.rtcp_engine.proofs.laws.one_reading.Goals as goal

pub returns-clause-always : goal.returns-clause-always
returns-clause-always c = one_reading-always

pub returns-clause-once : goal.returns-clause-once
returns-clause-once c = one_reading-once

pub returns-clause-computed : goal.returns-clause-computed
returns-clause-computed c = one_reading-computed

pub returns-clause-rtp_computed : goal.returns-clause-rtp_computed
returns-clause-rtp_computed c = one_reading-rtp_computed

pub returns-clause-rtp_always : goal.returns-clause-rtp_always
returns-clause-rtp_always c = one_reading-rtp_always

pub returns-clause-rtp_once : goal.returns-clause-rtp_once
returns-clause-rtp_once c = one_reading-rtp_once
