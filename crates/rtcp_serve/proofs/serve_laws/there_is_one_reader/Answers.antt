use Rattle.rtcp_engine.proofs.LawLemmas.{one_reading-always, one_reading-once, one_reading-rtp_always, one_reading-rtp_once}
use Rattle.rtcp_serve.proofs.serve_laws.there_is_one_reader.Goals as goal

pub returns-clause-there : goal.returns-clause-there
returns-clause-there c = (
  record { rtcp = λ octets. (one_reading-always octets).0; rtp = λ octets. (one_reading-rtp_always octets).0 },
  record { rtcp = λ octets. (one_reading-always octets).1; rtp = λ octets. (one_reading-rtp_always octets).1 },
)

pub returns-clause-alike : goal.returns-clause-alike
returns-clause-alike c one other reads same octets = (
  one_reading-once octets _ _ (reads.rtcp octets) (same.rtcp octets),
  one_reading-rtp_once octets _ _ (reads.rtp octets) (same.rtp octets),
)
