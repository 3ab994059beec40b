use Rattle.rtcp_serve.proofs.SessionAccounts.{session_totals}
use Rattle.rtcp_serve.proofs.serve_laws.totals_count_calls.Goals as goal

pub returns : goal.returns
returns c = session_totals
