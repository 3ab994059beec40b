use Rattle.rtcp_timer.proofs.LawLemmas.{calls_keep_within_draws-transmitted, calls_keep_within_draws-tried, calls_keep_within_draws-departed, calls_keep_within_draws-stayed}
use Rattle.rtcp_timer.proofs.laws.calls_keep_within_draws.Goals as goal

pub returns-clause-transmitted : goal.returns-clause-transmitted
returns-clause-transmitted c = calls_keep_within_draws-transmitted

pub returns-clause-tried : goal.returns-clause-tried
returns-clause-tried c = calls_keep_within_draws-tried

pub returns-clause-departed : goal.returns-clause-departed
returns-clause-departed c = calls_keep_within_draws-departed

pub returns-clause-stayed : goal.returns-clause-stayed
returns-clause-stayed c = calls_keep_within_draws-stayed
