use Rattle.rtcp_engine.proofs.LawLemmas.{sent_compounds_keep_apart}
use Rattle.rtcp_engine.proofs.laws.sent_compounds_keep_apart.Goals as goal

pub returns : goal.returns
returns c = sent_compounds_keep_apart
