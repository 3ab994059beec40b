use Rattle.rtcp_engine.proofs.LawLemmas.{setups_keep_the_rest-setup, setups_keep_the_rest-usable}
use Rattle.rtcp_engine.proofs.laws.setups_keep_the_rest.Goals as goal

pub returns-clause-setup : goal.returns-clause-setup
returns-clause-setup c = setups_keep_the_rest-setup

pub returns-clause-usable : goal.returns-clause-usable
returns-clause-usable c = setups_keep_the_rest-usable
