use Rattle.rtcp_engine.proofs.LawLemmas.{changes_touch_the_identifier_alone-setup, changes_touch_the_identifier_alone-rest}
use Rattle.rtcp_engine.proofs.laws.changes_touch_the_identifier_alone.Goals as goal

pub returns-clause-setup : goal.returns-clause-setup
returns-clause-setup c = changes_touch_the_identifier_alone-setup

pub returns-clause-rest : goal.returns-clause-rest
returns-clause-rest c = changes_touch_the_identifier_alone-rest
