use Rattle.rtcp_engine.proofs.LawLemmas.{settings_touch_the_setup_alone-life, settings_touch_the_setup_alone-next, settings_touch_the_setup_alone-sent, settings_touch_the_setup_alone-setup}
use Rattle.rtcp_engine.proofs.laws.settings_touch_the_setup_alone.Goals as goal

pub returns-clause-life : goal.returns-clause-life
returns-clause-life c = settings_touch_the_setup_alone-life

pub returns-clause-next : goal.returns-clause-next
returns-clause-next c = settings_touch_the_setup_alone-next

pub returns-clause-sent : goal.returns-clause-sent
returns-clause-sent c = settings_touch_the_setup_alone-sent

pub returns-clause-setup : goal.returns-clause-setup
returns-clause-setup c = settings_touch_the_setup_alone-setup
