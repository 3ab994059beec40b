use Rattle.rtcp_guarded.proofs.Holding.{held_back_answers, held_back_passed}
use Rattle.rtcp_guarded.proofs.laws.held_back_datagrams_change_nothing.Goals as goal

pub returns-clause-passed : goal.returns-clause-passed
returns-clause-passed c = held_back_passed

pub returns-clause-answers : goal.returns-clause-answers
returns-clause-answers c = held_back_answers
