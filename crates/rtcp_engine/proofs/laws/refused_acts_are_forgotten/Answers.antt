use Rattle.rtcp_engine.specs.answers.Histories.{with_act}
use Rattle.std.proofs.Common.{Some, None, ap}
use Rattle.rtcp_engine.proofs.laws.refused_acts_are_forgotten.Goals as goal

pub returns-clause-refused : goal.returns-clause-refused
returns-clause-refused c history act reason is =
    ap (λ r. elim r [ None ↦ with_act history act | Some refusal ↦ history ]) is

pub returns-clause-taken : goal.returns-clause-taken
returns-clause-taken c history act is = ap (λ r. elim r [ None ↦ with_act history act | Some refusal ↦ history ]) is
