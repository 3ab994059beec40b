use Rattle.rtcp_serve.proofs.SessionAccounts.{session_comes}
use Rattle.rtcp_serve.proofs.serve_laws.observers_are_told_all.Goals as goal

pub returns-clause-answers : goal.returns-clause-answers
returns-clause-answers c = λ reader history words turns further calls t before after comes.
    (session_comes reader history words turns further calls t before after comes).answers

pub returns-clause-sends : goal.returns-clause-sends
returns-clause-sends c = λ reader history words turns further calls t before after comes.
    (session_comes reader history words turns further calls t before after comes).sends
