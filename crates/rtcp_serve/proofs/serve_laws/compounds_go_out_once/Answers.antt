use Rattle.std.proofs.Common.{◌++◌, sym, ap, ◌∙◌}
use Rattle.rtcp_serve.specs.Handing.{given_in}
use Rattle.rtcp_serve.proofs.SessionAccounts.{pending, session_comes}
use Rattle.rtcp_serve.proofs.serve_laws.compounds_go_out_once.Goals as goal

pub returns-clause-handed : goal.returns-clause-handed
returns-clause-handed c = λ reader history words turns further calls t before after cause comes ends.
    sym ((session_comes reader history words turns further calls t before after comes).handed
    ∙ ap (λ stage. pending stage ++ given_in calls) ends)

pub returns-clause-history : goal.returns-clause-history
returns-clause-history c = λ reader history words turns further calls t before after comes.
    (session_comes reader history words turns further calls t before after comes).history
