-- The text of the end of a session, as `rtcp listen` shows it.
use Rattle.std.specs.Prelude.{ℕ, Bool, true, false, List, [], ◌∷◌, ◌++◌, codes}
use Rattle.std.specs.Fmt.{decimal}
use Rattle.rtcp_serve.specs.declared.serving.Cause.{Cause}
use Rattle.rtcp_serve.specs.declared.serving.Cause.TheVariants.{Done, LinkDown, Limit}
use Rattle.rtcp_serve.specs.declared.serving.End.{End}

abbrev pub cause_text : Cause → List ℕ
cause_text Done = codes "Done"
cause_text LinkDown = codes "LinkDown"
cause_text Limit = codes "Limit"

abbrev pub yes_or_no : Bool → List ℕ
yes_or_no true = codes "yes"
yes_or_no false = codes "no"

-- what came
abbrev pub arrivals_text : End → List ℕ
arrivals_text ended =
    codes " received=" ++ decimal ended.received ++ codes " refused=" ++ decimal ended.refused

-- what went out
abbrev pub sendings_text : End → List ℕ
sendings_text ended =
    codes " sent=" ++ decimal ended.sent ++ codes " send-failures=" ++ decimal ended.send_failures

-- the line for the end of a session
abbrev pub end_text : End → List ℕ
end_text ended =
    codes "end " ++ cause_text ended.cause ++ arrivals_text ended ++ sendings_text ended
    ++ codes " recv-failures=" ++ decimal ended.recv_failures
    ++ codes " bye=" ++ yes_or_no ended.bye ++ 10 ∷ []
