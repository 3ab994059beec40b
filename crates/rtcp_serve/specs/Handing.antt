-- What a participant hands out over a session, what its link was given, and what its observer was told. Lists are
-- newest first.
use Rattle.std.specs.Prelude.{ℕ, Bool, List, [], ◌∷◌, ◌++◌, Option, Some, None, Ok, Err}
use Rattle.rtcp_engine.specs.answers.Acts.{Act, OutValue}
use Rattle.rtcp_guarded.specs.Guarded.{GuardedAnswer}
use Rattle.rtcp_serve.specs.Served.{Served, answer_for, followed_for}
use Rattle.rtcp_serve.specs.Links.{Call, compound_sent}
use Rattle.rtcp_serve.specs.Observers.{Notice, event_told, send_tried}
use Rattle.rtcp_serve.specs.Serving.{Reader, act_in}

-- the compound that an answer hands out, if there is one
abbrev pub octets_of : Option OutValue → List (List ℕ)
octets_of None = []
octets_of (Some out) = out.octets ∷ []

abbrev pub handed_by : GuardedAnswer → List (List ℕ)
handed_by (Ok step) = octets_of step.out
handed_by (Err untaken) = []

-- the history after acts that a participant was told, those that it refused among them
abbrev pub history_after : Served → List Act → Served
history_after start [] = start
history_after start (act ∷ earlier) = followed_for (history_after start earlier) act

-- all compounds that it handed out
abbrev pub handed_out : Served → List Act → List (List ℕ)
handed_out start [] = []
handed_out start (act ∷ earlier) = handed_by (answer_for (history_after start earlier) act) ++ handed_out start earlier

-- all compounds that a link was given to send
abbrev pub given : Call → List (List ℕ)
given (compound_sent octets failed) = octets ∷ []
given call = []

abbrev pub given_in : List Call → List (List ℕ)
given_in [] = []
given_in (call ∷ earlier) = given call ++ given_in earlier

-- ---- Notices

-- the acts of all events that an observer was told
abbrev pub acts_in : Reader → List Notice → List Act
acts_in reader [] = []
acts_in reader (event_told one ∷ earlier) = act_in reader one.event ∷ acts_in reader earlier
acts_in reader (send_tried failed ∷ earlier) = acts_in reader earlier

-- the answers to all these
abbrev pub answers_in : List Notice → List GuardedAnswer
answers_in [] = []
answers_in (event_told one ∷ earlier) = one.answer ∷ answers_in earlier
answers_in (send_tried failed ∷ earlier) = answers_in earlier

-- whether each send failed that an observer was told of
abbrev pub sends_in : List Notice → List Bool
sends_in [] = []
sends_in (event_told one ∷ earlier) = sends_in earlier
sends_in (send_tried failed ∷ earlier) = failed ∷ sends_in earlier

-- whether each send of a link failed
abbrev pub sends_of : List Call → List Bool
sends_of [] = []
sends_of (compound_sent octets failed ∷ earlier) = failed ∷ sends_of earlier
sends_of (call ∷ earlier) = sends_of earlier

-- the answers to acts, each after those before it
abbrev pub answers_given : Served → List Act → List GuardedAnswer
answers_given start [] = []
answers_given start (act ∷ earlier) = answer_for (history_after start earlier) act ∷ answers_given start earlier
