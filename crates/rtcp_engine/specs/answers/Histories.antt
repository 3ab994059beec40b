-- What the acts of a session come to, from its beginning on. A history is a list of acts, newest first.
use Rattle.std.specs.Prelude.{ℕ, List, [], ◌∷◌, Option}
use Rattle.std.specs.Option.{option_or}
use Rattle.rtcp_engine.specs.answers.Setups.{Setup}
use Rattle.rtcp_engine.specs.answers.Acts.{Act, configured, moment_of, OutValue}
use Rattle.rtcp_engine.specs.answers.Outcomes.{beginning}
use Rattle.rtcp_engine.specs.answers.Leaving.{Life, present}
use Rattle.rtcp_engine.specs.answers.Lives.{made_by}
use Rattle.rtcp_engine.specs.answers.Changes.{Session, bye_of_change, change_by, changed_by}

-- A session so far.
pub record History : Type 0 where
  pub setup : Setup
  -- the random word that it started with
  pub word : ℕ
  -- the acts that were taken, newest first
  pub acts : List Act

abbrev pub with_act : History → Act → History
with_act history act = record history { acts = act ∷ history.acts }

abbrev pub last_moment : List Act → ℕ
last_moment [] = 0
last_moment (act ∷ earlier) = moment_of act

-- ---- Acts

-- the session in which an act is taken: with the change of identifier that it brings
abbrev pub session_for : Session → Act → Session
session_for session act = changed_by (change_by session act) session

-- the setup after an act: with other settings, where it gives them
abbrev pub setup_after : Act → Setup → Setup
setup_after (configured moment settings) setup = record setup { settings = settings }
setup_after act setup = setup

abbrev pub after_act : Session → Act → Session
after_act session act =
    let now = session_for session act in
    record now { setup = setup_after act now.setup; life = (made_by now.setup act now.life).life }

-- The compound that an act brings: the BYE of an identifier that it gives up, or else its own.
abbrev pub brought_by : Session → Act → Option OutValue
brought_by session act =
    let now = session_for session act in
    option_or (bye_of_change (change_by session act) session) (made_by now.setup act now.life).out

-- ---- Histories

-- What a session has come to, from its setup, its start word and all acts that were taken.
abbrev pub session_of : Setup → (word : ℕ) → List Act → Session
session_of setup word [] = record { setup = setup; changes = []; life = present (beginning setup word) }
session_of setup word (act ∷ earlier) = after_act (session_of setup word earlier) act

abbrev pub session_at : History → Session
session_at history = session_of history.setup history.word history.acts

-- the setup under the present identifier, with the present settings
abbrev pub setup_at : History → Setup
setup_at history = (session_at history).setup

abbrev pub life_at : History → Life
life_at history = (session_at history).life
