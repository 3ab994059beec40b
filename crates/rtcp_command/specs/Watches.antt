-- What the options of `rtcp listen` say of its end, and of what it shows of sources.
use Rattle.std.specs.Prelude.{ℕ, ◌||◌, not, Bool, is_some, List, Option, Result, Ok, codes}
use Rattle.std.specs.Option.{ok_or}
use Rattle.clap.specs.declared.parser.matches.Found.{Found}
use Rattle.clap.specs.Matches.{first_value}
use Rattle.rtcp_command.specs.declared.orders.Watch.{Watch}
use Rattle.rtcp_command.specs.Numbers.{number_given}
use Rattle.rtcp_command.specs.Options.{is_set}
use Rattle.rtcp_text.specs.Results.{◌>>=◌}

-- 1 to 1,000,000,000 seconds, if they are given
abbrev pub seconds_given : Option (List ℕ) → Option (Option ℕ)
seconds_given = number_given 1 1000000000

-- whether an option is given
abbrev pub is_given : Found → (name : List ℕ) → Bool
is_given found name = is_some (first_value found name)

-- something else than turns ends the session
abbrev pub ends_otherwise : Found → Bool
ends_otherwise found =
    is_given found (codes "seconds") || is_given found (codes "stop") || is_given found (codes "until-loss")
    || is_given found (codes "until-silence")

-- Turns end a session if they are given, or nothing else ends it.
abbrev pub counts_turns : Found → Bool
counts_turns found = is_given found (codes "turns") || not (ends_otherwise found)

-- What the session is watched for, and how its sources are shown, or the name of the first option that is refused: a
-- loss of 0 to 99 per cent, a silence of 1 to 1,000,000,000 seconds, and 1 to 1,024 rows.
abbrev pub watch_in : Found → Result Watch (List ℕ)
watch_in found = do
  loss ← ok_or (number_given 0 99 (first_value found (codes "until-loss"))) (codes "until-loss")
  silence ← ok_or (seconds_given (first_value found (codes "until-silence"))) (codes "until-silence")
  rows ← ok_or (number_given 1 1024 (first_value found (codes "rows"))) (codes "rows")
  Ok (record { loss = loss; silence = silence; rows = rows; summary = is_set found (codes "summary") })
