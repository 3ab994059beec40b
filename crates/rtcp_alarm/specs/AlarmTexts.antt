-- The line of an alarm.
use Rattle.std.specs.Prelude.{ℕ, ◌*◌, ◌/◌, List, [], ◌∷◌, ◌++◌, codes}
use Rattle.rtcp_plain.specs.Numbers.{fixed_text}
use Rattle.rtcp_text.specs.Text.{hex_word}
use Rattle.rtcp_alarm.specs.declared.alarms.Alarm.{Alarm}
use Rattle.rtcp_alarm.specs.declared.alarms.Alarm.TheVariants.{Loss, Silence}
use Rattle.rtcp_alarm.specs.declared.alarms.Raised.{Raised}

-- a source and its fraction lost, in 1/256, as tenths of a per cent
abbrev pub loss_text : (ssrc fraction : ℕ) → List ℕ
loss_text ssrc fraction =
    codes " loss=" ++ hex_word ssrc ++ codes " " ++ fixed_text 10 (fraction * 1000 / 256) ++ codes "%"

abbrev pub cause_text : Alarm → List ℕ
cause_text (Loss ssrc fraction) = loss_text ssrc fraction
cause_text Silence = codes " silence"

-- the moment in seconds, and why
abbrev pub alarm_text : Raised → List ℕ
alarm_text raised = codes "alarm " ++ fixed_text 1000000 raised.moment ++ cause_text raised.alarm ++ 10 ∷ []
