-- The text of what a participant answers, as `rtcp replay` shows it.
use Rattle.std.specs.Prelude.{ℕ, List, [], ◌∷◌, ◌++◌, Option, Some, None, Ok, Err, codes}
use Rattle.std.specs.Fmt.{decimal}
use Rattle.hex.specs.Hex.{encode_lower}
use Rattle.rtcp_wire.specs.declared.rtp.fault.RtpFault.{RtpFault}
use Rattle.rtcp_wire.specs.declared.rtp.fault.RtpFault.TheVariants.{Short, Version, PayloadType, Extension, Padding}
use Rattle.rtcp_engine.specs.declared.config.ConfigError.{ConfigError}
use Rattle.rtcp_engine.specs.declared.config.ConfigError.TheVariants.{Cname, Capacity, Limit, Bandwidth, Rate, Item}
use Rattle.rtcp_engine.specs.declared.refusal.Refusal.{Refusal}
use Rattle.rtcp_engine.specs.declared.refusal.Refusal.TheVariants.{Left, Backwards, TooFar, TooMany, Wire, Rtp, OwnSsrc, Settings}
use Rattle.rtcp_engine.specs.declared.step.OutKind.{OutKind}
use Rattle.rtcp_engine.specs.declared.step.OutKind.TheVariants.{Report, Bye}
use Rattle.rtcp_engine.specs.answers.Acts.{OutValue, StepValue, AnswerValue}
use Rattle.rtcp_text.specs.Text.{fault_words, hex_word}

-- ---- Steps

-- a moment, if there is one
abbrev pub next_text : Option ℕ → List ℕ
next_text None = codes "-"
next_text (Some next) = decimal next

abbrev pub counts_text : (members senders : ℕ) → (next : Option ℕ) → List ℕ
counts_text members senders next =
    codes "members=" ++ decimal members ++ codes " senders=" ++ decimal senders
    ++ codes " next=" ++ next_text next

abbrev pub kind_text : OutKind → List ℕ
kind_text Report = codes "report"
kind_text Bye = codes "bye"

-- kind:octets, if there is a compound to send
abbrev pub out_text : Option OutValue → List ℕ
out_text None = codes "-"
out_text (Some out) = kind_text out.kind ++ codes ":" ++ encode_lower out.octets

-- the new identifier, where there is one
abbrev pub changed_text : Option ℕ → List ℕ
changed_text None = []
changed_text (Some ssrc) = codes " ssrc=" ++ hex_word ssrc

abbrev pub step_text : StepValue → List ℕ
step_text step =
    codes "ok " ++ counts_text step.members step.senders step.next ++ codes " out=" ++ out_text step.out
    ++ changed_text step.changed

-- ---- Refusals

abbrev pub rtp_fault_text : RtpFault → List ℕ
rtp_fault_text Short = codes "G1 Short"
rtp_fault_text Version = codes "G2 Version"
rtp_fault_text PayloadType = codes "G3 PayloadType"
rtp_fault_text Extension = codes "G4 Extension"
rtp_fault_text Padding = codes "G5 Padding"

-- why a configuration is refused
abbrev pub config_text : ConfigError → List ℕ
config_text Cname = codes "C1 Cname"
config_text Capacity = codes "C2 Capacity"
config_text Limit = codes "C3 Limit"
config_text Bandwidth = codes "C4 Bandwidth"
config_text Rate = codes "C5 Rate"
config_text Item = codes "C6 Item"

abbrev pub refusal_text : Refusal → List ℕ
refusal_text Left = codes "E1 Left"
refusal_text Backwards = codes "E2 Backwards"
refusal_text TooFar = codes "E3 TooFar"
refusal_text TooMany = codes "E4 TooMany"
refusal_text (Wire fault) = codes "E5 Wire: " ++ fault_words fault
refusal_text (Rtp fault) = codes "E6 Rtp: " ++ rtp_fault_text fault
refusal_text OwnSsrc = codes "E7 OwnSsrc"
refusal_text (Settings error) = codes "E8 Settings: " ++ config_text error

-- ---- Lines

-- the line for the start of a session, with the moment of its first tick
abbrev pub start_text : (next : Option ℕ) → List ℕ
start_text next = codes "start " ++ counts_text 1 0 next ++ 10 ∷ []

-- the line for an answer
abbrev pub answer_text : AnswerValue → List ℕ
answer_text (Ok step) = step_text step ++ 10 ∷ []
answer_text (Err refusal) = codes "refused " ++ refusal_text refusal ++ 10 ∷ []
