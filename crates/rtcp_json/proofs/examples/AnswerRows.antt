-- Worked examples of the lines of answers.
use Rattle.std.proofs.Common.{◌≡◌, ℕ, [], ◌∷◌, ◌++◌, Option, Some, None, false, codes, refl}
use Rattle.std.specs.Fmt.{digits}
use Rattle.hex.specs.Hex.{encode_with}
use Rattle.json.specs.Print.{escape_byte, print_from}
use Rattle.rtcp_wire.specs.declared.fault.FaultReason.TheVariants.{Short}
use Rattle.rtcp_engine.specs.declared.config.ConfigError.TheVariants.{Bandwidth}
use Rattle.rtcp_engine.specs.declared.refusal.Refusal.TheVariants.{Left, Wire, Settings}
use Rattle.rtcp_engine.specs.declared.step.OutKind.TheVariants.{Report}
use Rattle.rtcp_engine.specs.answers.Acts.{OutValue, StepValue}
use Rattle.rtcp_guarded.specs.declared.untaken.Reason.TheVariants.{Stranger}
use Rattle.rtcp_json.specs.AnswerValues.{start_json, step_json, refusal_json, held_back_json}
use Rattle.rtcp_json.specs.JsonValues.{json_line}

-- a step of a participant alone with one other
abbrev a_step : Option OutValue → (next changed : Option ℕ) → StepValue
a_step out next changed = record {
  out = out;
  members = 2;
  senders = 0;
  entries = 1;
  next = next;
  changed = changed;
  others_changed = false;
}

abbrev a_report : Option OutValue
a_report = Some (record { kind = Report; octets = 128 ∷ 201 ∷ 0 ∷ 1 ∷ 0 ∷ 0 ∷ 0 ∷ 170 ∷ [] })

record Lines : Type 0 where
  start : json_line (start_json (Some 1026037)) ≡ codes "{\"start\":{\"members\":1,\"senders\":0,\"next\":1026037}}"
      ++ 10 ∷ []
  report : json_line (step_json (a_step a_report (Some 3078111) None))
      ≡ codes "{\"members\":2,\"senders\":0,\"next\":3078111,\"out\":{\"kind\":\"report\","
      ++ codes "\"octets\":\"80c90001000000aa\"},\"ssrc\":null}" ++ 10 ∷ []
  changed_at_the_end : json_line (step_json (a_step None None (Some 187)))
      ≡ codes "{\"members\":2,\"senders\":0,\"next\":null,\"out\":null,\"ssrc\":\"000000bb\"}" ++ 10 ∷ []
  has_left : json_line (refusal_json Left) ≡ codes "{\"refused\":\"E1 Left\"}" ++ 10 ∷ []
  wire : json_line (refusal_json (Wire (record { reason = Short; place = 20 })))
      ≡ codes "{\"refused\":\"E5 Wire\",\"fault\":\"F1 Short\",\"at\":20}" ++ 10 ∷ []
  settings : json_line (refusal_json (Settings Bandwidth))
      ≡ codes "{\"refused\":\"E8 Settings\",\"fault\":\"C4 Bandwidth\"}" ++ 10 ∷ []
  held_back : json_line (held_back_json Stranger) ≡ codes "{\"refused\":\"H1 Stranger\"}" ++ 10 ∷ []

lines : Lines
unfolding digits encode_with escape_byte print_from
lines = record {
  start = refl;
  report = refl;
  changed_at_the_end = refl;
  has_left = refl;
  wire = refl;
  settings = refl;
  held_back = refl;
}
