-- Worked examples of the text of answers.
use Rattle.std.proofs.Common.{◌≡◌, ℕ, Bool, true, false, [], ◌∷◌, ◌++◌, Option, Some, None, Ok, Err, codes}
use Rattle.std.specs.Fmt.{digits}
use Rattle.hex.specs.Hex.{encode_with}
use Rattle.rtcp_wire.specs.declared.fault.FaultReason.TheVariants.{Short}
use Rattle.rtcp_wire.specs.declared.rtp.fault.RtpFault.TheVariants.{PayloadType}
use Rattle.rtcp_engine.specs.declared.refusal.Refusal.TheVariants.{Left, Backwards, TooFar, TooMany, Wire, Rtp, OwnSsrc, Settings}
use Rattle.rtcp_engine.specs.declared.config.ConfigError.TheVariants.{Bandwidth, Rate, Item}
use Rattle.rtcp_engine.specs.declared.step.OutKind.TheVariants.{Report, Bye}
use Rattle.rtcp_engine.specs.answers.Setups.{Setup}
use Rattle.rtcp_engine.specs.answers.Acts.{OutValue, AnswerValue}
use Rattle.rtcp_engine.specs.state.Taken.{begun}
use Rattle.rtcp_text.specs.AnswerText.{start_text, answer_text}
use Rattle.rtcp_text.specs.Replay.{opening}

-- the answer to an act that is taken
abbrev taken : Option OutValue → (members senders entries : ℕ) → (next changed : Option ℕ) → Bool → AnswerValue
taken out members senders entries next changed others_changed = Ok (record {
  out = out;
  members = members;
  senders = senders;
  entries = entries;
  next = next;
  changed = changed;
  others_changed = others_changed;
})

abbrev a_report : Option OutValue
a_report = Some (record { kind = Report; octets = 128 ∷ 201 ∷ 0 ∷ 1 ∷ 0 ∷ 0 ∷ 0 ∷ 170 ∷ [] })

abbrev a_bye : Option OutValue
a_bye = Some (record { kind = Bye; octets = 129 ∷ 203 ∷ 0 ∷ 1 ∷ 0 ∷ 0 ∷ 0 ∷ 170 ∷ [] })

-- a participant with SSRC 0xaa and the CNAME `a`
abbrev participant : Setup
participant = record {
  ssrc = 170;
  cname = 97 ∷ [];
  capacity = 1024;
  limit = 1472;
  settings = record {
    sender_bw = 100;
    receiver_bw = 300;
    rate = 8000;
    clocks = [];
    ntp_base = 0;
    extras = [];
  };
}

record Answers : Type 0 where
  start : start_text (Some 1026037) ≡ codes "start members=1 senders=0 next=1026037" ++ 10 ∷ []
  opens : opening (begun participant 0) ≡ codes "start members=1 senders=0 next=1026037" ++ 10 ∷ []
  nothing_sent : answer_text (taken None 2 1 1 (Some 1026037) None true)
      ≡ codes "ok members=2 senders=1 next=1026037 out=-" ++ 10 ∷ []
  report : answer_text (taken a_report 1 0 0 (Some 3078111) None true)
      ≡ codes "ok members=1 senders=0 next=3078111 out=report:80c90001000000aa" ++ 10 ∷ []
  bye : answer_text (taken a_bye 0 0 0 None None true)
      ≡ codes "ok members=0 senders=0 next=- out=bye:81cb0001000000aa" ++ 10 ∷ []
  no_next : answer_text (taken None 0 0 0 None None false) ≡ codes "ok members=0 senders=0 next=- out=-" ++ 10 ∷ []
  -- A change of identifier before anything was sent under the old one,
  changed : answer_text (taken None 1 0 1 (Some 1026037) (Some 187) false)
      ≡ codes "ok members=1 senders=0 next=1026037 out=- ssrc=000000bb" ++ 10 ∷ []
  -- and one that gives it up with a BYE.
  changed_with_bye : answer_text (taken a_bye 2 0 1 (Some 3078111) (Some 187) true)
      ≡ codes "ok members=2 senders=0 next=3078111 out=bye:81cb0001000000aa ssrc=000000bb" ++ 10 ∷ []
  left : answer_text (Err Left) ≡ codes "refused E1 Left" ++ 10 ∷ []
  backwards : answer_text (Err Backwards) ≡ codes "refused E2 Backwards" ++ 10 ∷ []
  too_far : answer_text (Err TooFar) ≡ codes "refused E3 TooFar" ++ 10 ∷ []
  too_many : answer_text (Err TooMany) ≡ codes "refused E4 TooMany" ++ 10 ∷ []
  wire : answer_text (Err (Wire (record { reason = Short; place = 20 }))) ≡ codes "refused E5 Wire: F1 Short at 20"
      ++ 10 ∷ []
  rtp : answer_text (Err (Rtp PayloadType)) ≡ codes "refused E6 Rtp: G3 PayloadType" ++ 10 ∷ []
  own_ssrc : answer_text (Err OwnSsrc) ≡ codes "refused E7 OwnSsrc" ++ 10 ∷ []
  settings : answer_text (Err (Settings Bandwidth)) ≡ codes "refused E8 Settings: C4 Bandwidth" ++ 10 ∷ []
  settings_with_rate : answer_text (Err (Settings Rate)) ≡ codes "refused E8 Settings: C5 Rate" ++ 10 ∷ []
  settings_with_item : answer_text (Err (Settings Item)) ≡ codes "refused E8 Settings: C6 Item" ++ 10 ∷ []

answers : Answers
unfolding digits encode_with
answers = search
