-- The values of answers are fit for a line where their numbers are in the ranges of Rust's types.
use Rattle.std.proofs.Common.{◌≡◌, ℕ, true, List, [], Option, Some, None, codes, refl, arith}
use Rattle.json.proofs.Printed.Utf8.{are_ascii, IsUtf8-are_ascii}
use Rattle.rtcp_wire.specs.declared.rtp.fault.RtpFault.{RtpFault}
use Rattle.rtcp_wire.specs.declared.rtp.fault.RtpFault.TheVariants.{Short, Version, PayloadType, Extension, Padding}
use Rattle.rtcp_engine.specs.declared.config.ConfigError.{ConfigError}
use Rattle.rtcp_engine.specs.declared.config.ConfigError.TheVariants.{Cname, Capacity, Limit, Bandwidth, Rate, Item}
use Rattle.rtcp_engine.specs.declared.refusal.Refusal.{Refusal}
use Rattle.rtcp_engine.specs.declared.refusal.Refusal.TheVariants.{Left, Backwards, TooFar, TooMany, Wire, Rtp, OwnSsrc, Settings}
use Rattle.rtcp_engine.specs.declared.step.OutKind.{OutKind}
use Rattle.rtcp_engine.specs.declared.step.OutKind.TheVariants.{Report, Bye}
use Rattle.rtcp_engine.specs.answers.Acts.{OutValue, StepValue}
use Rattle.rtcp_guarded.specs.declared.untaken.Reason.{Reason}
use Rattle.rtcp_guarded.specs.declared.untaken.Reason.TheVariants.{Stranger, Crowd}
use Rattle.rtcp_text.specs.AnswerText.{config_text, kind_text, rtp_fault_text}
use Rattle.rtcp_text.specs.Text.{reason_text}
use Rattle.rtcp_guarded_text.specs.GuardedText.{reason_text as guard_reason_text}
use Rattle.rtcp_json.specs.AnswerValues.{start_json, out_json, step_json, refused_json, caused_json, refusal_json, held_back_json}
use Rattle.rtcp_json.specs.JsonValues.{number_json, word_json, optional_json}
use Rattle.rtcp_json.specs.Validity.{IsMomentInRange, IsRefusalInRange, IsStepInRange}
use Rattle.rtcp_json.proofs.FitLemmas.{IsFitTo, decimal_fit}
use Rattle.rtcp_json.proofs.TextLemmas.{hex_utf8}
use Rattle.rtcp_json.proofs.ValueLemmas.{reason_ascii}

-- ---- Steps

pub next_fit : (next : Option ℕ) → IsMomentInRange next → IsFitTo 0 (optional_json number_json next)
next_fit None small = record { shallow = omega arith; fit = tt }
next_fit (Some next) small = record { shallow = omega arith; fit = decimal_fit next small }

pub start_fit : (next : Option ℕ) → IsMomentInRange next → IsFitTo 8 (start_json next)
start_fit next small =
    let inner = next_fit next small in
    let shallow = inner.shallow in
    record {
      shallow = omega arith;
      fit = (
        refl,
        (refl, decimal_fit 1 (omega arith), (refl, decimal_fit 0 (omega arith), (refl, inner.fit, tt))),
        tt,
      );
    }

kind_ascii : (kind : OutKind) → are_ascii (kind_text kind) ≡ true
kind_ascii Report = refl
kind_ascii Bye = refl

out_fit : (out : Option OutValue) → IsFitTo 1 (optional_json out_json out)
out_fit None = record { shallow = omega arith; fit = tt }
out_fit (Some out) = record {
  shallow = omega arith;
  fit = (refl, IsUtf8-are_ascii (kind_text out.kind) (kind_ascii out.kind), (refl, hex_utf8 out.octets, tt));
}

changed_fit : (changed : Option ℕ) → IsFitTo 0 (optional_json word_json changed)
changed_fit None = record { shallow = omega arith; fit = tt }
changed_fit (Some ssrc) = record { shallow = omega arith; fit = hex_utf8 _ }

pub step_fit : (step : StepValue) → IsStepInRange step → IsFitTo 8 (step_json step)
step_fit step small =
    let next = next_fit step.next small.next in
    let out = out_fit step.out in
    let changed = changed_fit step.changed in
    let members = small.members in
    let senders = small.senders in
    let shallow_next = next.shallow in
    let shallow_out = out.shallow in
    let shallow_changed = changed.shallow in
    record {
      shallow = omega arith;
      fit = (
        refl,
        decimal_fit step.members (omega arith),
        (
          refl,
          decimal_fit step.senders (omega arith),
          (
            refl,
            next.fit,
            (refl, out.fit, (refl, changed.fit, tt)),
          ),
        ),
      );
    }

-- ---- Refusals

rule_fit : (rule : List ℕ) → are_ascii rule ≡ true → IsFitTo 8 (refused_json rule [])
rule_fit rule ascii = record { shallow = omega arith; fit = (refl, IsUtf8-are_ascii rule ascii, tt) }

caused_fit : (rule fault : List ℕ) → are_ascii rule ≡ true → are_ascii fault ≡ true →
    IsFitTo 8 (caused_json rule fault)
caused_fit rule fault ascii ascii_too = record {
  shallow = omega arith;
  fit = (refl, IsUtf8-are_ascii rule ascii, (refl, IsUtf8-are_ascii fault ascii_too, tt));
}

rtp_ascii : (fault : RtpFault) → are_ascii (rtp_fault_text fault) ≡ true
rtp_ascii Short = refl
rtp_ascii Version = refl
rtp_ascii PayloadType = refl
rtp_ascii Extension = refl
rtp_ascii Padding = refl

config_ascii : (error : ConfigError) → are_ascii (config_text error) ≡ true
config_ascii Cname = refl
config_ascii Capacity = refl
config_ascii Limit = refl
config_ascii Bandwidth = refl
config_ascii Rate = refl
config_ascii Item = refl

pub refusal_fit : (refusal : Refusal) → IsRefusalInRange refusal → IsFitTo 8 (refusal_json refusal)
refusal_fit Left small = rule_fit (codes "E1 Left") refl
refusal_fit Backwards small = rule_fit (codes "E2 Backwards") refl
refusal_fit TooFar small = rule_fit (codes "E3 TooFar") refl
refusal_fit TooMany small = rule_fit (codes "E4 TooMany") refl
refusal_fit (Wire fault) small = record {
  shallow = omega arith;
  fit = (
    refl,
    IsUtf8-are_ascii (codes "E5 Wire") refl,
    (
      refl,
      IsUtf8-are_ascii (reason_text fault.reason) (reason_ascii fault.reason),
      (
        refl,
        decimal_fit fault.place small,
        tt,
      ),
    ),
  );
}
refusal_fit (Rtp fault) small = caused_fit (codes "E6 Rtp") (rtp_fault_text fault) refl (rtp_ascii fault)
refusal_fit OwnSsrc small = rule_fit (codes "E7 OwnSsrc") refl
refusal_fit (Settings error) small = caused_fit (codes "E8 Settings") (config_text error) refl (config_ascii error)

guard_ascii : (reason : Reason) → are_ascii (guard_reason_text reason) ≡ true
guard_ascii Stranger = refl
guard_ascii Crowd = refl

pub held_back_fit : (reason : Reason) → IsFitTo 8 (held_back_json reason)
held_back_fit reason = rule_fit (guard_reason_text reason) (guard_ascii reason)
