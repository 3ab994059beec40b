-- What a status says of the outcome.
use Rattle.std.proofs.Common.{◌≡◌, ◌≢◌, ℕ, ◌⊎◌, ◌↔◌, inl, inr, List, Option, Some, None, Result, Ok, Err, IsErrAnd, OnOk, refl, sym, subst, ap, ◌∙◌}
use Rattle.std.specs.Io.KnownBytes.{Keeps}
use Rattle.std.proofs.lemmas.Result.{err_from_is_err_and}
use Rattle.rtcp_wire.specs.Values.{RtcpPacket}
use Rattle.rtcp_plain.specs.Blocks.{blocks_text}
use Rattle.rtcp_plain.specs.Plain.{plain_text}
use Rattle.rtcp_engine.specs.answers.Refused.{error_in}
use Rattle.rtcp_engine.specs.state.Taken.{begun}
use Rattle.rtcp_engine.specs.state.Views.{setup_of}
use Rattle.rtcp_engine.specs.declared.config.Config.{Config as ConfigOfCall}
use Rattle.rtcp_engine.specs.declared.config.ConfigError.{ConfigError}
use Rattle.rtcp_text.specs.Check.{Checks}
use Rattle.rtcp_text.specs.Opened.{IsOpenedText, ReplaysWith}
use Rattle.rtcp_text.specs.Replay.{IsSessionText, Replays, opening}
use Rattle.rtcp_guarded_text.specs.GuardedReplay.{IsGuardedText, ReplaysGuarded, guarded_begun, guarded_opening}
use Rattle.rtcp_guarded_text.specs.declared.limits.GuardLimits.{GuardLimits}
use Rattle.rtcp_text.specs.Text.{accepted_text}
use Rattle.rtcp_json.specs.CheckJson.{ChecksInJson}
use Rattle.rtcp_json.specs.GuardedReplayJson.{IsGuardedJson, ReplaysGuardedInJson, guarded_opening_json}
use Rattle.rtcp_json.specs.ReplayJson.{IsSessionJson, ReplaysInJson, opening_json}
use Rattle.rtcp_text.specs.declared.fault.LineFault.{LineFault}
use Rattle.rtcp_text.specs.declared.fault.ReplayFault.{ReplayFault}
use Rattle.rtcp_text.specs.declared.fault.ReplayFault.TheVariants.{Config as BadConfig, Run}
use Rattle.rtcp_text.specs.declared.fault.TextFault.{TextFault}
use Rattle.rtcp_text.specs.declared.fault.TextFault.TheVariants.{Text as BadText, Read as Unread, Write as Unwritten, Memory as NoMemory}
use Rattle.rtcp_text.specs.declared.counted.Counted.{Counted}
use Rattle.rtcp_text.specs.Lines.{TextOfLines, Writes, Wrote}
use Rattle.rtcp_text.specs.Counted.{inner_of}
use Rattle.rtcp_command.specs.declared.fault.RunFault.{RunFault}
use Rattle.rtcp_command.specs.declared.fault.RunFault.TheVariants.{Config, Text, Link, Record, NoRegularFile, Random, Read, Write, Memory}
use Rattle.rtcp_command.specs.declared.orders.TextOrder.{TextOrder}
use Rattle.rtcp_command.specs.declared.orders.TextOrder.TheVariants.{Check, CheckPlain, CheckBlocks, CheckJson, Replay, ReplayGuarded, ReplayJson, ReplayGuardedJson}
use Rattle.rtcp_command.specs.Orders.{AnswersOrder, IsTextOfOrder, RefusesConfig}
use Rattle.rtcp_command.specs.Status.{fault_status, replay_fault, text_fault}

pub refuses : (fault : RunFault) → fault_status fault ≡ 2
    → ((error : ConfigError) × (fault ≡ Config error)) ⊎
    ((line : ℕ) × (refused : LineFault) × (fault ≡ Text line refused))
refuses (Config error) two = inl (error, refl)
refuses (Text line fault) two = inr (line, fault, refl)
refuses Link two = absurd (cc two)
refuses Record two = absurd (cc two)
refuses NoRegularFile two = absurd (cc two)
refuses Random two = absurd (cc two)
refuses Read two = absurd (cc two)
refuses Write two = absurd (cc two)
refuses Memory two = absurd (cc two)

-- ---- What a fault of a run was

check_refused : (found : TextFault) (line : ℕ) (fault : LineFault) → text_fault found ≡ Text line fault →
    found ≡ BadText line fault
check_refused (BadText line' fault') line fault is = cc is
check_refused Unread line fault is = absurd (cc is)
check_refused Unwritten line fault is = absurd (cc is)
check_refused NoMemory line fault is = absurd (cc is)

replay_refused : (found : ReplayFault) (line : ℕ) (fault : LineFault) → replay_fault found ≡ Text line fault →
    found ≡ Run (BadText line fault)
replay_refused (BadConfig error) line fault is = absurd (cc is)
replay_refused (Run found) line fault is = ap Run (check_refused found line fault is)

no_config : (found : TextFault) (error : ConfigError) → text_fault found ≢ Config error
no_config (BadText line fault) error is = absurd (cc is)
no_config Unread error is = absurd (cc is)
no_config Unwritten error is = absurd (cc is)
no_config NoMemory error is = absurd (cc is)

replay_config : (found : ReplayFault) (error : ConfigError) → replay_fault found ≡ Config error →
    found ≡ BadConfig error
replay_config (BadConfig error') error is = cc is
replay_config (Run found) error is = absurd (no_config found error is)

-- ---- What a run was, of which the answers are a check or a replay

abbrev pub checked : Result (Unit {0}) TextFault → Result (Unit {0}) RunFault
checked (Ok x) = Ok x
checked (Err fault) = Err (text_fault fault)

abbrev pub replayed : Result (Unit {0}) ReplayFault → Result (Unit {0}) RunFault
replayed (Ok x) = Ok x
replayed (Err fault) = Err (replay_fault fault)

module _ (order : TextOrder) {Leaves : (List ℕ → List ℕ → Type 0) → Type 0} where
  pub answers_checked : (r : Result (Unit {0}) TextFault) → OnOk r (Leaves (IsTextOfOrder order None))
      → ((line : ℕ) (fault : LineFault) → r ≡ Err (BadText line fault)
      → Leaves (IsTextOfOrder order (Some (line, fault))))
      → AnswersOrder order (checked r) Leaves
  answers_checked (Ok x) whole refused = record {
    whole = whole;
    refused = λ line fault is. absurd (cc is);
    config = λ error is. absurd (cc is);
  }
  answers_checked (Err found) whole refused = record {
    whole = tt;
    refused = λ line fault is. refused line fault (ap Err (check_refused found line fault (cc is)));
    config = λ error is. absurd (no_config found error (cc is));
  }

module _ (order : TextOrder) {left : Option (List ℕ)} {Leaves : (List ℕ → List ℕ → Type 0) → Type 0} where
  -- An answered session, with a guard or without, is answered by its opening and its lines.
  pub answers_replayed : (opening : List ℕ) (IsText : TextOfLines) (IsUsable : Type 0)
      → ((end : Option (ℕ × LineFault)) → Leaves (IsOpenedText opening IsText end) → Leaves (IsTextOfOrder order end))
      → (r : Result (Unit {0}) ReplayFault)
      → ((error : ConfigError) → r ≡ Err (BadConfig error) → RefusesConfig order error)
      → ReplaysWith opening IsText IsUsable r left Leaves → AnswersOrder order (replayed r) Leaves
  answers_replayed opening IsText IsUsable same (Ok x) configs h = record {
    whole = same None h.whole;
    refused = λ line fault is. absurd (cc is);
    config = λ error is. absurd (cc is);
  }
  answers_replayed opening IsText IsUsable same (Err found) configs h = record {
    whole = tt;
    refused = λ line fault is.
        same (Some (line, fault)) (h.refused line fault (ap Err (replay_refused found line fault (cc is))));
    config = λ error is. configs error (ap Err (replay_config found error (cc is)));
  }

module _ (order : TextOrder) {left : Option (List ℕ)} {Leaves : (List ℕ → List ℕ → Type 0) → Type 0} where
  pub check_answers : (lines : ℕ) → order ≡ Check lines → (r : Result (Unit {0}) TextFault) →
      Checks accepted_text lines r left Leaves → AnswersOrder order (checked r) Leaves
  check_answers lines is r h =
      subst (λ o. AnswersOrder o (checked r) Leaves) (sym is) (answers_checked (Check lines) r h.whole h.refused)

  pub check_plain_answers : (lines : ℕ) → order ≡ CheckPlain lines → (r : Result (Unit {0}) TextFault) →
      Checks (plain_text None) lines r left Leaves → AnswersOrder order (checked r) Leaves
  check_plain_answers lines is r h =
      subst (λ o. AnswersOrder o (checked r) Leaves) (sym is) (answers_checked (CheckPlain lines) r h.whole h.refused)

  pub check_blocks_answers : (lines : ℕ) → order ≡ CheckBlocks lines → (r : Result (Unit {0}) TextFault) →
      Checks blocks_text lines r left Leaves → AnswersOrder order (checked r) Leaves
  check_blocks_answers lines is r h =
      subst (λ o. AnswersOrder o (checked r) Leaves) (sym is)
      (answers_checked (CheckBlocks lines) r h.whole h.refused)

  pub check_json_answers : (lines : ℕ) → order ≡ CheckJson lines → (r : Result (Unit {0}) TextFault) →
      ChecksInJson lines r left Leaves → AnswersOrder order (checked r) Leaves
  check_json_answers lines is r h =
      subst (λ o. AnswersOrder o (checked r) Leaves) (sym is) (answers_checked (CheckJson lines) r h.whole h.refused)

  pub replay_answers : (config : ConfigOfCall) (word lines : ℕ) → order ≡ Replay config word lines →
      (r : Result (Unit {0}) ReplayFault) →
      ((error : ConfigError) → (r ≡ Err (BadConfig error)) ↔ (error_in (setup_of config) ≡ Some error)) →
      Replays lines (begun (setup_of config) word) r left Leaves → AnswersOrder order (replayed r) Leaves
  replay_answers config word lines is r configs h =
      let history = begun (setup_of config) word in
      subst (λ o. AnswersOrder o (replayed r) Leaves) (sym is)
      (answers_replayed (Replay config word lines) (opening history) (IsSessionText lines history)
      (error_in (setup_of config) ≡ None) (λ end p. p) r (λ error. (configs error).0) h)

  pub replay_guarded_answers : (config : ConfigOfCall) (word lines : ℕ) (limits : GuardLimits) →
      order ≡ ReplayGuarded config word lines limits → (r : Result (Unit {0}) ReplayFault) →
      ((error : ConfigError) → (r ≡ Err (BadConfig error)) ↔ (error_in (setup_of config) ≡ Some error)) →
      ReplaysGuarded lines (guarded_begun (setup_of config) word limits) r left Leaves →
      AnswersOrder order (replayed r) Leaves
  replay_guarded_answers config word lines limits is r configs h =
      let history = guarded_begun (setup_of config) word limits in
      subst (λ o. AnswersOrder o (replayed r) Leaves) (sym is)
      (answers_replayed (ReplayGuarded config word lines limits) (guarded_opening history) (IsGuardedText lines history)
      (error_in (setup_of config) ≡ None) (λ end p. p) r (λ error. (configs error).0) h)

  pub replay_json_answers : (config : ConfigOfCall) (word lines : ℕ) → order ≡ ReplayJson config word lines →
      (r : Result (Unit {0}) ReplayFault) →
      ((error : ConfigError) → (r ≡ Err (BadConfig error)) ↔ (error_in (setup_of config) ≡ Some error)) →
      ReplaysInJson lines (begun (setup_of config) word) r left Leaves → AnswersOrder order (replayed r) Leaves
  replay_json_answers config word lines is r configs h =
      let history = begun (setup_of config) word in
      subst (λ o. AnswersOrder o (replayed r) Leaves) (sym is)
      (answers_replayed (ReplayJson config word lines) (opening_json history) (IsSessionJson lines history)
      (error_in (setup_of config) ≡ None) (λ end p. p) r (λ error. (configs error).0) h)

  pub replay_guarded_json_answers : (config : ConfigOfCall) (word lines : ℕ) (limits : GuardLimits) →
      order ≡ ReplayGuardedJson config word lines limits → (r : Result (Unit {0}) ReplayFault) →
      ((error : ConfigError) → (r ≡ Err (BadConfig error)) ↔ (error_in (setup_of config) ≡ Some error)) →
      ReplaysGuardedInJson lines (guarded_begun (setup_of config) word limits) r left Leaves →
      AnswersOrder order (replayed r) Leaves
  replay_guarded_json_answers config word lines limits is r configs h =
      let history = guarded_begun (setup_of config) word limits in
      subst (λ o. AnswersOrder o (replayed r) Leaves) (sym is)
      (answers_replayed (ReplayGuardedJson config word lines limits) (guarded_opening_json history)
      (IsGuardedJson lines history) (error_in (setup_of config) ≡ None) (λ end p. p) r (λ error. (configs error).0) h)

-- the exit of a `?`
pub at_exit : (order : TextOrder) {Leaves : (List ℕ → List ℕ → Type 0) → Type 0} (r : Result (Unit {0}) RunFault)
    (fault : RunFault) → IsErrAnd r (λ e. e ≡ fault) → AnswersOrder order (Err fault) Leaves →
    AnswersOrder order r Leaves
at_exit order {Leaves} r fault exit holds =
    let found = err_from_is_err_and r exit in
    subst (λ x. AnswersOrder order x Leaves) (sym (found.1 ∙ ap Err found.2)) holds

-- A failed flush comes before what else failed.
pub answers_unwritten : (order : TextOrder) {Leaves : (List ℕ → List ℕ → Type 0) → Type 0} (fault : RunFault) →
    fault ≡ Write → AnswersOrder order (Err fault) Leaves
answers_unwritten order fault write = record {
  whole = tt;
  refused = λ line refused is. absurd (cc (write, is));
  config = λ error is. absurd (cc (write, is));
}

-- A writer that counts is left with what the writer inside holds.
pub Writes-inner : {R W : Type 0} (remaining : R → Option (List ℕ)) (contents : W → Option (List ℕ))
    (reader : Counted R) (writer writer' : Counted W)
    (r : R) (w : W) (P : List ℕ → List ℕ → Type 0) → inner_of reader ≡ r → inner_of writer ≡ w →
    Wrote remaining contents reader writer writer' P
    → Writes (remaining r) (contents w) (contents (inner_of writer')) P
Writes-inner remaining contents reader writer writer' r w P of_reader of_writer wrote =
    subst (λ x. Writes (remaining r) (contents x) (contents (inner_of writer')) P) of_writer
    (subst (λ x. Writes (remaining x) (contents (inner_of writer)) (contents (inner_of writer')) P) of_reader wrote)

-- What a writer keeps, it still holds.
kept_of : (holds last : Option (List ℕ)) (octets : List ℕ) → Keeps holds last → holds ≡ Some octets → last ≡ Some octets
kept_of None last octets keeps e = absurd (cc e)
kept_of (Some x) None octets keeps e = absurd keeps
kept_of (Some x) (Some y) octets keeps e = cc (keeps, e)

Writes-kept : (remaining held holds last : Option (List ℕ)) (P : List ℕ → List ℕ → Type 0) → Keeps holds last →
    Writes remaining held holds P → Writes remaining held last P
Writes-kept remaining held holds last P keeps writes = λ input before known written.
    let found = writes input before known written in (found.0, kept_of holds last _ keeps found.1, found.2)

pub answers_kept : (order : TextOrder) (r : Result (Unit {0}) RunFault) {remaining held holds last : Option (List ℕ)} →
    Keeps holds last → AnswersOrder order r (Writes remaining held holds) →
    AnswersOrder order r (Writes remaining held last)
answers_kept order (Ok x) keeps h = record {
  whole = Writes-kept _ _ _ _ _ keeps h.whole;
  refused = λ line fault is. Writes-kept _ _ _ _ _ keeps (h.refused line fault is);
  config = h.config;
}
answers_kept order (Err fault) keeps h = record {
  whole = tt;
  refused = λ line fault is. Writes-kept _ _ _ _ _ keeps (h.refused line fault is);
  config = h.config;
}
