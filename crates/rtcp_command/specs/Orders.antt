-- What a run over text writes, by its order.
use Rattle.std.specs.Prelude.{◌≡◌, ℕ, List, Option, Some, None, Result, Err, OnOk}
use Rattle.rtcp_engine.specs.declared.config.ConfigError.{ConfigError}
use Rattle.rtcp_engine.specs.answers.Refused.{error_in}
use Rattle.rtcp_engine.specs.state.Taken.{begun}
use Rattle.rtcp_engine.specs.state.Views.{setup_of}
use Rattle.rtcp_text.specs.declared.fault.LineFault.{LineFault}
use Rattle.rtcp_command.specs.declared.fault.RunFault.{RunFault}
use Rattle.rtcp_command.specs.declared.fault.RunFault.TheVariants.{Config, Text}
use Rattle.rtcp_command.specs.declared.orders.TextOrder.{TextOrder}
use Rattle.rtcp_command.specs.declared.orders.TextOrder.TheVariants.{Check, CheckPlain, CheckBlocks, CheckJson, Replay, ReplayGuarded, ReplayJson, ReplayGuardedJson}
use Rattle.rtcp_plain.specs.Blocks.{blocks_text}
use Rattle.rtcp_plain.specs.Plain.{plain_text}
use Rattle.rtcp_text.specs.Check.{IsTextOfBy}
use Rattle.rtcp_text.specs.Text.{accepted_text}
use Rattle.rtcp_text.specs.Replay.{IsSessionOf}
use Rattle.rtcp_guarded_text.specs.GuardedReplay.{IsGuardedSessionOf, guarded_begun}
use Rattle.rtcp_json.specs.CheckJson.{IsJsonOf}
use Rattle.rtcp_json.specs.GuardedReplayJson.{IsGuardedJsonOf}
use Rattle.rtcp_json.specs.ReplayJson.{IsSessionJsonOf}

-- the whole text that an order gives for an input, with its end
abbrev pub IsTextOfOrder : TextOrder → Option (ℕ × LineFault) → List ℕ → List ℕ → Type 0
IsTextOfOrder (Check lines) end = IsTextOfBy accepted_text lines end
IsTextOfOrder (CheckPlain lines) end = IsTextOfBy (plain_text None) lines end
IsTextOfOrder (CheckBlocks lines) end = IsTextOfBy blocks_text lines end
IsTextOfOrder (CheckJson lines) end = IsJsonOf lines end
IsTextOfOrder (Replay config word lines) end = IsSessionOf lines (begun (setup_of config) word) end
IsTextOfOrder (ReplayGuarded config word lines limits) end =
    IsGuardedSessionOf lines (guarded_begun (setup_of config) word limits) end
IsTextOfOrder (ReplayJson config word lines) end = IsSessionJsonOf lines (begun (setup_of config) word) end
IsTextOfOrder (ReplayGuardedJson config word lines limits) end =
    IsGuardedJsonOf lines (guarded_begun (setup_of config) word limits) end

-- The order has a configuration that is refused so.
abbrev pub RefusesConfig : TextOrder → ConfigError → Type 0
RefusesConfig (Check lines) error = ⊥
RefusesConfig (CheckPlain lines) error = ⊥
RefusesConfig (CheckBlocks lines) error = ⊥
RefusesConfig (CheckJson lines) error = ⊥
RefusesConfig (Replay config word lines) error = error_in (setup_of config) ≡ Some error
RefusesConfig (ReplayGuarded config word lines limits) error = error_in (setup_of config) ≡ Some error
RefusesConfig (ReplayJson config word lines) error = error_in (setup_of config) ≡ Some error
RefusesConfig (ReplayGuardedJson config word lines limits) error = error_in (setup_of config) ≡ Some error

-- What a run promises of its order, by its outcome and what it wrote.
pub record AnswersOrder
    (order : TextOrder) (result : Result (Unit {0}) RunFault) (Leaves : (List ℕ → List ℕ → Type 0) → Type 0)
    : Type 0 where
  pub whole : OnOk result (Leaves (IsTextOfOrder order None))
  pub refused : (line : ℕ) (fault : LineFault) → result ≡ Err (Text line fault) →
      Leaves (IsTextOfOrder order (Some (line, fault)))
  pub config : (error : ConfigError) → result ≡ Err (Config error) → RefusesConfig order error
