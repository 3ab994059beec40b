-- When a configuration is not refused.
use Rattle.std.proofs.Common.{◌≡◌, ◌<◌, ◌^◌, ℕ, List, Option, Some, None, option_map, ap, ◌∙◌, arith}
use Rattle.std.specs.Option.{option_or}
use Rattle.std.proofs.lemmas.Bool.Decides.{nat_tests}
use Rattle.rtcp_engine.specs.answers.Refused.{error_in}
use Rattle.jalwedd_host.specs.declared.config.Config.{Config}
use Rattle.jalwedd_host.specs.declared.config.Item.{Item as ItemGiven}
use Rattle.jalwedd_host.specs.Configs.{oversize, refusal_of, refusal_of_guard, refusal_of_setup, refusal_of_start}
use Rattle.jalwedd_host.specs.Configs.{setup_given, status_of_error}

start_taken : (start : ℕ) → start < 2 ^ 63 → refusal_of_start start ≡ None
start_taken start low = grind (arith, nat_tests, low)

setup_taken : (config : Config) (cname : List ℕ) (items : List ItemGiven) → oversize config cname items ≡ None →
    error_in (setup_given config cname items) ≡ None → refusal_of_setup config cname items ≡ None
setup_taken config cname items fits usable =
    ap (λ (o : Option ℕ). elim o [
      | None ↦ option_map status_of_error (error_in (setup_given config cname items))
      | Some status ↦ Some status
    ]) fits
    ∙ ap (option_map status_of_error) usable

pub not_refused : (config : Config) (cname : List ℕ) (items : List ItemGiven) → oversize config cname items ≡ None →
    error_in (setup_given config cname items) ≡ None → config.start < 2 ^ 63 →
    refusal_of_guard config.guard ≡ None → refusal_of config cname items ≡ None
not_refused config cname items fits usable low guards =
    ap (λ (r : Option ℕ). option_or r (option_or (refusal_of_start config.start) (refusal_of_guard config.guard)))
    (setup_taken config cname items fits usable)
    ∙ ap (λ (r : Option ℕ). option_or r (refusal_of_guard config.guard)) (start_taken config.start low)
    ∙ guards
