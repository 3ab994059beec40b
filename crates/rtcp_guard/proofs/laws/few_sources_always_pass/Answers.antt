-- The lemma of this name, where no BYE counts, or there are goodbyes left.
use Rattle.std.proofs.Common.{◌<◌, None, refl, sym, subst}
use Rattle.rtcp_guard.specs.Claims.{goodbye_among, goodbyes_of}
use Rattle.rtcp_guard.specs.Guarding.{limit_of}
use Rattle.rtcp_guard.specs.Histories.{guard_after}
use Rattle.rtcp_guard.specs.declared.settings.Settings.{Settings}
use Rattle.rtcp_guard.proofs.Fewness.{always_pass}
use Rattle.rtcp_guard.proofs.Interfering.{left_enough_of}
use Rattle.rtcp_guard.proofs.Owning.{its_settings}
use Rattle.rtcp_guard.proofs.laws.few_sources_always_pass.Goals as goal

pub returns-clause-silent : goal.returns-clause-silent
returns-clause-silent c = λ settings history origin moment few names.
    always_pass settings origin few history moment names None refl

pub returns-clause-leaving : goal.returns-clause-leaving
returns-clause-leaving c = λ settings history origin moment few names goodbye left.
    always_pass settings origin few history moment names goodbye
    (left_enough_of origin (goodbye_among names goodbye) (guard_after settings history)
    (subst (λ (s : Settings). goodbyes_of origin (guard_after settings history).claims
    < limit_of origin s (guard_after settings history).trusted) (sym (its_settings settings history)) left))
