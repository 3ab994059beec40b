-- The lemma of this name, where no BYE counts, or there are goodbyes left.
use Rattle.std.proofs.Common.{None, refl}
use Rattle.rtcp_guard.specs.Claims.{goodbye_among}
use Rattle.rtcp_guard.proofs.Interfering.{few_pass, left_enough_of}
use Rattle.rtcp_guard.proofs.laws.few_own_sources_pass.Goals as goal

pub returns-clause-silent : goal.returns-clause-silent
returns-clause-silent c = λ guard origin moment names. few_pass guard origin moment names None refl

pub returns-clause-leaving : goal.returns-clause-leaving
returns-clause-leaving c = λ guard origin moment names goodbye left.
    few_pass guard origin moment names goodbye (left_enough_of origin (goodbye_among names goodbye) guard left)
