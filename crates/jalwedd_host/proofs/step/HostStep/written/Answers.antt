use Rattle.std.proofs.Common.{◌∙◌, ap}
use Rattle.jalwedd_host.specs.Answers.{one_if}
use Rattle.jalwedd_host.proofs.Options.{bit_number}
use Rattle.jalwedd_host.proofs.Telling.{number_shown, stands_first}
use Rattle.jalwedd_host.proofs.step.HostStep.written.Goals as goal

pub returns-clause-handed : goal.returns-clause-handed
returns-clause-handed c was octets leaves =
    let first = stands_first c.args.told.now.out was octets leaves in (
      c.handed-kind.ensures.kind ∙ number_shown octets c.args.told.now.out,
      c.handed-kind.ensures.size ∙ first.0,
      c.from.ensures ∙ bit_number _ ∙ ap one_if c.is_some.ensures,
      c.from-2.ensures ∙ bit_number _,
      first.1,
    )
