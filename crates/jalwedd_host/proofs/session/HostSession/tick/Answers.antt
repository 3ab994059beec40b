use Rattle.std.proofs.Common.{refl}
use Rattle.jalwedd_host.specs.declared.session.HostSession.{HostSession}
use Rattle.jalwedd_host.proofs.Judging.{ticked}
use Rattle.jalwedd_host.proofs.session.HostSession.tick.Goals as goal

pub returns-clause-guarded : goal.returns-clause-guarded
returns-clause-guarded c =
    let old = c.args.self.now in
    let mid : HostSession = record old { participant = c.tick_into-reply.new.self } in
    ticked old mid c.check.new.self c.args.moment c.args.w1 c.args.w2 c.silent_before-silent_before.result
    c.tick_into-reply.result refl c.silent_before-silent_before.ensures c.tick_into-reply.ensures c.check.ensures
