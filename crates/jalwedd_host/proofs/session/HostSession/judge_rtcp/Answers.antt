use Rattle.std.proofs.Common.{◌∙◌, ℕ, Some, ap, option_map, subst, sym}
use Rattle.std.specs.Box.{box_value, with_value}
use Rattle.rtcp_engine.specs.answers.Acts.{rtcp_arrived}
use Rattle.jalwedd_host.specs.Guards.{Judges}
use Rattle.jalwedd_host.specs.declared.session.HostSession.{HostSession}
use Rattle.jalwedd_host.proofs.Judging.{judged}
use Rattle.jalwedd_host.proofs.session.HostSession.judge_rtcp.Goals as goal

pub returns-in-Some : goal.returns-in-Some
returns-in-Some c = record {
  judges =
      let event = rtcp_arrived c.args.moment c.args.peer c.args.w c.args.datagram.now in
      let judged_is = c.judged_rtcp.ensures in
      let later = with_value c.in-Some.guard c.judged_rtcp.new.guard in
      let new : HostSession = record c.args.self.now { guard = Some later } in
      subst (λ (status : ℕ). Judges c.args.self.now event status new) (sym judged_is.told)
      (judged c.args.self.now event judged_is.untaken c.deref_mut.result.now later
      (ap (option_map box_value) c.in-Some.is ∙ ap Some (sym c.deref_mut.ensures.value)) judged_is.held
      judged_is.passes);
}
