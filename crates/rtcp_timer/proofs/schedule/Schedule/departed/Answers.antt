use Rattle.std.proofs.Common.{◌-◌, ap, arith}
use Rattle.rtcp_timer.specs.declared.schedule.Schedule.TheInside.{Inside}
use Rattle.rtcp_timer.proofs.Quotients.{scaled_down_shorter}
use Rattle.rtcp_timer.proofs.schedule.Schedule.departed.Goals.{then-self-tc, else-self-tc}
use Rattle.rtcp_timer.proofs.schedule.Schedule.departed.Goals as goal

-- The last transmission lies before the moment, and the next one comes no later.
pub invariant_of-self : goal.invariant_of-self
invariant_of-self c =
    let bounds = c.self.invariant in
    elim c.if-self-tc.branch [
      | then-self-tc w ↦
          let last = ap (λ (s : Inside). s.last) w.self-inside-is in
          let next = ap (λ (s : Inside). s.next) w.self-inside-is in
          let shorter = scaled_down_shorter (c.self.inside.next - c.args.tc) c.args.members c.self.inside.known
          (omega (arith, c.if-members-self.false)) in (
            omega (arith, last, c.requires.moment_fits),
            omega (arith, next, shorter, w.scale_down-then-self-tc.ensures, w.if-self-tc.true, bounds.1),
          )
      | else-self-tc w ↦
          let last = ap (λ (s : Inside). s.last) w.self-inside-is in
          let next = ap (λ (s : Inside). s.next) w.self-inside-is in
          (omega (arith, last, c.requires.moment_fits), omega (arith, next, bounds.1))
    ]
