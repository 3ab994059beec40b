-- Fewer claims keep the bounds.
use Rattle.std.proofs.Common.{sym, subst, ◌∙◌}
use Rattle.rtcp_guard.specs.Tables.{IsBounded}
use Rattle.rtcp_guard.proofs.Bounding.{bounded_lapse}
use Rattle.rtcp_guard.proofs.guard.Guard.check.Goals as goal

pub invariant_of-self : goal.invariant_of-self
invariant_of-self c =
    let settings = c.self.inside.settings in
    let trusted = c.self.inside.trusted.items in
    record {
      bounded = subst (IsBounded settings trusted) (sym c.lapse.ensures.items)
          (bounded_lapse settings trusted c.min-before.result c.self.inside.claims.items c.self.invariant.bounded);
      roomy = c.lapse.ensures.room ∙ c.self.invariant.roomy;
    }
