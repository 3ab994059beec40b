-- A source that the origin may have keeps the bounds.
use Rattle.std.proofs.Common.{sym, ap, subst, ◌∙◌}
use Rattle.rtcp_guard.specs.Guarding.{GuardValue, limit_of, room_of}
use Rattle.rtcp_guard.specs.Claims.{with_name}
use Rattle.rtcp_guard.specs.Tables.{IsBounded, TableValue}
use Rattle.rtcp_guard.proofs.Bounding.{bounded_expected}
use Rattle.rtcp_guard.proofs.guard.Guard.expect.Goals as goal

pub invariant_of-self-2 : goal.invariant_of-self-2
invariant_of-self-2 c =
    let settings = c.self.inside.settings in
    let trusted = c.self.inside.trusted.items in
    let guard : GuardValue = record {
      settings = settings;
      claims = c.self.inside.claims.items;
      trusted = trusted;
      held_back = c.self.inside.held_back;
    } in
    record {
      bounded = subst (IsBounded settings trusted) (sym (c.put.ensures.items
          ∙ ap (λ (t : TableValue). with_name c.args.origin c.args.t c.args.ssrc t.items) c.may_put.ensures.kept))
          (bounded_expected guard c.limit_of-limit.result c.room-room.result c.args.origin c.args.t c.args.ssrc
          c.self.invariant.bounded
          (c.limit_of-limit.ensures.limit ∙ ap (λ (g : GuardValue). limit_of c.args.origin g.settings g.trusted)
          (sym c.self.view_is))
          (c.room-room.ensures ∙ ap (λ (g : GuardValue). room_of g.settings) (sym c.self.view_is))
          (c.if-not-may_put.ensures.result c.args.t));
      roomy = c.put.ensures.room ∙ ap (λ (t : TableValue). t.room) c.may_put.ensures.kept ∙ c.self.invariant.roomy;
    }
