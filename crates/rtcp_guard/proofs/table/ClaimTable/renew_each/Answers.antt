-- One more name is claimed or gathered.
use Rattle.std.proofs.Common.{[], ◌∷◌, get_or, take, arith, sym, ap, ◌∙◌}
use Rattle.std.proofs.lemmas.List.{take_more}
use Rattle.rtcp_guard.specs.Claims.{with_name, with_names}
use Rattle.rtcp_guard.proofs.Claiming.{names_append}
use Rattle.rtcp_guard.proofs.table.ClaimTable.renew_each.Goals as goal

pub names-preserved : goal.names-preserved
names-preserved c =
    let at = c.names.name-index in
    let names = c.args.names.now in
    let n = get_or names at 0 in
    let claims = c.args.self.now.items in
    let inv = c.names.invariant in
    let step = c.renew_or_gather.ensures in
    record {
      rising = step.rising;
      names = step.names;
      new = step.new;
      few = omega (arith, step.few, inv.few);
      all = step.all ∙ ap (with_name c.args.origin c.args.t n) inv.all
          ∙ sym (names_append c.args.origin c.args.t (take at names) (n ∷ []) claims)
          ∙ ap (λ ns. with_names c.args.origin c.args.t ns claims) (sym (take_more names at 0 c.names-test.true));
      room = step.room ∙ inv.room;
    }
