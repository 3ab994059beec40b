-- A source that is claimed stays with the claims, and another comes to those that are gathered.
use Rattle.std.proofs.Common.{◌≡◌, None, sym, ap, subst, ◌∙◌}
use Rattle.rtcp_guard.specs.Claims.{found, with_name, with_names}
use Rattle.rtcp_guard.specs.Tables.{AreRising, TableValue}
use Rattle.rtcp_guard.proofs.Claiming.{rising_name}
use Rattle.rtcp_guard.proofs.Counting.{of_more}
use Rattle.rtcp_guard.proofs.Newcomers.{name_last, named_as, unclaimed_still}
use Rattle.rtcp_guard.proofs.Orders.{gap_found}
use Rattle.rtcp_guard.proofs.table.ClaimTable.renew_or_gather.Goals as goal
use Rattle.rtcp_guard.proofs.table.ClaimTable.renew_or_gather.Goals.{After-write}

then_claims : (c : After-write) →
    c.write.new.self.items ≡ with_name c.args.origin c.args.t c.args.name c.args.self.now.items
then_claims c = c.write.ensures.items
    ∙ ap (λ (t : TableValue). with_name c.args.origin c.args.t c.args.name t.items) c.find.ensures.kept

pub returns-in-Ok-clause-rising : goal.returns-in-Ok-clause-rising
returns-in-Ok-clause-rising c = subst AreRising (sym (then_claims c))
    (rising_name c.args.origin c.args.t c.args.name c.args.self.now.items c.requires.rising)

pub returns-in-Ok-clause-new : goal.returns-in-Ok-clause-new
returns-in-Ok-clause-new c = λ ssrc named. ap (found ssrc) (then_claims c)
    ∙ unclaimed_still c.args.origin c.args.t c.args.fresh.now.items c.args.name c.in-Ok.at c.args.self.now.items
    c.requires.rising c.in-Ok.ensures.located c.requires.new ssrc named

pub returns-in-Ok-clause-all : goal.returns-in-Ok-clause-all
returns-in-Ok-clause-all c = ap (with_names c.args.origin c.args.t c.args.fresh.now.items) (then_claims c)
    ∙ name_last c.args.origin c.args.t c.args.fresh.now.items c.args.name c.args.self.now.items c.requires.rising

pub returns-in-Err-clause-new : goal.returns-in-Err-clause-new
returns-in-Err-clause-new c = λ ssrc named.
    let claims = c.args.self.now.items in
    ap (λ (t : TableValue). found ssrc t.items) c.find.ensures.kept
    ∙ of_more (λ s. found s claims ≡ None) c.args.name c.args.fresh.now.items c.requires.new
    (gap_found c.args.name claims c.in-Err.field-0 c.requires.rising c.in-Err.ensures.located) ssrc
    (sym (c.put_once.ensures.named ssrc) ∙ named)

pub returns-in-Err-clause-all : goal.returns-in-Err-clause-all
returns-in-Err-clause-all c =
    ap (λ (t : TableValue). with_names c.args.origin c.args.t c.put_once.new.names.items t.items) c.find.ensures.kept
    ∙ named_as c.args.origin c.args.t c.args.fresh.now.items c.put_once.new.names.items c.args.name
    c.args.self.now.items c.requires.rising c.put_once.ensures.named
