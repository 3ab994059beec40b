use Rattle.std.proofs.Common.{rules, List, ℕ, subst, ◌∙◌}
use Rattle.core.specs.Char.Escape.{escape_ascii}
use Rattle.rtcp_print.proofs.PageLemmas.{Brings, goes_on}
use Rattle.rtcp_print.proofs.plain.push_octet.Goals as goal

pub loop-part-preserved : goal.loop-part-preserved
loop-part-preserved c = record {
  same = c.push.ensures.same ∙ c.loop-part.invariant.same;
  brings =
      let so_far = c.loop-part.invariant.brings in
      goes_on (subst (λ (rest : List ℕ). Brings c.args.page.now c.loop-part.page rest (escape_ascii c.args.octet))
      c.in-Some.ensures.steps.1.0 so_far) c.push.ensures.adds;
  can = search rules;
}
