use Rattle.std.proofs.Common.{List, ℕ, ap, subst, arith, ◌∙◌}
use Rattle.std.specs.List.{flat_map}
use Rattle.std.proofs.lemmas.List.{drop_more}
use Rattle.core.specs.Char.Escape.{escape_ascii}
use Rattle.rtcp_print.proofs.PageLemmas.{Brings, goes_on}
use Rattle.rtcp_print.proofs.plain.push_escaped.Goals as goal

pub loop-octet-preserved : goal.loop-octet-preserved
loop-octet-preserved c = record {
  same = c.push_octet.ensures.same ∙ c.loop-octet.invariant.same;
  brings =
      let text = c.args.text.now in
      let left = ap (flat_map escape_ascii) (drop_more text c.loop-octet.octet-index 0 (omega arith)) in
      goes_on (subst (λ (rest : List ℕ). Brings c.args.page.now c.loop-octet.page rest (flat_map escape_ascii text))
      left
      c.loop-octet.invariant.brings) c.push_octet.ensures.adds;
}
