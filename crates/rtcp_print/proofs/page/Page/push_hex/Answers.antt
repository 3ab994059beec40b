use Rattle.std.proofs.Common.{◌≡◌, ℕ, ◌≤◌, List, [], length, drop, ap, subst, ◌∙◌, arith}
use Rattle.std.proofs.lemmas.List.{drop_all}
use Rattle.hex.specs.Hex.{encode_lower, encode_with, lower_digits}
use Rattle.hex.proofs.Pairs.{encode_with-drop}
use Rattle.rtcp_print.proofs.PageLemmas.{Brings, brought, goes_on}
use Rattle.rtcp_print.proofs.page.Page.push_hex.Goals as goal

pub loop-octet-preserved : goal.loop-octet-preserved
loop-octet-preserved c = record {
  same = c.push.ensures.same ∙ c.loop-octet.invariant.same;
  brings =
      let octets = c.args.octets.now in
      let left = encode_with-drop lower_digits octets c.loop-octet.octet-index (omega arith) in
      goes_on (subst (λ (rest : List ℕ). Brings c.args.self.now c.loop-octet.self rest (encode_lower octets)) left
      c.loop-octet.invariant.brings) c.push.ensures.adds;
}

none_left : (octets : List ℕ) (i : ℕ) → length octets ≤ i → encode_lower (drop i octets) ≡ []
unfolding encode_with
none_left octets i past = ap encode_lower (drop_all i octets past)

pub returns-clause-adds : goal.returns-clause-adds
returns-clause-adds c =
    let octets = c.args.octets.now in
    brought (subst (λ (rest : List ℕ). Brings c.args.self.now c.loop-octet.self rest (encode_lower octets))
    (none_left octets c.loop-octet.octet-index (omega arith)) c.loop-octet.invariant.brings)
