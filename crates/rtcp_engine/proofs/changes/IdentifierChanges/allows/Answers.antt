use Rattle.std.proofs.Common.{rules, tests, ◌==◌, ◌∙◌, ℕ, not, nat_lt, map, length, ap, arith}
use Rattle.std.proofs.lemmas.Bool.{lt-ltb}
use Rattle.std.proofs.lemmas.Iterator.{YieldsList-from_slice}
use Rattle.std.proofs.lemmas.Iterator.Search.{any_from_yields_List}
use Rattle.std.proofs.lemmas.List.{length-map}
use Rattle.rtcp_engine.specs.declared.changes.IdentifierChange.{IdentifierChange}
use Rattle.rtcp_engine.proofs.Among.{among_map, and_true}
use Rattle.rtcp_engine.proofs.changes.IdentifierChanges.allows.Goals as goal

pub returns-then-len-lt-MAX_CHANGES : goal.returns-then-len-lt-MAX_CHANGES
returns-then-len-lt-MAX_CHANGES c =
    let items = c.args.self.now.list.items in
    let any = any_from_yields_List (λ (change : IdentifierChange). change.peer == c.args.peer) _ _ _ c.any.ensures.ran
    (YieldsList-from_slice items cc) (λ x b q k. search (rules, tests)) in
    record {
      exact = ap not (any ∙ among_map (λ (change : IdentifierChange). change.peer) items c.args.peer)
          ∙ and_true _ (nat_lt (length (map (λ (change : IdentifierChange). change.peer) items)) 8)
          (lt-ltb _ _ (omega (arith, length-map {B = ℕ} items, c.len.ensures.value, c.if-len-lt-MAX_CHANGES.true)));
    }
