use Rattle.std.proofs.Common.{rules, tests, ◌==◌, ◌∙◌}
use Rattle.std.proofs.lemmas.Iterator.{YieldsList-from_slice}
use Rattle.std.proofs.lemmas.Iterator.Search.{any_from_yields_List}
use Rattle.rtcp_engine.specs.declared.changes.IdentifierChange.{IdentifierChange}
use Rattle.rtcp_engine.proofs.Among.{among_map}
use Rattle.rtcp_engine.proofs.changes.IdentifierChanges.gave_up.Goals as goal

pub returns : goal.returns
returns c =
    any_from_yields_List (λ (change : IdentifierChange). change.former == c.args.ssrc) _ _ _ c.any.ensures.ran
    (YieldsList-from_slice c.args.self.now.list.items cc) (λ x b q k. search (rules, tests))
    ∙ among_map (λ (change : IdentifierChange). change.former) c.args.self.now.list.items c.args.ssrc
