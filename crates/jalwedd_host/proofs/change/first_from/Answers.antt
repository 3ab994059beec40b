-- What is found is the first change from the number on.
use Rattle.std.proofs.Common.{rules, sym, ◌∙◌, nat_le}
use borrow.Author.Tests.{tests}
use Rattle.std.proofs.lemmas.Iterator.Search.{find_from_yields_List}
use Rattle.std.proofs.lemmas.Iterator.Consumers.{YieldsList-from_first}
use Rattle.rtcp_listing.specs.declared.change.Change.{Change}
use Rattle.std.proofs.lemmas.Iterator.Adapters.{option_map_id}
use Rattle.jalwedd_host.proofs.change.first_from.Goals as goal

pub returns : goal.returns
returns c =
    sym (option_map_id c.find.result)
    ∙ find_from_yields_List (λ (change : Change). nat_le c.args.from change.ssrc) _ _ c.find.result c.find.ensures.ran
    (YieldsList-from_first (λ (change : Change). change) (λ changes. changes) _ c.of.ensures)
    (λ x b q k. search (rules, tests))
