use Rattle.std.proofs.Common.{rules}
use Rattle.std.proofs.lemmas.Iterator.Consumers.{YieldsList-from_first}
use Rattle.std.proofs.lemmas.Iterator.Search.{any_from_yields_List}
use borrow.Author.Tests.{tests}
use Rattle.rtcp_wire.specs.Facts.{is_cname}
use Rattle.rtcp_wire.specs.WriterViews.{item_ref_of}
use Rattle.rtcp_wire.proofs.sdes.chunks.Chunk.has_cname.Goals as goal

pub returns : goal.returns
returns c = any_from_yields_List is_cname _ _ _ c.any.ensures.ran
    (YieldsList-from_first item_ref_of (λ items. items) _ c.items.ensures) (λ x b q k. search (rules, tests))
