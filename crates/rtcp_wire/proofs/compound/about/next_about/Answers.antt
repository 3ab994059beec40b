use Rattle.std.proofs.Common.{rules, ◌==◌}
use borrow.Author.Tests.{tests}
use Rattle.rtcp_wire.specs.Views.{block_value}
use Rattle.rtcp_wire.proofs.AboutLists.{passing_from_find}
use Rattle.rtcp_wire.proofs.compound.about.next_about.Goals as goal

pub returns : goal.returns
returns c = passing_from_find block_value (λ blocks. blocks) (λ block. block.ssrc == c.args.ssrc)
    (λ x b q k. search (rules, tests)) _ _ _ c.find.ensures.ran
