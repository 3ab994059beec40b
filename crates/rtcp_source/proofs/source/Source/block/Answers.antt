-- The block that the numbers give is that of the list.
use Rattle.std.proofs.Common.{rules}
use Rattle.rtcp_source.proofs.Summing.{block_of_list}
use Rattle.rtcp_source.proofs.source.Source.block.Goals as goal

pub returns-clause-block : goal.returns-clause-block
returns-clause-block c = search rules

pub returns-clause-of_list : goal.returns-clause-of_list
returns-clause-of_list c = block_of_list c.args.self.now c.args.ssrc c.args.t _ (returns-clause-block c)
