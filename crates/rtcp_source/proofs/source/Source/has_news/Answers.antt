-- By the numbers, there is news exactly where a packet was counted since the last block.
use Rattle.std.proofs.Common.{rules}
use Rattle.rtcp_source.proofs.News.{since_block}
use Rattle.rtcp_source.proofs.source.Source.has_news.Goals as goal

pub returns-clause-since_block : goal.returns-clause-since_block
returns-clause-since_block c = since_block c.args.self.now _ (search rules)
