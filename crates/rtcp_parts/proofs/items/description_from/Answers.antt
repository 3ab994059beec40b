use Rattle.std.proofs.Common.{refl}
use Rattle.rtcp_parts.proofs.ItemWalks.{enters_end, enters_packet}
use Rattle.rtcp_parts.proofs.items.description_from.Goals as goal

pub returns-in-Some : goal.returns-in-Some
returns-in-Some c =
    enters_packet c.args.datagram.now c.args.from c.in-Some.packet _ c.opened.result c.in-Some.ensures.placed.0
    c.in-Some.ensures.placed.1 c.in-Some.ensures.next refl refl refl c.from.ensures c.opened.ensures

pub returns-in-None : goal.returns-in-None
returns-in-None c = enters_end c.args.datagram.now c.args.from c.ended.result c.ended.ensures c.in-None.ensures.next
