use Rattle.std.proofs.Common.{refl}
use Rattle.rtcp_parts.proofs.ItemWalks.{goes_on}
use Rattle.rtcp_parts.proofs.items.chunk_after.Goals as goal

pub returns : goal.returns
returns c =
    goes_on c.args.datagram.now c.args.cursor.now _ c.opened.result c.requires.within c.requires.others refl refl refl
    refl c.opened.ensures
