use Rattle.std.proofs.Common.{add-one}
use Rattle.rtcp_text.proofs.FieldLemmas.{parts_at-split, parts_at-whole}
use Rattle.rtcp_text.proofs.parts.split_part.Goals as goal

pub returns-in-Some : goal.returns-in-Some
returns-in-Some g c =
    let first = c.in-Some.ensures in
    let cut = parts_at-split g.row.SEPARATOR c.args.octets.now c.in-Some.end first.within first.found first.before in
    rw (c.split_at.ensures.front, c.split_at-in-Some.ensures.back, add-one) cut

pub returns-in-None : goal.returns-in-None
returns-in-None g c = parts_at-whole g.row.SEPARATOR c.args.octets.now c.in-None.ensures.none
