-- The source of least SSRC is taken from both listings.
use Rattle.std.proofs.Common.{map}
use Rattle.rtcp_listing.proofs.Differing.{first_taken}
use Rattle.rtcp_listing.proofs.changes.compare_first.Goals as goal

pub returns : goal.returns
returns g c =
    first_taken c.in_ok-ssrc.ssrc (map g.S.Listed.listed c.args.before.now) (map g.S.Listed.listed c.args.after.now)
    c.requires.before_rises c.requires.after_rises c.in_ok-ssrc.ensures
    c.take_first-old.result.role c.take_first-new.result.role c.take_first-new.result.has_left
    (map g.S.Listed.listed c.take_first-old.result.rest.now)
    (map g.S.Listed.listed c.take_first-new.result.rest.now)
    c.take_first-old.ensures.role c.take_first-new.ensures.role c.take_first-new.ensures.left
    c.take_first-old.ensures.rest c.take_first-new.ensures.rest
