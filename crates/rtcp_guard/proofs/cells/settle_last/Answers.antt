-- The last of the part that is turned comes to its front.
use Rattle.std.proofs.Common.{◌-◌, refl, length, ap, ◌∙◌}
use Rattle.rtcp_guard.specs.Tables.{claims_in}
use Rattle.rtcp_guard.proofs.Rows.{last_moved}
use Rattle.rtcp_guard.proofs.cells.settle_last.Goals as goal

pub returns : goal.returns
returns c = λ others last within all. c.note.ensures
    ∙ ap claims_in (last_moved c.args.cells.now others last c.args.rank (length c.args.cells.now - c.args.rank)
    c.rotate_right.new.self all within refl c.rotate_right.ensures.after)
