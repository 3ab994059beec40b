-- A hint is written, and the claim of its cell stays.
use Rattle.std.proofs.Common.{refl}
use Rattle.rtcp_guard.specs.Tables.{no_cell}
use Rattle.rtcp_guard.proofs.Rows.{claims_same}
use Rattle.rtcp_guard.proofs.cells.note.Goals as goal

pub returns-then-at-cells : goal.returns-then-at-cells
returns-then-at-cells c = claims_same c.args.cells.now c.place_of-at.result no_cell _ refl
