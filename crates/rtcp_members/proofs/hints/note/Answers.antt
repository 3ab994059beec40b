-- A hint is written, and the entry of its cell stays.
use Rattle.std.proofs.Common.{refl}
use Rattle.rtcp_members.proofs.storage.Rows.{entries_same}
use Rattle.rtcp_members.proofs.hints.note.Goals as goal

pub returns-then-at-cells-clause-entries : goal.returns-then-at-cells-clause-entries
returns-then-at-cells-clause-entries c = entries_same c.args.cells.now _ c.index-cells-at.result _ refl
