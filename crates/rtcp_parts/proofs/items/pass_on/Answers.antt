use Rattle.std.proofs.Common.{sym, subst, arith}
use Rattle.std.proofs.lemmas.Bool.Decides.{nat_tests}
use Rattle.rtcp_wire.specs.Contents.{packet_items}
use Rattle.rtcp_parts.specs.Cursors.{LeavesItems}
use Rattle.rtcp_parts.specs.Walks.{Enters, GoesOn, HasNoItem}
use Rattle.rtcp_parts.proofs.ItemWalks.{passes_on_here, passes_on_later}
use Rattle.rtcp_parts.proofs.items.pass_on.Goals.{then-cursor-gt1, else-cursor-gt1}
use Rattle.rtcp_parts.proofs.items.pass_on.Goals as goal

pub returns : goal.returns
returns c = elim c.if-cursor-gt1.branch [
  | then-cursor-gt1 w ↦
      passes_on_here c.args.datagram.now c.args.cursor.now c.if-cursor-gt1.cursor _ c.requires
      (λ some. grind (arith, nat_tests)) (λ none. grind (arith, nat_tests)) w.if-cursor-gt1.true
      (subst (GoesOn packet_items LeavesItems HasNoItem c.args.datagram.now c.args.cursor.now) (sym w.cursor-is)
      w.chunk_after.ensures)
  | else-cursor-gt1 w ↦
      passes_on_later c.args.datagram.now c.args.cursor.now c.if-cursor-gt1.cursor _ c.requires
      (λ some. grind (arith, nat_tests)) (λ none. grind (arith, nat_tests)) w.if-cursor-gt1.false
      (subst (Enters packet_items LeavesItems c.args.datagram.now c.args.cursor.now.next) (sym w.cursor-is)
      w.description_from.ensures)
]
