use Rattle.rtcp_print.proofs.PageLemmas.{adds}
use Rattle.rtcp_print.proofs.page.Page.push.Goals as goal

pub returns-clause-adds : goal.returns-clause-adds
returns-clause-adds c = record {
  goes_on = λ text room fits was.
      rw c.copy_from_slice.ensures.after
      (adds text c.args.piece.now room c.args.self.now.room.now c.args.self.now.count _ _ _ fits was c.min-start.ensures
      c.min-taken.ensures c.saturating_add-self.ensures);
}
