-- Each part is kept, where both are.
use Rattle.rtcp_show.proofs.WatchLemmas.{first_ok, second_ok}
use Rattle.rtcp_show.proofs.board.Board.note.Goals as goal

pub returns-clause-noted : goal.returns-clause-noted
returns-clause-noted g c = λ history stands. rw c.and.ensures
    (first_ok _ c.note_compound-noted.result c.note_peers-flowing.result (c.note_compound-noted.ensures history stands))

pub returns-clause-flowing : goal.returns-clause-flowing
returns-clause-flowing g c = λ history media stands is. rw c.and.ensures
    (second_ok _ c.note_compound-noted.result c.note_peers-flowing.result
    (c.note_peers-flowing.ensures history media stands is))
