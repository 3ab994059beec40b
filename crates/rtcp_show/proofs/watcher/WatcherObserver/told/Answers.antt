use Rattle.rtcp_show.proofs.WatchLemmas.{at_ok}
use Rattle.rtcp_show.proofs.watcher.WatcherObserver.told.Goals as goal

pub returns-clause-watches : goal.returns-clause-watches
returns-clause-watches g c = λ history stands none.
    at_ok c.print-shown.result (c.first_fault-self.ensures.whole none) (c.print-shown.ensures.watches history stands)
