use Rattle.rtcp_show.specs.ShortRows.{short_facts_text}
use Rattle.rtcp_show.proofs.CutLemmas.{cut_fits}
use Rattle.rtcp_show.proofs.laws.short_rows_fit.Goals as goal

pub returns : goal.returns
returns c = λ state note flow. cut_fits (short_facts_text state note flow)
