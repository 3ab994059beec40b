-- What is kept of each source beside its table.
use Rattle.std.specs.Prelude.{ℕ, Option}
use Rattle.std.specs.BTreeMap as stored
use Rattle.std.specs.Ordering.{nat_cmp}
use Rattle.rtcp_show.specs.declared.by_source.BySource.{BySource}

abbrev pub kept_of : {V : Type 0} → BySource V → (ssrc : ℕ) → Option V
kept_of kept ssrc = stored.get nat_cmp kept.by_ssrc ssrc
