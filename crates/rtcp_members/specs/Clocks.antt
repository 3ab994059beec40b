-- Traces whose RTP packets all count in units of clocks of one rate.
use Rattle.std.specs.Prelude.{ℕ, ◌≡◌, List}
use Rattle.std.specs.List.{AllByRecursion}
use Rattle.rtcp_wire.specs.declared.fact.Fact.{Fact}
use Rattle.rtcp_wire.specs.declared.fact.Fact.TheVariants.{Heard, Told, Named, Gone, Media}
use Rattle.rtcp_members.specs.Traces.{TraceStep, fact_came, check_made, block_made_of, source_forgotten}

-- An RTP packet counts in units of a clock of this rate.
abbrev pub HasRate : (rate : ℕ) → Fact → Type 0
HasRate rate (Heard ssrc) = Unit {0}
HasRate rate (Told ssrc ntp rtp) = Unit {0}
HasRate rate (Named ssrc) = Unit {0}
HasRate rate (Gone ssrc) = Unit {0}
HasRate rate (Media ssrc seq timestamp octets other) = other ≡ rate

abbrev pub IsAtRate : (rate : ℕ) → TraceStep → Type 0
IsAtRate rate (fact_came fact moment) = HasRate rate fact
IsAtRate rate (check_made horizons) = Unit {0}
IsAtRate rate (block_made_of ssrc) = Unit {0}
IsAtRate rate (source_forgotten ssrc) = Unit {0}

-- So does each of a trace.
abbrev pub HasOneClock : (rate : ℕ) → List TraceStep → Type 0
HasOneClock rate trace = AllByRecursion (IsAtRate rate) trace
