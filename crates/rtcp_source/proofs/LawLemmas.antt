-- The laws, as lemmas that the proofs of other crates can cite.
use Rattle.std.proofs.Common.{◌≡◌, ℕ, ◌+◌, ◌-◌, ◌%◌, ◌^◌, ◌<◌, unsigned_abs, List, ap, ◌∙◌, rules}
use Rattle.std.specs.Int.{cast_signed, w32}
use Rattle.rtcp_source.specs.Packets.{Given, is_counted_in, run_of, PacketRun}
use Rattle.rtcp_source.specs.Takings.{taken_in, is_counted}
use Rattle.rtcp_source.specs.Summary.{summary_of}
use Rattle.rtcp_source.specs.ReportBlocks.{transit_distance}
use Rattle.rtcp_source.specs.Receptions.{reception_in, reception_over}
use Rattle.rtcp_source.specs.Steps.{taken_by}
use Rattle.rtcp_source.proofs.Takings.{same_counted}
use Rattle.rtcp_source.proofs.Summing.{same_taken, same_reception}
pub use Rattle.rtcp_source.proofs.News.{news_is_counted as news_is_that_of_packets}
pub use Rattle.rtcp_source.proofs.Summing.{same_block as summary_suffices-block}
pub use Rattle.rtcp_source.proofs.News.{news_of_summary as summary_suffices-news}
pub use Rattle.std.proofs.Common.{refl as summary_moves-none}
pub use Rattle.rtcp_source.proofs.Stepping.{packet_moves as summary_moves-packet, block_moves as summary_moves-block}
pub use Rattle.rtcp_source.proofs.Integers.{greatest_high as counted_by_integer-greatest}
pub use Rattle.rtcp_source.proofs.Integers.{counted_exactly as counted_by_integer-counted}
pub use Rattle.rtcp_source.proofs.Integers.{enters_run as counted_by_integer-enters}
pub use Rattle.rtcp_source.proofs.Integers.{same_integer as counted_by_integer-one, has_ordinal as integer_is_found}
pub use Rattle.rtcp_source.proofs.Rates.{jitter_since_change as jitter_is_of_one_rate-newest}
pub use Rattle.rtcp_source.proofs.Rates.{jitter_of_one_rate as jitter_is_of_one_rate-alone}

-- ---- What is kept of a source

pub summary_suffices-taken : (given : List Given) (seq : ℕ) →
    taken_by (summary_of given) seq ≡ taken_in (run_of given) seq
summary_suffices-taken given seq = let run : PacketRun = run_of given in
    same_taken run.counted run.reported run.stray seq

pub summary_suffices-counted : (given : List Given) (seq : ℕ) →
    is_counted (taken_by (summary_of given) seq) ≡ is_counted_in (run_of given) seq
summary_suffices-counted given seq = ap is_counted (summary_suffices-taken given seq) ∙ same_counted (run_of given) seq

pub summary_suffices-reception : (given : List Given) → reception_in (summary_of given) ≡ reception_over given
summary_suffices-reception given = let run : PacketRun = run_of given in same_reception run.counted run.reported

-- ---- Transits

pub distance_is_signed : (transit before : ℕ) → transit < 2 ^ 32 → before < 2 ^ 32 →
    transit_distance transit before ≡ unsigned_abs (cast_signed w32 ((transit + 2 ^ 32 - before) % 2 ^ 32))
distance_is_signed transit before high low = search rules
