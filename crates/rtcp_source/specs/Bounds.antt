-- Bounds of the numbers that are kept of a source, so that each fits its type.
use Rattle.std.specs.Prelude.{ℕ, ◌+◌, ◌*◌, ◌^◌, ◌≤◌, Option, Some, None}
use Rattle.rtcp_source.specs.Summary.{RunValue}

-- A counted packet is at most 2999 above the greatest one, so no more than 3000 ordinals come to be
-- expected with it.
pub record IsRunBounded (packets : ℕ) (run : RunValue) : Type 0 where
  pub first_low : 65536 ≤ run.first
  pub first_high : run.first ≤ 131071
  pub ordered : run.first ≤ run.greatest
  pub received : run.received ≤ packets
  pub counted : 1 ≤ run.received
  pub before : run.received_before ≤ run.received
  pub expected_before : run.first + run.expected_before ≤ run.greatest + 1
  pub interval : run.greatest + 1 + 3000 * run.received_before
      ≤ run.first + run.expected_before + 3000 * run.received
  pub reach : run.greatest ≤ 131071 + 3000 * run.received
  pub jitter : run.jitter ≤ 2 ^ 35 + 7

abbrev pub IsBounded : (packets : ℕ) → Option RunValue → Type 0
IsBounded packets None = packets ≤ 2 ^ 40
IsBounded packets (Some run) = (packets ≤ 2 ^ 40) × IsRunBounded packets run
