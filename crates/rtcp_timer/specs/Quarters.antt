-- The deterministic interval where the RTCP bandwidth is shared by quarters, as RFC 3550 has it (6.3.1).
use Rattle.std.specs.Prelude.{ℕ, ◌-◌, ◌*◌, nat_le, max, if◌then◌else◌}
use Rattle.std.specs.Int.{div_ceil}
use Rattle.rtcp_timer.specs.declared.load.Load.{Load}
use Rattle.rtcp_timer.specs.Loads.{minimum_of}

-- the interval in which so many quarters of the bandwidth carry one compound of average size from so many members
abbrev pub interval_at_quarters : (quarters count bandwidth : ℕ) → Load → ℕ
interval_at_quarters quarters count bandwidth load =
    div_ceil (4 * 1000000 * count * load.avg) (quarters * 256 * bandwidth)

-- A quarter is for senders, as long as they are at most a quarter of the members, and three quarters are for the
-- others.
abbrev pub quarterly_interval : (bandwidth : ℕ) → Load → ℕ
quarterly_interval bandwidth load =
    max (minimum_of load.initial)
    (if nat_le (4 * load.senders) load.members
    then (if load.we_sent
    then interval_at_quarters 1 load.senders bandwidth load
    else interval_at_quarters 3 (load.members - load.senders) bandwidth load)
    else interval_at_quarters 4 load.members bandwidth load)
