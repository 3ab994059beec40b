-- The deterministic interval (RFC 3550, 6.3.1), in microseconds. The average size of compounds (6.3.3) is in 1/256
-- octet, and the bandwidth in octets a second. Lists of sizes are newest first.
use Rattle.std.specs.Prelude.{ℕ, ◌+◌, ◌-◌, ◌*◌, ◌≤◌, Bool, nat_lt, nat_le, max, if◌then◌else◌, List, ◌/◌, [], ◌∷◌}
use Rattle.std.specs.Int.{div_ceil}
use Rattle.rtcp_timer.specs.declared.load.Load.{Load}

-- the size of a compound with its UDP and IPv4 headers (6.2)
abbrev pub with_headers : (size : ℕ) → ℕ
with_headers size = size + 28

-- The average over a first compound and those since: each weighs 1/16, and the average before it 15/16.
abbrev pub average_of : (first : ℕ) (sizes : List ℕ) → ℕ
average_of first [] = 256 * with_headers first
average_of first (size ∷ sizes) = (256 * with_headers size + 15 * average_of first sizes) / 16

-- the interval in which a bandwidth carries one compound of average size from each of so many
abbrev pub interval_for : (count bandwidth : ℕ) → Load → ℕ
interval_for count bandwidth load = div_ceil (1000000 * count * load.avg) (256 * bandwidth)

-- the minimum, which is half as long before the first report (6.2)
abbrev pub minimum_of : (initial : Bool) → ℕ
minimum_of initial = if initial then 2500000 else 5000000

-- Where senders are more of the members than their part is of the bandwidth, all members share all of it. Elsewhere
-- senders share that part, and the others the other one.
abbrev pub interval_of : Load → ℕ
interval_of load =
    let bandwidth : ℕ = load.sender_bw + load.receiver_bw in
    max (minimum_of load.initial)
    (if nat_lt (load.members * load.sender_bw) (load.senders * bandwidth) then interval_for load.members bandwidth load
    else if load.we_sent then interval_for load.senders load.sender_bw load
    else interval_for (load.members - load.senders) load.receiver_bw load)

-- ---- Who shares

-- those who share a part of the bandwidth with the participant, which is one of them
pub data Sharers : Type 0 where
  the_senders : Sharers
  the_others : Sharers
  everyone : Sharers

abbrev pub sharers_of : Load → Sharers
sharers_of load =
    if nat_le (load.senders * (load.sender_bw + load.receiver_bw)) (load.members * load.sender_bw)
    then (if load.we_sent then the_senders else the_others)
    else everyone

-- how many they are
abbrev pub count_of : Sharers → Load → ℕ
count_of the_senders load = load.senders
count_of the_others load = load.members - load.senders
count_of everyone load = load.members

-- the bandwidth that they share
abbrev pub bandwidth_of : Sharers → Load → ℕ
bandwidth_of the_senders load = load.sender_bw
bandwidth_of the_others load = load.receiver_bw
bandwidth_of everyone load = load.sender_bw + load.receiver_bw

-- the interval of the sharers and their part of the bandwidth
abbrev pub interval_at_share : Sharers → Load → ℕ
interval_at_share sharers load = interval_for (count_of sharers load) (bandwidth_of sharers load) load

-- One compound of average size from each of the sharers in each interval uses at most their part of the
-- bandwidth: the octets of these compounds over the seconds of the interval are at most the octets a second
-- of that part.
abbrev pub KeepsToShare : Load → (interval : ℕ) → Type 0
KeepsToShare load interval =
    let sharers = sharers_of load in
    1000000 * count_of sharers load * load.avg ≤ interval * (256 * bandwidth_of sharers load)
