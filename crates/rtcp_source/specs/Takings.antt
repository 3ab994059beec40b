-- What a packet is to a source, in the words of its calls (RFC 3550, appendix A.1), and how it enters a run.
use Rattle.std.specs.Prelude.{ℕ, ◌+◌, ◌-◌, ◌%◌, ◌^◌, ◌||◌, ◌≤◌, Bool, true, false, if◌then◌else◌, List, [], ◌∷◌, length, Option, Some, None}
use Rattle.rtcp_source.specs.declared.taken.Taken.{Taken}
use Rattle.rtcp_source.specs.declared.taken.Taken.TheVariants.{Probation, Counted, Became, Restarted, Bad}
use Rattle.rtcp_source.specs.Packets.{Given, packet_came, report_came, block_made, CountedPacket, PacketRun, is_near, greatest_ordinal, follows, is_counted_in, run_of}

-- What a packet is, by the greatest ordinal of the run, or none before the first run, and by the last stray.
abbrev pub taken_as : (greatest stray : Option ℕ) (seq : ℕ) → Taken
taken_as None stray seq = if follows stray seq then Became else Probation
taken_as (Some greatest) stray seq =
    if is_near greatest seq then Counted else (if follows stray seq then Restarted else Bad)

abbrev pub greatest_of : List CountedPacket → Option ℕ
greatest_of [] = None
greatest_of (p ∷ earlier) = Some (greatest_ordinal (p ∷ earlier))

-- What a packet of this number is to a run.
abbrev pub taken_in : PacketRun → (seq : ℕ) → Taken
taken_in run seq = taken_as (greatest_of run.counted) run.stray seq

abbrev pub is_counted : Taken → Bool
is_counted Probation = false
is_counted Bad = false
is_counted _ = true

abbrev pub packet_at : (ordinal transit octets rate : ℕ) → CountedPacket
packet_at ordinal transit octets rate =
    record { ordinal = ordinal; transit = transit; octets = octets; rate = rate }

-- Some packet is counted in a run.
abbrev pub HasCounted : PacketRun → Type 0
HasCounted run = 1 ≤ length run.counted

-- A run with one counted packet more.
abbrev pub with_counted : CountedPacket → PacketRun → PacketRun
with_counted packet run = record run { counted = packet ∷ run.counted }

-- arrival less timestamp, modulo 2^32
abbrev pub transit_of : (timestamp arrival : ℕ) → ℕ
transit_of timestamp arrival = (arrival + 2 ^ 32 - timestamp) % 2 ^ 32

-- Some packet was counted since the last block, or at all if no block was made.
abbrev pub counted_since_block : List Given → Bool
counted_since_block [] = false
counted_since_block (packet_came seq timestamp arrival octets rate ∷ given) =
    is_counted_in (run_of given) seq || counted_since_block given
counted_since_block (report_came ntp rtp moment ∷ given) = counted_since_block given
counted_since_block (block_made ∷ given) = false
