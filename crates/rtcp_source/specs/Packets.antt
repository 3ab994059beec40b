-- The packets of one source: which are counted, and with which integers (RFC 3550, appendix A.1).
-- Lists of what happened are kept newest first.
use Rattle.std.specs.Prelude.{ℕ, ◌+◌, ◌-◌, ◌%◌, ◌^◌, ◌||◌, ◌==◌, Bool, false, nat_lt, if◌then◌else◌, List, [], ◌∷◌, length, max, Option, Some, None}

-- What a source was given.
pub data Given : Type 0 where
  -- an RTP packet: its sequence number, its timestamp, its arrival in units of the clock of its payload type, how many
  -- octets of payload it has, and how many units a second that clock has (5.1)
  packet_came : (seq timestamp arrival octets rate : ℕ) → Given
  -- a sender report: its NTP timestamp, its RTP timestamp, and the moment at which it came (6.4.1)
  report_came : (ntp rtp moment : ℕ) → Given
  -- a report block was made of the source (6.4.1)
  block_made : Given

-- A counted packet. Its ordinal is 65536 above its integer, which may be negative. Its transit is its arrival less its
-- timestamp, modulo 2^32, in units of a clock of its rate (6.4.1, A.8). Its octets are those of its payload.
pub record CountedPacket : Type 0 where
  pub ordinal : ℕ
  pub transit : ℕ
  pub octets : ℕ
  pub rate : ℕ

-- The last run of packets: those counted in it, the number of the last stray since it started, and those that had been
-- counted in it when a block was last made. Before the first run no packet is counted, and each one is a stray.
pub record PacketRun : Type 0 where
  pub counted : List CountedPacket
  pub stray : Option ℕ
  pub reported : List CountedPacket

-- ---- Ordinals

-- How far a number is ahead of an ordinal, modulo 65536.
abbrev pub ahead : (greatest seq : ℕ) → ℕ
ahead greatest seq = (seq + 65536 - greatest % 65536) % 65536

-- Whether a number has an ordinal from 99 below the greatest one to 2999 above it.
abbrev pub is_near : (greatest seq : ℕ) → Bool
is_near greatest seq = nat_lt (ahead greatest seq) 3000 || nat_lt 65436 (ahead greatest seq)

-- That ordinal.
abbrev pub ordinal_near : (greatest seq : ℕ) → ℕ
ordinal_near greatest seq =
    if nat_lt (ahead greatest seq) 3000 then greatest + ahead greatest seq else greatest + ahead greatest seq - 65536

abbrev pub greatest_ordinal : List CountedPacket → ℕ
greatest_ordinal [] = 0
greatest_ordinal (p ∷ earlier) = max p.ordinal (greatest_ordinal earlier)

abbrev pub first_ordinal : List CountedPacket → ℕ
first_ordinal [] = 0
first_ordinal (p ∷ []) = p.ordinal
first_ordinal (p ∷ q ∷ earlier) = first_ordinal (q ∷ earlier)

-- ---- Runs

-- Whether a number is near the greatest ordinal of a run. Before the first run none is.
abbrev pub is_near_run : (counted : List CountedPacket) (seq : ℕ) → Bool
is_near_run [] seq = false
is_near_run counted seq = is_near (greatest_ordinal counted) seq

-- Whether a number is the successor of the last stray's.
abbrev pub follows : (stray : Option ℕ) (seq : ℕ) → Bool
follows None seq = false
follows (Some last) seq = seq == (last + 1) % 65536

-- Whether a packet of this number is counted: in the run, or as the first of a new one.
abbrev pub is_counted_in : PacketRun → (seq : ℕ) → Bool
is_counted_in run seq = is_near_run run.counted seq || follows run.stray seq

-- The run after one packet more. One near the greatest ordinal is counted. Any other one starts a run if its number is
-- the successor of the last stray's, and is a stray if not. Before the first run this is probation, which each packet
-- whose number is no successor begins anew. A run forgets earlier strays: only those after it can lead to another one.
abbrev pub run_with : (seq transit octets rate : ℕ) → PacketRun → PacketRun
run_with seq transit octets rate run =
    let first : CountedPacket = record { ordinal = seq + 65536; transit = transit; octets = octets; rate = rate } in
    let ordinal : ℕ = ordinal_near (greatest_ordinal run.counted) seq in
    if is_near_run run.counted seq then record run { counted = record first { ordinal = ordinal } ∷ run.counted }
    else if follows run.stray seq then record { counted = first ∷ []; stray = None; reported = [] }
    else record run { stray = Some seq }

-- The last run of what was given.
abbrev pub run_of : List Given → PacketRun
run_of [] = record { counted = []; stray = None; reported = [] }
run_of (packet_came seq timestamp arrival octets rate ∷ given) =
    run_with seq ((arrival + 2 ^ 32 - timestamp) % 2 ^ 32) octets rate (run_of given)
run_of (report_came ntp rtp moment ∷ given) = run_of given
run_of (block_made ∷ given) = let run : PacketRun = run_of given in record run { reported = run.counted }

-- A source has news where some packet was counted since its last block, or at all if no block was made: more packets
-- were counted in its last run than when a block was last made of it.
abbrev pub has_news_since : List Given → Bool
has_news_since given = let run : PacketRun = run_of given in nat_lt (length run.reported) (length run.counted)
