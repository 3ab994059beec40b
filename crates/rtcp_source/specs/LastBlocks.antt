-- What the last report block of a source said: the fraction lost, and the extended highest sequence number
-- (RFC 3550, 6.4.1, A.3).
use Rattle.std.specs.Prelude.{ℕ, List, [], ◌∷◌, Option, Some, None}
use Rattle.rtcp_source.specs.Packets.{Given, block_made, CountedPacket, PacketRun, greatest_ordinal, run_of}
use Rattle.rtcp_source.specs.Fields.{fraction_since, highest_of}
pub use Rattle.rtcp_source.specs.Fields.{fraction_of}

pub record LastBlockValue : Type 0 where
  -- the fraction lost, in 1/256
  pub fraction : ℕ
  -- the extended highest sequence number
  pub highest : ℕ

-- What a block says that is made of these packets. There is no block where no packet was counted.
abbrev pub said_of : (counted reported : List CountedPacket) → Option LastBlockValue
said_of [] reported = None
said_of (p ∷ earlier) reported =
    Some (record {
      fraction = fraction_since (p ∷ earlier) reported;
      highest = highest_of (greatest_ordinal (p ∷ earlier));
    })

-- What the last block said, over restarts too.
abbrev pub last_block : List Given → Option LastBlockValue
last_block [] = None
last_block (block_made ∷ given) = let run : PacketRun = run_of given in said_of run.counted run.reported
last_block (_ ∷ given) = last_block given
