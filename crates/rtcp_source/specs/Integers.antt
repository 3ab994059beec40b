-- The integers that sequence numbers stand for, which may be negative (RFC 3550, A.1): what an ordinal is.
use Rattle.std.specs.Prelude.{◌≡◌, true, ℕ, ◌+◌, ◌-◌, ℤ, pos, negsuc, ◌+ℤ◌, ◌-ℤ◌, ◌<ℤ◌}
use Rattle.std.specs.Int.{int_rem_euclid}
use Rattle.rtcp_source.specs.Packets.{PacketRun, greatest_ordinal, is_near, ordinal_near}

-- An integer of a number is near the greatest one: it is congruent to the number modulo 65536, and lies
-- between the greatest less 100 and the greatest plus 3000, both excluded.
pub record IsIntegerNear (greatest : ℤ) (seq : ℕ) (integer : ℤ) : Type 0 where
  pub congruent : int_rem_euclid integer (pos 65536) ≡ pos seq
  pub above : (greatest -ℤ pos 100) <ℤ integer
  pub below : integer <ℤ (greatest +ℤ pos 3000)

-- A number has an integer near the greatest one.
abbrev pub HasIntegerNear : (greatest : ℤ) (seq : ℕ) → Type 0
HasIntegerNear greatest seq = (integer : ℤ) × IsIntegerNear greatest seq integer

-- The ordinal of an integer from -65536 on is 65536 above it.
abbrev pub ordinal_of : ℤ → ℕ
ordinal_of (pos n) = n + 65536
ordinal_of (negsuc n) = 65535 - n

-- the greatest integer of a run
abbrev pub greatest_integer : PacketRun → ℤ
greatest_integer run = pos (greatest_ordinal run.counted) -ℤ pos 65536

-- A number is near the greatest ordinal, and has this ordinal there.
abbrev pub HasOrdinalNear : (greatest seq ordinal : ℕ) → Type 0
HasOrdinalNear greatest seq ordinal = (is_near greatest seq ≡ true) × (ordinal_near greatest seq ≡ ordinal)

-- An ordinal is that of an integer of the number near the greatest one.
abbrev pub IsOrdinalOfInteger : (greatest : ℤ) (seq ordinal : ℕ) → Type 0
IsOrdinalOfInteger greatest seq ordinal =
    (integer : ℤ) × IsIntegerNear greatest seq integer × (ordinal ≡ ordinal_of integer)
