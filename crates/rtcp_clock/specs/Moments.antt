-- Moments as RTCP carries them. A moment is in microseconds since the session began.
use Rattle.std.specs.Prelude.{ℕ, ◌+◌, ◌-◌, ◌*◌, ◌/◌, ◌%◌, ◌^◌, min}

-- The NTP timestamp of a moment, in a session that began at the NTP timestamp `base` (RFC 3550, section 4).
abbrev pub ntp_moment : (base t : ℕ) → ℕ
ntp_moment base t = (base + t * 2 ^ 32 / 1000000) % 2 ^ 64

-- The units by which the media clock advances in a time (5.1).
abbrev pub media_units : (t rate : ℕ) → ℕ
media_units t rate = (t * rate / 1000000) % 2 ^ 32

-- A time in 1/65,536 of a second, capped at the greatest number of 32 bits (6.4.1, DLSR).
abbrev pub short_seconds : (us : ℕ) → ℕ
short_seconds us = min (us * 65536 / 1000000) (2 ^ 32 - 1)

-- The round-trip time by a report block (6.4.1): `a - lsr - dlsr`, modulo 2^32, of numbers below 2^32.
abbrev pub time_of_trip : (a lsr dlsr : ℕ) → ℕ
time_of_trip a lsr dlsr = (a + (2 ^ 32 - lsr) + (2 ^ 32 - dlsr)) % 2 ^ 32
