-- The fields of the header's word of an RTCP packet (RFC 3550, 6.4.1), and what it frames, for the grammar and for the
-- contracts between the tests: version 2, padding bit, count; type; length in words less one.
use Rattle.std.specs.Prelude.{ℕ, ◌-◌, ◌/◌, ◌%◌, ◌==◌, Bool, if◌then◌else◌, List, take, drop, slice_index}
use Rattle.rtcp_wire.specs.Readings.{size_of}

abbrev pub version_of : List ℕ → ℕ
version_of octets = slice_index octets 0 / 64

abbrev pub is_padded : List ℕ → Bool
is_padded octets = slice_index octets 0 / 32 % 2 == 1

abbrev pub count_of : List ℕ → ℕ
count_of octets = slice_index octets 0 % 32

abbrev pub type_of : List ℕ → ℕ
type_of octets = slice_index octets 1

-- Where the padding bit is set, the packet's last octet is the number of padding octets, itself included.
abbrev pub padding_of : List ℕ → ℕ
padding_of octets = if is_padded octets then slice_index octets (size_of octets - 1) else 0

-- what stands between the header and the padding
abbrev pub body_of : List ℕ → List ℕ
body_of octets = take (size_of octets - 4 - padding_of octets) (drop 4 octets)
