-- What the tests of a datagram see of its sources, against one source: whether the packets keep to it, and that they
-- give
-- a CNAME where a chunk begins with one. For the contracts between the tests, over what a walk reads.
use Rattle.std.specs.Prelude.{◌≡◌, ℕ, ◌==◌, ◌&&◌, ◌||◌, Bool, true, false, List, [], ◌∷◌, Option, Some, None, length, drop}
use Rattle.std.specs.List.{list_all, list_any}
use Rattle.byteorder.specs.Endian.{big_number}
use Rattle.rtcp_wire.specs.declared.validity.summary.Summary.{Summary}
use Rattle.rtcp_wire.specs.Facts.{is_cname}
use Rattle.rtcp_wire.specs.Values.{ChunkValue, RtcpPacket, sr, rr, sdes, bye, app, other}

-- ---- Packets

-- whether an item of a chunk is a CNAME
abbrev pub gives_name : ChunkValue → Bool
gives_name chunk = list_any is_cname chunk.items

-- A packet keeps to a source: it says of this one alone that it is there, of none that it left, and tells of its clock
-- only as the first of its compound.
abbrev pub keeps_to : (ssrc : ℕ) → (is_first : Bool) → RtcpPacket → Bool
keeps_to ssrc is_first (sr sender blocks extension) = is_first && (sender.ssrc == ssrc)
keeps_to ssrc is_first (rr own blocks extension) = own == ssrc
keeps_to ssrc is_first (sdes chunks) = list_all (λ chunk. chunk.id == ssrc) chunks
keeps_to ssrc is_first (bye ids reason) = length ids == 0
keeps_to ssrc is_first (app subtype own name content) = own == ssrc
keeps_to ssrc is_first (other kind count body) = true

-- whether a packet gives a CNAME
abbrev pub names : RtcpPacket → Bool
names (sr sender blocks extension) = false
names (rr own blocks extension) = false
names (sdes chunks) = list_any gives_name chunks
names (bye ids reason) = false
names (app subtype own name content) = false
names (other kind count body) = false

-- Packets keep to a source, each of them. The first may be that of a compound.
abbrev pub all_keep_to : (ssrc : ℕ) → (is_first : Bool) → List RtcpPacket → Bool
all_keep_to ssrc is_first [] = true
all_keep_to ssrc is_first (packet ∷ packets) = keeps_to ssrc is_first packet && all_keep_to ssrc false packets

-- the identifier after the header of a datagram's first packet
abbrev pub sender_of : List ℕ → ℕ
sender_of octets = big_number 4 (drop 4 octets)

-- what the sender of the first packet told of its clock
abbrev pub clock_of : List RtcpPacket → Option (ℕ × ℕ)
clock_of (sr sender blocks extension ∷ packets) = Some (sender.ntp, sender.rtp)
clock_of _ = None

-- ---- Summaries

-- a summary of no packets
pub record IsNone (summary : Summary) : Type 0 where
  pub sole : summary.is_sole ≡ true
  pub named : summary.is_named ≡ false

-- A part was taken into a summary: whether it keeps to the source, and whether it gives a CNAME.
pub record Adds (old new : Summary) (keeps gives : Bool) : Type 0 where
  pub sole : new.is_sole ≡ (old.is_sole && keeps)
  pub named : new.is_named ≡ true → (old.is_named || gives) ≡ true

abbrev pub AddsChunk : (ssrc : ℕ) → (old new : Summary) → ChunkValue → Type 0
AddsChunk ssrc old new chunk = Adds old new (chunk.id == ssrc) (gives_name chunk)

abbrev pub AddsPacket : (ssrc : ℕ) → (is_first : Bool) → (old new : Summary) → RtcpPacket → Type 0
AddsPacket ssrc is_first old new packet = Adds old new (keeps_to ssrc is_first packet) (names packet)

-- a summary of packets
pub record SumsUp (ssrc : ℕ) (is_first : Bool) (summary : Summary) (packets : List RtcpPacket) : Type 0 where
  pub sole : summary.is_sole ≡ all_keep_to ssrc is_first packets
  pub named : summary.is_named ≡ true → list_any names packets ≡ true
