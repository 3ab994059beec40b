-- A compound gives no more facts than it has octets.
use Rattle.std.proofs.Common.{◌≡◌, ℕ, suc, ◌-◌, ◌≤◌, Bool, true, false, List, [], ◌∷◌, ◌++◌, length, map, drop, if◌then◌else◌, refl, ap, arith}
use Rattle.std.proofs.lemmas.List.{length-append, length-drop, length-take}
use Rattle.std.specs.List.{list_any}
use Rattle.byteorder.specs.Endian.{big_number}
use Rattle.rtcp_wire.specs.declared.fact.Fact.{Fact}
use Rattle.rtcp_wire.specs.declared.fact.Fact.TheVariants.{Named, Gone}
use Rattle.rtcp_wire.specs.Values.{ChunkValue, RtcpPacket, sr, rr, sdes, bye, app, other}
use Rattle.rtcp_wire.specs.Facts.{facts_of, facts_of_chunk, facts_of_packet, is_cname}
use Rattle.rtcp_wire.specs.Grammar.{IsAccepted, IsBody, IsChunk, IsSpelling}
use Rattle.rtcp_wire.specs.Readings.{size_of}
use Rattle.rtcp_wire.specs.Headers.{body_of, padding_of}
use Rattle.rtcp_wire.proofs.Fixed.{fixed_length}
use Rattle.rtcp_wire.proofs.Prefixes.{length_parts, joined_lengths}

one_or_none : (b : Bool) (fact : Fact) → length (if b then fact ∷ [] else []) ≤ 1
one_or_none true fact = omega arith
one_or_none false fact = omega arith

-- an identifier and a zero octet, and its heard source with perhaps a name
chunk_few : (chunk : ChunkValue) (octets : List ℕ) → IsChunk chunk octets →
    length (facts_of_chunk chunk) ≤ length octets
chunk_few chunk octets h =
    omega (
      arith,
      length_parts octets h.id (h.items ++ 0 ∷ h.free) h.parts,
      length-append h.items (0 ∷ h.free),
      h.id_size,
      one_or_none (list_any is_cname chunk.items) (Named chunk.id),
    )

gone_length : (ids : List ℕ) → length (map Gone ids) ≡ length ids
gone_length [] = refl
gone_length (id ∷ ids) = ap suc (gone_length ids)

body_few : (p : RtcpPacket) (kind count : ℕ) (body : List ℕ) → IsBody p kind count body →
    length (facts_of_packet p) ≤ length body
body_few (sr v bs x) kind count body h = omega (arith, length_parts body h.1.prefix h.1.rest h.1.parts, h.1.prefix_size)
body_few (rr i bs x) kind count body h = omega (arith, length_parts body h.1.id h.1.rest h.1.parts, h.1.sender.0)
body_few (sdes chunks) kind count body h = joined_lengths IsChunk facts_of_chunk chunk_few chunks body h.2
body_few (bye ids reason) kind count body h =
    omega (
      arith,
      length_parts body h.1.prefix h.1.rest h.1.parts,
      fixed_length 4 (big_number 4) ids h.1.prefix h.1.each,
      gone_length ids,
    )
body_few (app l i n x) kind count body h = omega (arith, length_parts body h.2.id (n ++ x) h.2.parts, h.2.source.0)
body_few (other l m b) kind count body h = omega arith

packet_few : (p : RtcpPacket) (octets : List ℕ) → IsSpelling p octets → length (facts_of_packet p) ≤ length octets
packet_few p octets h =
    let kept = drop 4 octets in
    omega (
      arith,
      body_few p _ _ (body_of octets) h.body,
      length-take (size_of octets - 4 - padding_of octets) kept,
      length-drop 4 octets,
    )

pub few_facts : (octets : List ℕ) (packets : List RtcpPacket) → IsAccepted octets packets →
    length (facts_of packets) ≤ length octets
few_facts octets packets accepted = joined_lengths IsSpelling facts_of_packet packet_few packets octets accepted.joined
