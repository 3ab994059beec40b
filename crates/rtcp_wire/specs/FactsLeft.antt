-- The facts of a compound that are left after some were given.
use Rattle.std.specs.Prelude.{ℕ, List, [], ◌∷◌, ◌++◌, Option, Some, None, map, flat_map, if◌then◌else◌}
use Rattle.std.specs.List.{list_any}
use Rattle.rtcp_wire.specs.declared.fact.Fact.{Fact}
use Rattle.rtcp_wire.specs.declared.fact.Fact.TheVariants.{Named, Gone}
use Rattle.rtcp_wire.specs.Values.{ChunkValue, RtcpPacket}
use Rattle.rtcp_wire.specs.Facts.{is_cname, facts_of_chunk, facts_of}

-- a fact, if there is one
abbrev pub fact_if_any : Option Fact → List Fact
fact_if_any None = []
fact_if_any (Some fact) = fact ∷ []

-- that a chunk's source gave its name, if it did
abbrev pub name_in : ChunkValue → List Fact
name_in chunk = if list_any is_cname chunk.items then Named chunk.id ∷ [] else []

-- a fact, the facts of chunks, of a BYE's sources, and of packets
abbrev pub facts_left : Option Fact → List ChunkValue → (gone : List ℕ) → List RtcpPacket → List Fact
facts_left first chunks gone packets =
    fact_if_any first ++ (flat_map facts_of_chunk chunks ++ (map Gone gone ++ facts_of packets))
