-- The facts of parts of a packet.
use Rattle.std.specs.Prelude.{ℕ, List, map, flat_map}
use Rattle.rtcp_wire.specs.declared.fact.Fact.{Fact}
use Rattle.rtcp_wire.specs.declared.fact.Fact.TheVariants.{Gone}
use Rattle.rtcp_wire.specs.Values.{ChunkValue}
use Rattle.rtcp_wire.specs.Facts.{facts_of_chunk}

-- what the chunks of a description say
abbrev pub facts_of_chunks : List ChunkValue → List Fact
facts_of_chunks chunks = flat_map facts_of_chunk chunks

-- what a BYE says of these sources
abbrev pub facts_of_byes : List ℕ → List Fact
facts_of_byes ids = map Gone ids
