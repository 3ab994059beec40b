-- What the packets of a compound say of sources (RFC 3550, 6.4 to 6.7). Report blocks give no facts.
use Rattle.std.specs.Prelude.{ℕ, ◌==◌, Bool, true, false, List, [], ◌∷◌, map, flat_map, if◌then◌else◌}
use Rattle.std.specs.List.{list_any}
use Rattle.rtcp_wire.specs.declared.fact.Fact.{Fact}
use Rattle.rtcp_wire.specs.declared.fact.Fact.TheVariants.{Heard, Told, Named, Gone, Media}
use Rattle.rtcp_wire.specs.Values.{ItemValue, ChunkValue, RtcpPacket, sr, rr, sdes, bye, app, other}

-- ---- A fact

-- the source that a fact speaks of
abbrev pub subject : Fact → ℕ
subject (Heard ssrc) = ssrc
subject (Told ssrc ntp rtp) = ssrc
subject (Named ssrc) = ssrc
subject (Gone ssrc) = ssrc
subject (Media ssrc seq timestamp octets rate) = ssrc

-- whether it says that the source left
abbrev pub is_gone : Fact → Bool
is_gone (Gone ssrc) = true
is_gone _ = false

-- whether it is an RTP packet
abbrev pub is_media : Fact → Bool
is_media (Media ssrc seq timestamp octets rate) = true
is_media _ = false

-- ---- The facts of packets

-- A chunk's source was heard, and gave its name if one of the chunk's items is a CNAME, an item of type 1 (6.5.1),
-- however long its text: one fact, however many CNAMEs there are.
abbrev pub facts_of_chunk : ChunkValue → List Fact
facts_of_chunk chunk =
    Heard chunk.id ∷ (if list_any (λ item. item.kind == 1) chunk.items then Named chunk.id ∷ [] else [])

-- what one packet says
abbrev pub facts_of_packet : RtcpPacket → List Fact
facts_of_packet (sr sender blocks extension) = Heard sender.ssrc ∷ Told sender.ssrc sender.ntp sender.rtp ∷ []
facts_of_packet (rr ssrc blocks extension) = Heard ssrc ∷ []
facts_of_packet (sdes chunks) = flat_map facts_of_chunk chunks
facts_of_packet (bye ids reason) = map Gone ids
facts_of_packet (app subtype ssrc name content) = Heard ssrc ∷ []
facts_of_packet (other kind count body) = []

-- what a compound says, packet after packet
abbrev pub facts_of : List RtcpPacket → List Fact
facts_of packets = flat_map facts_of_packet packets

-- ---- For the contracts on chunks

-- whether an item is a CNAME
abbrev pub is_cname : ItemValue → Bool
is_cname item = item.kind == 1
