-- No packet of a compound says that an RTP packet came.
use Rattle.std.proofs.Common.{◌≡◌, Bool, true, false, if◌then◌else◌, ℕ, List, [], ◌∷◌, map, All, refl}
use Rattle.std.specs.List.{flat_map, list_any}
use Rattle.std.proofs.lemmas.List.Elements.{All-nil, All-cons, All-append}
use Rattle.rtcp_wire.specs.declared.fact.Fact.{Fact}
use Rattle.rtcp_wire.specs.declared.fact.Fact.TheVariants.{Heard, Told, Named, Gone}
use Rattle.rtcp_wire.specs.Values.{ChunkValue, RtcpPacket, sr, rr, sdes, bye, app, other}
use Rattle.rtcp_wire.specs.Facts.{is_media, is_cname, facts_of_chunk, facts_of_packet, facts_of}

abbrev IsNoMedia : Fact → Type 0
IsNoMedia fact = is_media fact ≡ false

one_fact : (fact : Fact) → IsNoMedia fact → All IsNoMedia (fact ∷ [])
one_fact fact is = All-cons IsNoMedia fact [] is (All-nil IsNoMedia)

-- What holds of the parts of each value holds of all parts.
all_in_parts : {A B : Type 0} (P : B → Type 0) (f : A → List B) → ((x : A) → All P (f x)) → (xs : List A) →
    All P (flat_map f xs)
all_in_parts P f each [] = All-nil P
all_in_parts P f each (x ∷ xs) = All-append P (f x) (flat_map f xs) (each x) (all_in_parts P f each xs)

name_of_chunk : (id : ℕ) (named : Bool) → All IsNoMedia (if named then Named id ∷ [] else [])
name_of_chunk id true = one_fact (Named id) refl
name_of_chunk id false = All-nil IsNoMedia

chunk_gives_none : (chunk : ChunkValue) → All IsNoMedia (facts_of_chunk chunk)
chunk_gives_none chunk =
    All-cons IsNoMedia (Heard chunk.id) (if list_any is_cname chunk.items then Named chunk.id ∷ [] else []) refl
    (name_of_chunk chunk.id (list_any is_cname chunk.items))

goodbyes_give_none : (ids : List ℕ) → All IsNoMedia (map Gone ids)
goodbyes_give_none [] = All-nil IsNoMedia
goodbyes_give_none (id ∷ ids) = All-cons IsNoMedia (Gone id) (map Gone ids) refl (goodbyes_give_none ids)

packet_gives_none : (packet : RtcpPacket) → All IsNoMedia (facts_of_packet packet)
packet_gives_none (sr sender blocks extension) =
    All-cons IsNoMedia (Heard sender.ssrc) (Told sender.ssrc sender.ntp sender.rtp ∷ []) refl
    (one_fact (Told sender.ssrc sender.ntp sender.rtp) refl)
packet_gives_none (rr ssrc blocks extension) = one_fact (Heard ssrc) refl
packet_gives_none (sdes chunks) = all_in_parts IsNoMedia facts_of_chunk chunk_gives_none chunks
packet_gives_none (bye ids reason) = goodbyes_give_none ids
packet_gives_none (app subtype ssrc name content) = one_fact (Heard ssrc) refl
packet_gives_none (other kind count body) = All-nil IsNoMedia

pub packets_give_none : (packets : List RtcpPacket) → All (λ fact. is_media fact ≡ false) (facts_of packets)
packets_give_none packets = all_in_parts IsNoMedia facts_of_packet packet_gives_none packets
