-- The packets of an accepted datagram can be written again, in no more octets, and are read back from these.
use Rattle.std.proofs.Common.{◌≡◌, ℕ, ◌⊎◌, ◌+◌, ◌-◌, ◌%◌, ◌^◌, ◌<◌, ◌≤◌, Bool, true, false, if◌then◌else◌, List, [], ◌∷◌, ◌++◌, All, length, drop, refl, ap, subst, inl, inr, arith}
use Rattle.std.specs.List.{flat_map}
use Rattle.std.proofs.lemmas.List.{length-append, length-drop, length-take}
use Rattle.std.proofs.lemmas.List.Elements.{All-drop, All-take}
use Rattle.byteorder.specs.Endian.{big_number}
use Rattle.rtcp_wire.specs.Values.{RtcpPacket, sr, rr, sdes, bye, app, other}
use Rattle.rtcp_wire.specs.Grammar.{AreOctets, Joins, IsPadding, IsId, IsChunk, IsBody, IsSpelling, MayBegin, IsAccepted}
use Rattle.rtcp_wire.specs.Readings.{size_of}
use Rattle.rtcp_wire.specs.Headers.{type_of, padding_of, body_of, is_padded}
use Rattle.rtcp_wire.specs.Writing.{written_word, written_chunk, written_reason, written_body, written, written_all, IsWritableChunk, HasWritableParts, IsWritable, IsChunkInRange, IsInRange, BeginsWithReport}
use Rattle.rtcp_wire.proofs.Appending.{same_size}
use Rattle.rtcp_wire.proofs.Fixed.{fixed_length}
use Rattle.rtcp_wire.proofs.Octets.{both_octets, each_joined}
use Rattle.rtcp_wire.proofs.PartsAgain.{id_in_range, sender_in_range, end_writable, end_in_range, end_no_longer, chunk_writable, chunk_in_range, chunk_no_longer, reason_writable, reason_no_longer}
use Rattle.rtcp_wire.proofs.Prefixes.{length_parts, joined_lengths}
use Rattle.rtcp_wire.proofs.Spellings.{spelling_length, same_header}
use Rattle.rtcp_wire.proofs.Stops.{begins_at}
use Rattle.rtcp_wire.proofs.WrittenPackets.{reads_back}

-- ---- Bodies

-- What is said by a body of whole words, under a count of five bits, can be written;
body_writable : (p : RtcpPacket) (kind count : ℕ) (body : List ℕ) → AreOctets body → count ≤ 31 →
    length body % 4 ≡ 0 → IsBody p kind count body → HasWritableParts p
body_writable (sr v blocks x) kind count body all few words h =
    let s = h.1 in
    let both = both_octets body s.prefix s.rest s.parts all in
    let rest : length s.rest % 4 ≡ 0 =
    omega (arith, words, length_parts body s.prefix s.rest s.parts, s.prefix_size) in
    end_writable blocks x count s.rest s.ends both.1 few rest
body_writable (rr id blocks x) kind count body all few words h =
    let r = h.1 in
    let both = both_octets body r.id r.rest r.parts all in
    let rest : length r.rest % 4 ≡ 0 = omega (arith, words, length_parts body r.id r.rest r.parts, r.sender.0) in
    end_writable blocks x count r.rest r.ends both.1 few rest
body_writable (sdes chunks) kind count body all few words h =
    (omega (arith, few, h.1), each_joined IsChunk IsWritableChunk chunk_writable chunks body all h.2)
body_writable (bye ids reason) kind count body all few words h =
    let g = h.1 in
    let both = both_octets body g.prefix g.rest g.parts all in
    (omega (arith, few, g.counted), reason_writable reason g.rest both.1 g.ends)
body_writable (app subtype ssrc name content) kind count body all few words h =
    let a = h.2 in
    let sizes = length_parts body a.id (name ++ content) a.parts in
    let after = length-append name content in
    (omega (arith, few, h.1), omega (arith, words, sizes, after, a.source.0, a.name_size))
body_writable (other its_kind its_count its_body) kind count body all few words h =
    rw (h.1, h.2, h.3) (h.0, few, words)

-- its numbers are in range;
body_in_range : (p : RtcpPacket) (kind count : ℕ) (body : List ℕ) → AreOctets body → IsBody p kind count body →
    IsInRange p
body_in_range (sr v blocks x) kind count body all h =
    let s = h.1 in
    let both = both_octets body s.prefix s.rest s.parts all in
    (sender_in_range v s.prefix both.0 s.says, end_in_range blocks x count s.rest s.ends both.1)
body_in_range (rr id blocks x) kind count body all h =
    let r = h.1 in
    let both = both_octets body r.id r.rest r.parts all in
    (id_in_range id r.id both.0 r.sender, end_in_range blocks x count r.rest r.ends both.1)
body_in_range (sdes chunks) kind count body all h =
    each_joined IsChunk IsChunkInRange chunk_in_range chunks body all h.2
body_in_range (bye ids reason) kind count body all h =
    let g = h.1 in
    let both = both_octets body g.prefix g.rest g.parts all in
    each_joined IsId (λ id. id < 2 ^ 32) id_in_range ids g.prefix both.0 g.each
body_in_range (app subtype ssrc name content) kind count body all h =
    let a = h.2 in
    (id_in_range ssrc a.id (both_octets body a.id (name ++ content) a.parts all).0 a.source, a.name_size)
body_in_range (other its_kind its_count its_body) kind count body all h = tt {0}

-- and what is written of it is no longer.
body_no_longer : (p : RtcpPacket) (kind count : ℕ) (body : List ℕ) → IsBody p kind count body →
    length (written_body p) ≤ length body
body_no_longer (sr v blocks x) kind count body h =
    let s = h.1 in
    let sizes = length_parts body s.prefix s.rest s.parts in
    omega (arith, end_no_longer blocks x count s.rest s.ends, sizes, s.prefix_size)
body_no_longer (rr id blocks x) kind count body h =
    let r = h.1 in
    let sizes = length_parts body r.id r.rest r.parts in
    omega (arith, end_no_longer blocks x count r.rest r.ends, sizes, r.sender.0)
body_no_longer (sdes chunks) kind count body h =
    joined_lengths IsChunk written_chunk chunk_no_longer chunks body h.2
body_no_longer (bye ids reason) kind count body h =
    let g = h.1 in
    let read = length_parts body g.prefix g.rest g.parts in
    let read_ids = fixed_length 4 (big_number 4) ids g.prefix g.each in
    let back = length-append (flat_map written_word ids) (written_reason reason) in
    let back_ids = same_size written_word 4 (λ x. refl) ids in
    omega (arith, read, read_ids, back, back_ids, reason_no_longer reason g.rest g.ends)
body_no_longer (app subtype ssrc name content) kind count body h =
    let a = h.2 in
    omega (arith, length_parts body a.id (name ++ content) a.parts, a.source.0)
body_no_longer (other its_kind its_count its_body) kind count body h = omega (arith, ap length h.3)

-- ---- Packets

-- The padding is whole words, and leaves the header.
padding_fits : (b : Bool) (size last : ℕ) → (b ≡ true → IsPadding size (if b then last else 0)) →
    ((if b then last else 0) % 4 ≡ 0) × ((if b then last else 0) ≤ size - 4)
padding_fits true size last h = ((h refl).1, (h refl).2)
padding_fits false size last h = (refl, omega arith)

module _ (p : RtcpPacket) (octets : List ℕ) (h : IsSpelling p octets) where
  -- The body is whole words, and the header's word stands before it.
  body_length : (length (body_of octets) % 4 ≡ 0) × (length (body_of octets) + 4 ≤ length octets)
  body_length =
      let fits = padding_fits (is_padded octets) (size_of octets) _ h.padding in
      let cut = length-take (size_of octets - 4 - padding_of octets) (drop 4 octets) in
      let after = length-drop 4 octets in
      (omega (arith, fits.0, fits.1, cut, after, h.size), omega (arith, cut, after, spelling_length p octets h))

  packet_no_longer : length (written p) ≤ length octets
  packet_no_longer = omega (arith, body_length.1, body_no_longer p _ _ (body_of octets) h.body)

-- a spelling that is no longer than a datagram
abbrev IsShortSpelling : RtcpPacket → List ℕ → Type 0
IsShortSpelling p octets = IsSpelling p octets × (length octets ≤ 65535)

module _ (p : RtcpPacket) (octets : List ℕ) (all : AreOctets octets) where
  body_octets : AreOctets (body_of octets)
  body_octets = All-take (λ o. o < 256) _ (drop 4 octets) (All-drop (λ o. o < 256) 4 octets all)

  packet_writable : IsShortSpelling p octets → IsWritable p
  packet_writable h = record {
    parts = body_writable p _ _ (body_of octets) body_octets (omega arith) (body_length p octets h.0).0 h.0.body;
    size = omega (arith, packet_no_longer p octets h.0, h.1);
  }

  packet_in_range : IsSpelling p octets → IsInRange p
  packet_in_range h = body_in_range p _ _ (body_of octets) body_octets h.body

-- ---- The first packet

-- a type that is no report's
no_report : (t kind : ℕ) → t ≡ kind → (kind < 200) ⊎ (201 < kind) → (t ≡ 200) ⊎ (t ≡ 201) → ⊥
no_report t kind is not said = grind (arith, is, not, said)

-- The first of these packets may begin a datagram where all of their octets may.
first_may : (p : RtcpPacket) (ps : List RtcpPacket) (octets : List ℕ) → MayBegin octets →
    (h : Joins IsSpelling (p ∷ ps) octets) → MayBegin h.0
first_may p ps octets may h =
    let whole : MayBegin (h.0 ++ h.1) = subst (λ (t : List ℕ). MayBegin t) h.2 may in
    begins_at h.0 (h.0 ++ h.1) (same_header h.0 h.1 (spelling_length p h.0 h.3)) whole

by_type : (p : RtcpPacket) (ps : List RtcpPacket) (kind count : ℕ) (body : List ℕ) → IsBody p kind count body →
    (kind ≡ 200) ⊎ (kind ≡ 201) → BeginsWithReport (p ∷ ps)
by_type (sr sender blocks extension) ps kind count body is said = tt {0}
by_type (rr ssrc blocks extension) ps kind count body is said = tt {0}
by_type (sdes chunks) ps kind count body is said = absurd (no_report kind 202 is.0 (inr (omega arith)) said)
by_type (bye ids reason) ps kind count body is said = absurd (no_report kind 203 is.0 (inr (omega arith)) said)
by_type (app subtype ssrc name content) ps kind count body is said =
    absurd (no_report kind 204 is.0 (inr (omega arith)) said)
by_type (other its_kind its_count its_body) ps kind count body is said = absurd (grind (arith, is.0, said))

begins_again : (ps : List RtcpPacket) (octets : List ℕ) → MayBegin octets → Joins IsSpelling ps octets →
    BeginsWithReport ps
begins_again [] octets may h = no_report (type_of octets) 0 (ap type_of h) (inl (omega arith)) may.0
begins_again (p ∷ ps) octets may h = by_type p ps _ _ _ h.3.body (first_may p ps octets may h).0

-- ---- Compounds

short_spellings : (ps : List RtcpPacket) (octets : List ℕ) → length octets ≤ 65535 →
    Joins IsSpelling ps octets → Joins IsShortSpelling ps octets
short_spellings [] octets short h = h
short_spellings (p ∷ ps) octets short h =
    let sizes = length_parts octets h.0 h.1 h.2 in
    let rest = short_spellings ps h.1 (omega (arith, sizes, short)) h.4 in
    (h.0, h.1, h.2, (h.3, omega (arith, sizes, short)), rest)

module _ (octets : List ℕ) (ps : List RtcpPacket) where
  pub begins : IsAccepted octets ps → BeginsWithReport ps
  begins accepted = begins_again ps octets accepted.begins accepted.joined

  pub no_longer : IsAccepted octets ps → length (written_all ps) ≤ length octets
  no_longer accepted = joined_lengths IsSpelling written packet_no_longer ps octets accepted.joined

  module _ (all : AreOctets octets) (accepted : IsAccepted octets ps) where
    pub all_writable : All IsWritable ps
    all_writable =
        let joined = short_spellings ps octets accepted.short accepted.joined in
        each_joined IsShortSpelling IsWritable packet_writable ps octets all joined

    pub all_in_range : All IsInRange ps
    all_in_range = each_joined IsSpelling IsInRange packet_in_range ps octets all accepted.joined

    pub read_back : IsAccepted (written_all ps) ps
    read_back =
        let short : length (written_all ps) ≤ 65535 = omega (arith, no_longer accepted, accepted.short) in
        reads_back ps all_writable all_in_range short (begins accepted)
