-- The sources that a datagram names (RFC 3550, 5.1 and 6.1).
use Rattle.std.specs.Prelude.{ℕ, ◌≡◌, ◌==◌, ◌&&◌, ◌<◌, not, Bool, List, ◌∷◌, length, take, filter, map, Option, option_map}
use Rattle.std.specs.List.{dedup, find}
use Rattle.rtcp_wire.specs.declared.fact.Fact.{Fact}
use Rattle.rtcp_wire.specs.Facts.{subject, is_gone, facts_of}
use Rattle.rtcp_guard.specs.declared.naming.Gathered.{Gathered}
use Rattle.rtcp_guard.specs.declared.naming.Gathered.TheVariants.{Whole, Part}
use Rattle.rtcp_wire.specs.Values.{RtcpPacket, RtpValue}

abbrev pub but : (own : ℕ) → List ℕ → List ℕ
but own names = filter (λ name. not (name == own)) names

abbrev pub is_same : (name before : ℕ) → Bool
is_same name before = before == name

-- The subjects of the facts of a compound, but the participant's own SSRC, which the engine sees to. Of names that are
-- the same and stand side by side there is one.
abbrev pub names_of_compound : (own : ℕ) → List RtcpPacket → List ℕ
names_of_compound own packets = dedup is_same (but own (map subject (facts_of packets)))

-- whether a fact says that a source left, but the participant's own SSRC
abbrev pub is_goodbye_of_another : (own : ℕ) → Fact → Bool
is_goodbye_of_another own fact = is_gone fact && not (subject fact == own)

-- The first source, but the participant's own SSRC, of which a BYE in a compound speaks, if one does.
abbrev pub goodbye_of_compound : (own : ℕ) → List RtcpPacket → Option ℕ
goodbye_of_compound own packets = option_map subject (find (is_goodbye_of_another own) (facts_of packets))

-- What was gathered of these names, of which so many have room, and of the source of which a BYE speaks first.
abbrev pub IsGathered : (room : ℕ) → (names : List ℕ) → (goodbye : Option ℕ) → (items : List ℕ) → Gathered → Type 0
IsGathered room names goodbye items (Whole first) = (items ≡ names) × (first ≡ goodbye)
IsGathered room names goodbye items Part = (items ≡ take room names) × (room < length names)

-- The SSRC and the CSRCs of an RTP packet, which 8.2 treats alike, but the participant's own.
abbrev pub names_of_packet : (own : ℕ) → RtpValue → List ℕ
names_of_packet own head = but own (head.ssrc ∷ head.csrcs)
