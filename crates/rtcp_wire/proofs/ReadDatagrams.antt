-- What `rtcp_in` finds is what the grammar says: it reads the packets that are accepted, and tells the first fault.
use Rattle.std.proofs.Common.{◌≡◌, ◌≢◌, ℕ, zero, suc, ◌+◌, ◌-◌, ◌%◌, ◌<◌, ◌≤◌, ◌⊎◌, ◌==◌, Bool, true, false, if◌then◌else◌, List, [], ◌∷◌, length, drop, Result, Ok, Err, MatchResult, refl, sym, ap, subst, ◌∙◌, arith, inl, inr}
use Rattle.std.specs.Prelude.{◌&&◌, ◌||◌, not, nat_lt, ◌↔◌}
use Rattle.std.proofs.lemmas.Bool.{cases_lt, cases_eq, cases_Bool, lt-ltb, le-ltb, eq-eqb, ne_eqb, eqb-true, eqb-false, ltb-true, ltb-false, and_parts, or_cases, or_parts, not-true, not-false}
use Rattle.std.proofs.lemmas.List.{nil_from_length}
use Rattle.rtcp_wire.specs.declared.fault.FaultReason.{FaultReason}
use Rattle.rtcp_wire.specs.declared.fault.FaultReason.TheVariants.{Short, Padding}
use Rattle.rtcp_wire.specs.declared.fault.WireFault.{WireFault}
use Rattle.rtcp_wire.specs.Values.{RtcpPacket}
use Rattle.rtcp_wire.specs.Grammar.{IsPadding, IsAccepted}
use Rattle.rtcp_wire.specs.Faults.{IsFirstFound, MayStand, IsFirstFault}
use Rattle.rtcp_wire.specs.Parts.{IsWhole}
use Rattle.rtcp_wire.specs.Readings.{result_map, body_or_fault, packet_or_fault, packets_or_fault, rtcp_in, size_of}
use Rattle.rtcp_wire.specs.Headers.{version_of, is_padded, count_of, type_of, padding_of, body_of}
use Rattle.rtcp_wire.specs.Walks.{packet_in, packets_in}
use Rattle.rtcp_wire.specs.Validity.{IsSomeDatagram}
use Rattle.rtcp_wire.proofs.PacketOrFault.{TakesPacket, HasBody, none_at_first, before_version, before_type, before_first_padding, before_length, before_padding, body_is_words, packet_passed}
use Rattle.rtcp_wire.proofs.Prefixes.{length_parts}
use Rattle.rtcp_wire.proofs.ReadBodies.{BodyTested, body_tested}
use Rattle.rtcp_wire.proofs.ReadingWalks.{packet_read, first_packet, accepted_as_read}
use Rattle.rtcp_wire.proofs.Refusals.{never_both, one_fault}
use Rattle.rtcp_wire.proofs.Spellings.{own, is_own, spelling_length, spelling_parts, one_reading}
use Rattle.rtcp_wire.proofs.Stops.{padding_at}
use Rattle.rtcp_wire.proofs.Walking.{HasPassed, none_passed, stops_next, passed_more, passed_all}

-- ---- Tests

-- Each test of the first packet's type and padding, and of a number of padding octets, is the grammar's.
wrong_type : (first : Bool) (kind : ℕ) → (first && not (kind == 200 || kind == 201)) ≡ true →
    (first ≡ true) × (kind ≢ 200) × (kind ≢ 201)
wrong_type first kind e =
    let tests = and_parts first (not (kind == 200 || kind == 201)) e in
    let neither = or_parts (kind == 200) (kind == 201) (not-true (kind == 200 || kind == 201) tests.1) in
    (tests.0, eqb-false kind 200 neither.0, eqb-false kind 201 neither.1)

right_type : (first : Bool) (kind : ℕ) → (first && not (kind == 200 || kind == 201)) ≡ false → first ≡ true →
    (kind ≡ 200) ⊎ (kind ≡ 201)
right_type false kind e is_first = absurd cc
right_type true kind e is_first =
    elim (or_cases (kind == 200) (kind == 201) (not-false (kind == 200 || kind == 201) e)) [
      | inl sender ↦ inl (eqb-true kind 200 sender)
      | inr receiver ↦ inr (eqb-true kind 201 receiver)
    ]

unpadded : (first padded : Bool) → (first && padded) ≡ false → first ≡ true → padded ≡ false
unpadded false padded e is_first = absurd cc
unpadded true padded e is_first = e

-- whether a number of padding octets is wrong
abbrev is_wrong : (padded : Bool) (size padding : ℕ) → Bool
is_wrong padded size padding = padded && (padding == 0 || not (padding % 4 == 0) || nat_lt (size - 4) padding)

wrong_padding : (padded : Bool) (size padding : ℕ) → is_wrong padded size padding ≡ true →
    (padded ≡ true) × (IsPadding size padding → ⊥)
wrong_padding false size padding e = absurd cc
wrong_padding true size padding e = (
  refl,
  λ good.
      elim (or_cases (padding == 0 || not (padding % 4 == 0)) (nat_lt (size - 4) padding) e) [
        | inr more ↦ omega (arith, good.2, ltb-true (size - 4) padding more)
        | inl other ↦ elim (or_cases (padding == 0) (not (padding % 4 == 0)) other) [
          | inl none ↦ good.0 (eqb-true padding 0 none)
          | inr odd ↦ eqb-false (padding % 4) 0 (not-true (padding % 4 == 0) odd) good.1
        ]
      ],
)

right_padding : (padded : Bool) (size padding : ℕ) → is_wrong padded size padding ≡ false → padded ≡ true →
    IsPadding size padding
right_padding false size padding e set = absurd cc
right_padding true size padding e set =
    let fits = or_parts (padding == 0 || not (padding % 4 == 0)) (nat_lt (size - 4) padding) e in
    let words = or_parts (padding == 0) (not (padding % 4 == 0)) fits.0 in (
      eqb-false padding 0 words.0,
      eqb-true (padding % 4) 0 (not-false (padding % 4 == 0) words.1),
      ltb-false (size - 4) padding fits.1,
    )

-- ---- Packets

-- what the tests of a packet found
abbrev pub PacketTested : Bool → List ℕ → Result RtcpPacket FaultReason → Type 0
PacketTested first b said =
    MatchResult said (λ packet. (packet ≡ packet_in b) × TakesPacket first b (drop (size_of b) b))
    (λ reason. IsFirstFound reason first b)

module _ (first : Bool) (b : List ℕ) where
  -- What is found in the body is found of the packet.
  of_its_body : (said : Result RtcpPacket FaultReason) → HasBody first b (body_of b) (type_of b) (count_of b) →
      BodyTested (type_of b) (count_of b) (body_of b) said → PacketTested first b said
  of_its_body (Ok packet) has made =
      (made.0, packet_passed first b (body_of b) (type_of b) (count_of b) has {A = Unit {0}} (Ok tt) made.1)
  of_its_body (Err reason) has bad =
      packet_passed first b (body_of b) (type_of b) (count_of b) has {A = Unit {0}} (Err reason) bad

  -- the padding and the body of a packet whose header is good
  padding_tested : IsWhole first b → PacketTested first b
      (if is_wrong (is_padded b) (size_of b) (padding_of b) then Err Padding
      else body_or_fault (type_of b) (count_of b) (body_of b))
  padding_tested good =
      let mine = is_own b good.size in
      elim (cases_Bool (is_wrong (is_padded b) (size_of b) (padding_of b))) [
        | inl bad ↦ rw bad (record {
          found = wrong_padding (is_padded b) (size_of b) (padding_of b) bad;
          no_earlier = before_padding first b good;
        })
        | inr right ↦ (let padding : is_padded (own b) ≡ true → IsPadding (size_of (own b)) (padding_of (own b)) =
            λ set. padding_at (size_of b) (size_of (own b)) (padding_of b) (padding_of (own b))
            mine.parts.header.size mine.parts.padding
            (right_padding (is_padded b) (size_of b) (padding_of b) right (mine.parts.header.padded ∙ set)) in
            let words : length (body_of b) % 4 ≡ 0 = subst (λ (t : List ℕ). length t % 4 ≡ 0) (sym mine.parts.body)
            (body_is_words (own b) mine.size padding) in
            rw right
            (of_its_body (body_or_fault (type_of b) (count_of b) (body_of b))
            (record { good = good; unpadded = (mine.parts.body, padding); kind_is = refl; count_is = refl })
            (body_tested (type_of b) (count_of b) (body_of b) words)))
      ]

  -- the tests in their order
  packet_tested : PacketTested first b (packet_or_fault first b)
  packet_tested =
      elim (cases_lt (length b) 4) [
        | inl few ↦ rw (lt-ltb (length b) 4 few) (record { found = few; no_earlier = none_at_first first b })
        | inr enough ↦ rw (le-ltb (length b) 4 enough) (elim (cases_eq (version_of b) 2) [
          | inr differs ↦ rw (ne_eqb (version_of b) 2 differs)
              (record { found = differs; no_earlier = before_version first b enough })
          | inl version ↦ rw (eq-eqb (version_of b) 2 version)
              (elim (cases_Bool (first && not (type_of b == 200 || type_of b == 201))) [
                | inl bad ↦ rw bad (record {
                  found = wrong_type first (type_of b) bad;
                  no_earlier = before_type first b enough version;
                })
                | inr kind ↦ rw kind (elim (cases_Bool (first && is_padded b)) [
                  | inl bad ↦ rw bad (record {
                    found = and_parts first (is_padded b) bad;
                    no_earlier = before_first_padding first b enough version (right_type first (type_of b) kind);
                  })
                  | inr clear ↦ (let may : MayStand first b = λ is_first.
                      (right_type first (type_of b) kind is_first, unpadded first (is_padded b) clear is_first) in
                      rw clear (elim (cases_lt (length b) (size_of b)) [
                        | inl few ↦ rw (lt-ltb (length b) (size_of b) few)
                            (record { found = few; no_earlier = before_length first b enough version may })
                        | inr room ↦ rw (le-ltb (length b) (size_of b) room) (padding_tested
                            (record { header = enough; version = version; size = room; may_stand = may }))
                      ]))
                ])
              ])
        ])
      ]

-- ---- Datagrams

-- the octets of a packet, which were tested
tested : (skip place : ℕ) (octets : List ℕ) → skip ≤ length octets →
    packets_or_fault skip place octets ≡ packets_or_fault 0 (place + skip) (drop skip octets)
tested zero place octets room = ap (λ (n : ℕ). packets_or_fault 0 n octets) (omega arith)
tested (suc skip) place [] room = absurd (omega arith)
tested (suc skip) place (o ∷ octets) room =
    tested skip (suc place) octets (omega arith) ∙ ap (λ (n : ℕ). packets_or_fault 0 n (drop skip octets)) (omega arith)

-- those of the packet that stands first
one_tested : (place : ℕ) (o : ℕ) (rest : List ℕ) → size_of (o ∷ rest) ≤ suc (length rest) →
    packets_or_fault (size_of (o ∷ rest) - 1) (suc place) rest
    ≡ packets_or_fault 0 (place + size_of (o ∷ rest)) (drop (size_of (o ∷ rest)) (o ∷ rest))
one_tested place o rest room =
    let left : ℕ = size_of (o ∷ rest) - 1 in
    let size : suc left ≡ size_of (o ∷ rest) = omega arith in
    tested left (suc place) rest (omega (arith, size))
    ∙ ap (λ (n : ℕ). packets_or_fault 0 n (drop left rest)) (omega (arith, size))
    ∙ ap (λ (n : ℕ). packets_or_fault 0 (place + n) (drop n (o ∷ rest))) size

-- what the tests of packets found in what is left
abbrev DatagramTested : (datagram left : List ℕ) → Result (List RtcpPacket) WireFault → Type 0
DatagramTested datagram left said =
    MatchResult said (λ packets. (packets ≡ packets_in left) × IsSomeDatagram datagram) (IsFirstFault datagram)

-- one packet before others
one_packet : (datagram old new : List ℕ) (packet first : RtcpPacket) → packet ≡ first →
    packets_in old ≡ first ∷ packets_in new → (said : Result (List RtcpPacket) WireFault) →
    DatagramTested datagram new said → DatagramTested datagram old (result_map (λ packets. packet ∷ packets) said)
one_packet datagram old new packet first same whole (Ok packets) h = ((λ i. same i ∷ h.0 i) ∙ sym whole, h.1)
one_packet datagram old new packet first same whole (Err fault) h = h

-- what is found in fewer octets than the bound, after packets that were passed
abbrev IsTested : ℕ → List ℕ → Type 0
IsTested bound datagram = (left : List ℕ) (place : ℕ) → length left < bound → HasPassed datagram left → left ≢ [] →
    place ≡ length datagram - length left → DatagramTested datagram left (packets_or_fault 0 place left)

-- one packet more, to its fault, to the end, or to what follows
step : (bound : ℕ) (datagram : List ℕ) → IsTested bound datagram → IsTested (suc bound) datagram
step bound datagram further [] place below h some is = absurd (some refl)
step bound datagram further (o ∷ rest) place below h some is =
    by (packet_or_fault (place == 0) (o ∷ rest)) (packet_tested (place == 0) (o ∷ rest))
  where
    size : ℕ
    size = size_of (o ∷ rest)

    new : List ℕ
    new = drop size (o ∷ rest)

    by : (said : Result RtcpPacket FaultReason) → PacketTested (place == 0) (o ∷ rest) said →
        DatagramTested datagram (o ∷ rest) (elim said [
          | Err reason ↦ Err (record { reason = reason; place = place })
          | Ok packet ↦ result_map (λ packets. packet ∷ packets)
              (packets_or_fault (size_of (o ∷ rest) - 1) (suc place) rest)
        ])
    by (Err reason) bad = stops_next datagram (o ∷ rest) place h is reason bad
    by (Ok packet) found =
        let taken = found.1 in
        let octets : List ℕ = taken.0 in
        let first : RtcpPacket = taken.2.0.0 in
        let spelled = taken.2.0.1 in
        let sum : suc (length rest) ≡ length octets + length new = length_parts (o ∷ rest) octets new taken.1 in
        let whole : size ≡ length octets =
        ap size_of taken.1 ∙ (spelling_parts first octets new spelled).header.size ∙ sym spelled.size in
        let some_octets : 4 ≤ length octets = spelling_length first octets spelled in
        let before : length datagram ≡ length h.prefix + suc (length rest) =
        length_parts datagram h.prefix (o ∷ rest) h.parts in
        one_packet datagram (o ∷ rest) new packet first
        (found.0 ∙ ap packet_in taken.1 ∙ packet_read first octets new spelled)
        (ap packets_in taken.1 ∙ first_packet first octets new spelled)
        (packets_or_fault (size_of (o ∷ rest) - 1) (suc place) rest)
        (subst (DatagramTested datagram new) (sym (one_tested place o rest (omega (arith, whole, sum))))
        (elim (cases_eq (length new) 0) [
          | inl none ↦ subst (λ (t : List ℕ). DatagramTested datagram t (packets_or_fault 0 (place + size) t))
              (sym (nil_from_length new none)) (refl, passed_all datagram (o ∷ rest) place h is new taken none)
          | inr more ↦ further new (place + size) (omega (arith, below, sum, some_octets))
              (passed_more datagram (o ∷ rest) place h is new taken more)
              (λ none. more (ap length none)) (omega (arith, is, whole, sum, before))
        ]))

-- all of them, by a bound on the octets that are left
walk : (bound : ℕ) (datagram : List ℕ) → IsTested bound datagram
walk zero datagram = λ left place below h some is. absurd (omega (arith, below))
walk (suc n) datagram = step n datagram (walk n datagram)

-- ---- The law

-- What is read is accepted, and what is told is the first fault.
in_datagram : (octets : List ℕ) → MatchResult (rtcp_in octets) (IsAccepted octets) (IsFirstFault octets)
in_datagram octets =
    elim (cases_lt 65535 (length octets)) [
      | inl long ↦ rw (lt-ltb 65535 (length octets) long) (inl (long, refl, refl))
      | inr short ↦ rw (le-ltb 65535 (length octets) short) (elim (cases_eq (length octets) 0) [
        | inl none ↦ rw (eq-eqb (length octets) 0 none) (stops_next octets octets 0 (none_passed octets short)
            (omega arith) Short (record { found = omega (arith, none); no_earlier = none_at_first true octets }))
        | inr some ↦ rw (ne_eqb (length octets) 0 some) (by (packets_or_fault 0 0 octets)
            (walk (suc (length octets)) octets octets 0 (omega arith) (none_passed octets short)
            (λ none. some (ap length none)) (omega arith)))
      ])
    ]
  where
    by : (said : Result (List RtcpPacket) WireFault) → DatagramTested octets octets said →
        MatchResult said (IsAccepted octets) (IsFirstFault octets)
    by (Ok packets) read = subst (IsAccepted octets) (sym read.0) (accepted_as_read octets read.1)
    by (Err fault) first = first

-- Each datagram is read, or has a first fault.
pub always_one : (octets : List ℕ) →
    ((packets : List RtcpPacket) × IsAccepted octets packets) ⊎ ((fault : WireFault) × IsFirstFault octets fault)
always_one octets = by (rtcp_in octets) (in_datagram octets)
  where
    by : (said : Result (List RtcpPacket) WireFault) → MatchResult said (IsAccepted octets) (IsFirstFault octets) →
        ((packets : List RtcpPacket) × IsAccepted octets packets) ⊎ ((fault : WireFault) × IsFirstFault octets fault)
    by (Ok packets) is = inl (packets, is)
    by (Err fault) is = inr (fault, is)

-- As no datagram has two readings or two faults, or one of each, the outcome is the only one.
module _ (octets : List ℕ) where
  reading : (said : Result (List RtcpPacket) WireFault) → MatchResult said (IsAccepted octets) (IsFirstFault octets) →
      (packets : List RtcpPacket) → (IsAccepted octets packets) ↔ (said ≡ Ok packets)
  reading (Ok read) is packets = (
    λ accepted. ap Ok (one_reading octets read packets is accepted),
    λ same. (let packets_are : read ≡ packets = cc in subst (IsAccepted octets) packets_are is),
  )
  reading (Err fault) is packets = (
    λ accepted. absurd (never_both octets packets fault accepted is),
    λ same. absurd cc,
  )

  first_fault : (said : Result (List RtcpPacket) WireFault) →
      MatchResult said (IsAccepted octets) (IsFirstFault octets) →
      (fault : WireFault) → (IsFirstFault octets fault) ↔ (said ≡ Err fault)
  first_fault (Ok read) is fault = (
    λ first. absurd (never_both octets read fault is first),
    λ same. absurd cc,
  )
  first_fault (Err found) is fault = (
    λ first. ap Err (one_fault octets found fault is first),
    λ same. (let faults_are : found ≡ fault = cc in subst (IsFirstFault octets) faults_are is),
  )

-- A datagram is accepted as packets just where these are read of it,
pub accepted : (octets : List ℕ) (packets : List RtcpPacket) →
    (IsAccepted octets packets) ↔ (rtcp_in octets ≡ Ok packets)
accepted octets = reading octets (rtcp_in octets) (in_datagram octets)

-- and has a first fault just where this one is told.
pub faulty : (octets : List ℕ) (fault : WireFault) → (IsFirstFault octets fault) ↔ (rtcp_in octets ≡ Err fault)
faulty octets = first_fault octets (rtcp_in octets) (in_datagram octets)
