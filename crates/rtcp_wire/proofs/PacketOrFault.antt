-- Where a packet should begin, one does, or one of the tests is the first that finds a fault: a lemma for each test.
use Rattle.std.proofs.Common.{◌≡◌, ℕ, suc, ◌+◌, ◌-◌, ◌*◌, ◌%◌, ◌<◌, ◌≤◌, ◌⊎◌, Bool, true, false, cond, List, length, get_or, drop, Result, Ok, Err, IfOk, MatchResult, refl, sym, subst, ◌∙◌, arith, inl, inr, lit<}
use Rattle.std.proofs.lemmas.List.{take-append-drop, length-drop, length-take-le}
use Rattle.byteorder.specs.Endian.{big_number}
use Rattle.rtcp_wire.specs.declared.fault.FaultReason.{FaultReason}
use Rattle.rtcp_wire.specs.declared.fault.FaultReason.TheVariants.{Short, Version, FirstType, FirstPadding, Length, Padding, Body, Item, Reason}
use Rattle.rtcp_wire.specs.Grammar.{IsPadding, IsSpelling}
use Rattle.rtcp_wire.specs.Readings.{size_of}
use Rattle.rtcp_wire.specs.Headers.{version_of, is_padded, count_of, type_of, padding_of, body_of}
use Rattle.rtcp_wire.specs.Walks.{body_says, packet_in}
use Rattle.rtcp_wire.specs.Faults.{FindsInBody, Finds, number_of, IsFirstFound, MayStand}
use Rattle.rtcp_wire.specs.Parts.{TakesPrefix, IsWhole, IsUnpadded}
use Rattle.rtcp_wire.specs.Validity.{IsSomeBody, IsSomePacket}
use Rattle.rtcp_wire.specs.Values.{RtcpPacket}
use Rattle.rtcp_wire.proofs.Spellings.{own, is_own}
use Rattle.rtcp_wire.proofs.Stops.{body_at, padding_at, begins_at, reason_in, reason_has_number}
use Rattle.rtcp_wire.proofs.BodyFaults.{body_or_item, body_or_reason, item_or_reason}
use Rattle.rtcp_wire.proofs.FirstFound.{first_of_all, one_further}

-- ---- Tests

-- No earlier test finds a fault.
abbrev pub NoneBefore : ℕ → Bool → List ℕ → Type 0
NoneBefore n first b = (earlier : FaultReason) → number_of earlier < n → Finds earlier first b → ⊥

-- No test comes before the first.
pub none_at_first : (first : Bool) (b : List ℕ) → NoneBefore 1 first b
none_at_first first b = first_of_all number_of reason_in reason_has_number (lit< tt) (λ reason. Finds reason first b)

-- one test further, where this one finds nothing
next_test : (r : FaultReason) (first : Bool) (b : List ℕ) → NoneBefore (number_of r) first b → (Finds r first b → ⊥) →
    NoneBefore (suc (number_of r)) first b
next_test r first b = one_further number_of reason_in reason_has_number (lit< tt) (λ reason. Finds reason first b) r

-- One bit isn't both.
pub not_both_bits : (p : Bool) → p ≡ true → p ≡ false → ⊥
not_both_bits p set clear = cc

-- ---- The header

module _ (first : Bool) (b : List ℕ) where
  -- Each test of a header that finds nothing leads to the next.
  pub before_version : 4 ≤ length b → NoneBefore 2 first b
  before_version enough = next_test Short first b (none_at_first first b)
      (λ (few : length b < 4). omega (arith, few, enough))

  pub before_type : 4 ≤ length b → version_of b ≡ 2 → NoneBefore 3 first b
  before_type enough version = next_test Version first b (before_version enough) (λ differs. differs version)

  pub before_first_padding : 4 ≤ length b → version_of b ≡ 2 → (first ≡ true → (type_of b ≡ 200) ⊎ (type_of b ≡ 201)) →
      NoneBefore 4 first b
  before_first_padding enough version kind = next_test FirstType first b (before_type enough version)
      (λ bad. elim (kind bad.0) [ inl e ↦ bad.1 e | inr e ↦ bad.2 e ])

  pub before_length : 4 ≤ length b → version_of b ≡ 2 → MayStand first b → NoneBefore 5 first b
  before_length enough version may =
      next_test FirstPadding first b (before_first_padding enough version (λ is_first. (may is_first).0))
      (λ bad. not_both_bits (is_padded b) bad.1 (may bad.0).1)

  pub before_padding : IsWhole first b → NoneBefore 6 first b
  before_padding good = next_test Length first b (before_length good.header good.version good.may_stand)
      (λ (few : length b < size_of b). omega (arith, few, good.size))

-- ---- The body

-- Padding is whole words.
padding_is_words : (padded : Bool) (size octet : ℕ) → (padded ≡ true → IsPadding size (cond padded octet 0)) →
    cond padded octet 0 % 4 ≡ 0
padding_is_words true size octet h = (h refl).1
padding_is_words false size octet h = refl

-- Without the header and the padding whole words are left.
words_are_left : (n size words padding : ℕ) → n ≡ size - 4 - padding → size ≡ 4 * (words + 1) → padding % 4 ≡ 0 →
    n % 4 ≡ 0
words_are_left n size words padding is e even = omega arith

-- The body of a packet with good padding is whole words.
pub body_is_words : (s : List ℕ) → length s ≡ size_of s → (is_padded s ≡ true → IsPadding (size_of s) (padding_of s)) →
    length (body_of s) % 4 ≡ 0
body_is_words s size good =
    let fits : size_of s - 4 - padding_of s ≤ length (drop 4 s) = within (size_of s) (padding_of s) (length s)
    (length (drop 4 s)) size (length-drop 4 s) in
    words_are_left (length (body_of s)) (size_of s) (big_number 2 (drop 2 s)) (padding_of s)
    (length-take-le (size_of s - 4 - padding_of s) (drop 4 s) fits) refl
    (padding_is_words (is_padded s) (size_of s) (get_or s (size_of s - 1) 0) good)
  where
    within : (size padding n rest : ℕ) → n ≡ size → rest ≡ n - 4 → size - 4 - padding ≤ rest
    within size padding n rest same e = omega arith

-- A whole packet stands here, and this is its body, with the header's type and count.
pub record HasBody (first : Bool) (b body : List ℕ) (kind count : ℕ) : Type 0 where
  pub good : IsWhole first b
  pub unpadded : IsUnpadded (own b) body
  pub kind_is : kind ≡ type_of b
  pub count_is : count ≡ count_of b

module _ (first : Bool) (b body : List ℕ) (kind count : ℕ) (h : HasBody first b body kind count) where
  -- No test before the body's finds a fault.
  before_body : NoneBefore 7 first b
  before_body =
      let same = (is_own b h.good.size).parts in
      next_test Padding first b (before_padding first b h.good) (λ bad. bad.1 (
      padding_at (size_of (own b)) (size_of b) (padding_of (own b)) (padding_of b) (sym same.header.size)
      (sym same.padding) (h.unpadded.1 (sym same.header.padded ∙ bad.0))
      ))

  -- The fault of a body is the first one.
  pub body_found : (r : FaultReason) → FindsInBody r (type_of b) (count_of b) (body_of b) → IsFirstFound r first b
  body_found Body found = record { found = found; no_earlier = before_body }
  body_found Item found = record {
    found = found;
    no_earlier = next_test Body first b before_body
        (λ body. body_or_item (type_of b) (count_of b) (body_of b) body found);
  }
  body_found Reason found =
      let none8 : NoneBefore 8 first b = next_test Body first b before_body
      (λ body. body_or_reason (type_of b) (count_of b) (body_of b) body found) in
      record {
        found = found;
        no_earlier = next_test Item first b none8
            (λ item. item_or_reason (type_of b) (count_of b) (body_of b) item found);
      }
  body_found r found = absurd found

  -- What is found in a body is found of the packet.
  pub packet_passed : {A : Type 0} (tested : Result A FaultReason) →
      MatchResult tested (λ _. IsSomeBody kind count body)
      (λ reason. FindsInBody reason kind count body)
      → MatchResult tested (λ _. TakesPrefix b (drop (size_of b) b) (λ s. IsSomePacket s × MayStand first s))
      (λ reason. IsFirstFound reason first b)
  packet_passed (Ok done) made =
      let mine = is_own b h.good.size in
      let header = mine.parts.header in
      let spelled : IsSpelling made.0 (own b) = record {
        version = sym header.version ∙ h.good.version;
        size = mine.size;
        padding = h.unpadded.1;
        body = body_at made.0 kind (type_of (own b)) count (count_of (own b)) body (body_of (own b))
            (h.kind_is ∙ header.kind) (h.count_is ∙ header.count) h.unpadded.0 made.1;
      } in (
        own b,
        sym (take-append-drop (size_of b) b),
        ((made.0, spelled), λ is_first. begins_at (own b) b header (h.good.may_stand is_first)),
      )
  packet_passed (Err reason) found =
      body_found reason (rw (← h.kind_is, ← h.count_is, ← (h.unpadded.0 ∙ sym (is_own b h.good.size).parts.body)) found)

  -- So is what is said of it.
  pub packet_summed : {A : Type 0} (P : A → RtcpPacket → Type 0) (tested : Result A FaultReason) →
      IfOk tested (λ said. P said (body_says kind count body)) → IfOk tested (λ said. P said (packet_in b))
  packet_summed P tested =
      subst (λ (packet : RtcpPacket). IfOk tested (λ said. P said packet))
      (λ i. body_says (h.kind_is i) (h.count_is i)
      ((h.unpadded.0 ∙ sym (is_own b h.good.size).parts.body) i))

-- ---- The packet

-- A packet was taken, which may stand here.
abbrev pub TakesPacket : Bool → List ℕ → List ℕ → Type 0
TakesPacket first old new = TakesPrefix old new (λ octets. IsSomePacket octets × MayStand first octets)
