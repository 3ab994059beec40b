-- Where the test of a reason finds a fault, no packet's octets stand; and the first reason is one.
use Rattle.std.proofs.Common.{◌≡◌, ℕ, ◌+◌, ◌<◌, ◌⊎◌, ◌==◌, if◌then◌else◌, Bool, true, false, List, ◌++◌, length, refl, sym, subst, ◌∙◌, arith, inl, inr, lit<}
use Rattle.std.proofs.lemmas.List.{length-append}
use Rattle.rtcp_wire.specs.declared.fault.FaultReason.{FaultReason}
use Rattle.rtcp_wire.specs.declared.fault.FaultReason.TheVariants.{Short, Version, FirstType, FirstPadding, Length, Padding, Body, Item, Reason, TooLong}
use Rattle.rtcp_wire.specs.Values.{RtcpPacket}
use Rattle.rtcp_wire.specs.Grammar.{IsPadding, IsBody, IsSpelling, MayBegin}
use Rattle.rtcp_wire.specs.Readings.{size_of}
use Rattle.rtcp_wire.specs.Headers.{is_padded, count_of, type_of, padding_of, body_of}
use Rattle.rtcp_wire.specs.Faults.{FindsInBody, Finds, number_of, IsFirstFound, MayStand}
use Rattle.rtcp_wire.proofs.BodyFaults.{no_body_fault}
use Rattle.rtcp_wire.proofs.FirstFound.{one_first}
use Rattle.rtcp_wire.proofs.Spellings.{SameHeader, spelling_length, spelling_parts}

-- ---- No spelling at a fault

-- A packet's own parts are those of the octets where it stands.
pub body_at : (p : RtcpPacket) (k l c d : ℕ) (x y : List ℕ) → k ≡ l → c ≡ d → x ≡ y → IsBody p k c x → IsBody p l d y
body_at p k l c d x y kinds counts bodies h =
    subst (λ (n : ℕ). IsBody p n d y) kinds
    (subst (λ (n : ℕ). IsBody p k n y) counts (subst (λ (z : List ℕ). IsBody p k c z) bodies h))

-- the same of padding
pub padding_at : (m n p q : ℕ) → m ≡ n → p ≡ q → IsPadding m p → IsPadding n q
padding_at m n p q sizes paddings h = subst (λ (z : ℕ). IsPadding z q) sizes
    (subst (λ (z : ℕ). IsPadding m z) paddings h)

-- What may begin a datagram is told by the header: at a prefix,
pub begins_at : (s b : List ℕ) → SameHeader s b → MayBegin b → MayBegin s
begins_at s b header h =
    let kinds : (type_of s ≡ 200) ⊎ (type_of s ≡ 201) =
    elim h.0 [ inl e ↦ inl (sym header.kind ∙ e) | inr e ↦ inr (sym header.kind ∙ e) ] in
    (kinds, sym header.padded ∙ h.1)

-- and at the whole.
pub begins_on : (s b : List ℕ) → SameHeader s b → MayBegin s → MayBegin b
begins_on s b header h =
    let kinds : (type_of b ≡ 200) ⊎ (type_of b ≡ 201) =
    elim h.0 [ inl e ↦ inl (header.kind ∙ e) | inr e ↦ inr (header.kind ∙ e) ] in
    (kinds, header.padded ∙ h.1)

-- A packet's body stands where it stands.
pub spelling_body : (p : RtcpPacket) (s after : List ℕ) → IsSpelling p s →
    IsBody p (type_of (s ++ after)) (count_of (s ++ after)) (body_of (s ++ after))
spelling_body p s after h =
    let same = spelling_parts p s after h in
    body_at p (type_of s) (type_of (s ++ after)) (count_of s) (count_of (s ++ after)) (body_of s) (body_of (s ++ after))
    (sym same.header.kind) (sym same.header.count) (sym same.body) h.body

-- A part isn't longer than the whole.
not_longer : (n m k l : ℕ) → n ≡ m + k → m ≡ l → n < l → ⊥
not_longer n m k l e same lt = omega arith

-- One bit isn't both.
both_bits : (p q : Bool) → p ≡ q → p ≡ true → q ≡ false → ⊥
both_bits p q e set clear = cc

-- At a spelling with what follows it no test of a body finds a fault,
at_body : (r : FaultReason) (p : RtcpPacket) (s after : List ℕ) → IsSpelling p s →
    FindsInBody r (type_of (s ++ after)) (count_of (s ++ after)) (body_of (s ++ after)) → ⊥
at_body r p s after h found = no_body_fault r p (type_of (s ++ after)) (count_of (s ++ after)) (body_of (s ++ after))
    (spelling_body p s after h) found

-- and no other test does.
at_spelling : (r : FaultReason) (first : Bool) (p : RtcpPacket) (s after : List ℕ) → IsSpelling p s → MayStand first s →
    Finds r first (s ++ after) → ⊥
at_spelling Short first p s after h may found = omega (arith, length-append s after, spelling_length p s h)
at_spelling Version first p s after h may found = found ((spelling_parts p s after h).header.version ∙ h.version)
at_spelling FirstType first p s after h may found =
    let kind = (spelling_parts p s after h).header.kind in
    elim (may found.0).0 [ inl e ↦ found.1 (kind ∙ e) | inr e ↦ found.2 (kind ∙ e) ]
at_spelling FirstPadding first p s after h may found =
    both_bits (is_padded (s ++ after)) (is_padded s) (spelling_parts p s after h).header.padded found.1 (may found.0).1
at_spelling Length first p s after h may found =
    not_longer (length (s ++ after)) (length s) (length after) (size_of (s ++ after)) (length-append s after)
    (h.size ∙ sym (spelling_parts p s after h).header.size) found
at_spelling Padding first p s after h may found =
    let same = spelling_parts p s after h in
    found.1 (padding_at (size_of s) (size_of (s ++ after)) (padding_of s) (padding_of (s ++ after))
    (sym same.header.size) (sym same.padding) (h.padding (sym same.header.padded ∙ found.0)))
at_spelling Body first p s after h may found = at_body Body p s after h found
at_spelling Item first p s after h may found = at_body Item p s after h found
at_spelling Reason first p s after h may found = at_body Reason p s after h found
at_spelling TooLong first p s after h may found = found

-- Where a reason's test finds a fault, no spelling that may stand there is a prefix.
pub finds_no_spelling : (r : FaultReason) (first : Bool) (b : List ℕ) → Finds r first b →
    (p : RtcpPacket) (s after : List ℕ) → b ≡ s ++ after → IsSpelling p s → MayStand first s → ⊥
finds_no_spelling r first b found p s after e h may = at_spelling r first p s after h may
    (subst (λ (z : List ℕ). Finds r first z) e found)

-- ---- The order of the tests

-- the reason of this number
abbrev pub reason_in : ℕ → FaultReason
reason_in n =
    if n == 1 then Short else if n == 2 then Version else if n == 3 then FirstType else if n == 4 then FirstPadding else
    if n == 5 then Length
    else if n == 6 then Padding else if n == 7 then Body else if n == 8 then Item else if n == 9 then Reason else
    TooLong

-- Each reason is that of its number.
pub reason_has_number : (r : FaultReason) → reason_in (number_of r) ≡ r
reason_has_number Short = refl
reason_has_number Version = refl
reason_has_number FirstType = refl
reason_has_number FirstPadding = refl
reason_has_number Length = refl
reason_has_number Padding = refl
reason_has_number Body = refl
reason_has_number Item = refl
reason_has_number Reason = refl
reason_has_number TooLong = refl

-- There is one first test that finds a fault.
pub one_found : (r q : FaultReason) (first : Bool) (b : List ℕ) → IsFirstFound r first b → IsFirstFound q first b →
    r ≡ q
one_found r q first b h k = one_first number_of reason_in reason_has_number (lit< tt) (λ reason. Finds reason first b) r
    q h.found h.no_earlier k.found k.no_earlier
