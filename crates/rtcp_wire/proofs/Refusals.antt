-- A datagram has one first fault, and none where it is read.
use Rattle.std.proofs.Common.{◌≡◌, ℕ, ◌⊎◌, ◌==◌, Bool, List, [], ◌∷◌, ◌++◌, length, refl, sym, ap, subst, ◌∙◌, append_assoc, append-nil, arith, inl, inr}
use Rattle.std.proofs.lemmas.Bool.{eqb-true}
use Rattle.std.proofs.lemmas.List.{nil_from_length}
use Rattle.rtcp_wire.specs.declared.fault.FaultReason.{FaultReason}
use Rattle.rtcp_wire.specs.declared.fault.WireFault.{WireFault}
use Rattle.rtcp_wire.specs.Values.{RtcpPacket}
use Rattle.rtcp_wire.specs.Grammar.{Joins, IsSpelling, MayBegin, IsAccepted}
use Rattle.rtcp_wire.specs.Faults.{IsFirstFound, MayStand, StopsAt, IsFirstFault}
use Rattle.rtcp_wire.proofs.Joining.{Extends, Extends-none, comparing}
use Rattle.rtcp_wire.proofs.Prefixes.{no_prefix, no_rest, cut_prefix}
use Rattle.rtcp_wire.proofs.Spellings.{same_header, spelling_length, spelling_has_octets, one_spelling}
use Rattle.rtcp_wire.proofs.Stops.{begins_at, one_found}

-- ---- Prefixes before a fault

-- What stands before a fault: nothing, or an accepted prefix.
abbrev pub IsBefore : List ℕ → Type 0
IsBefore prefix = (prefix ≡ []) ⊎ ((packets : List RtcpPacket) × IsAccepted prefix packets)

-- its packets
pub packets_before : (prefix : List ℕ) → IsBefore prefix → (packets : List RtcpPacket) × Joins IsSpelling packets prefix
packets_before prefix before = elim before [ inl none ↦ ([], none) | inr some ↦ (some.0, some.1.joined) ]

-- nothing, or a prefix that may begin a datagram
abbrev pub BeginsWell : List ℕ → Type 0
BeginsWell prefix = (prefix ≡ []) ⊎ MayBegin prefix

-- What stands before a fault begins well.
pub before_begins : (prefix : List ℕ) → IsBefore prefix → BeginsWell prefix
before_begins prefix before = elim before [ inl none ↦ inl none | inr some ↦ inr some.1.begins ]

-- No packet's octets stand where no spelling may follow.
abbrev pub IsUnreadable : Bool → List ℕ → Type 0
IsUnreadable first rest = (packet : RtcpPacket) (spelling after : List ℕ) → rest ≡ spelling ++ after →
    IsSpelling packet spelling → MayStand first spelling → ⊥

-- The first packet of what begins well may begin a datagram.
first_may_begin : (p : RtcpPacket) (c s r : List ℕ) → IsSpelling p s → c ≡ s ++ r → BeginsWell c → MayBegin s
first_may_begin p c s r h e begins =
    elim begins [
      | inl none ↦ absurd (spelling_has_octets p
          (subst (λ (t : List ℕ). IsSpelling p t) (no_prefix s r (sym e ∙ none)) h))
      | inr may ↦ begins_at s (s ++ r) (same_header s r (spelling_length p s h)) (subst MayBegin e may)
    ]

-- Of the joined prefixes that begin well none goes on after the one before a fault.
goes_no_further : (prefix rest c s : List ℕ) (more : List RtcpPacket) (octets : List ℕ) → c ≡ prefix ++ octets →
    Joins IsSpelling more octets → rest ≡ octets ++ s → IsUnreadable (length prefix == 0) rest → BeginsWell c →
    length more ≡ 0
goes_no_further prefix rest c s [] octets e h follows none begins = refl
goes_no_further prefix rest c s (p ∷ more) octets e h follows none begins =
    absurd (none p h.0 (h.1 ++ s) (follows ∙ ap (λ (t : List ℕ). t ++ s) h.2 ∙ append_assoc h.0 h.1 s) h.3
    (λ is_first. first_may_begin p c h.0 h.1 h.3
    (e ∙ ap (λ (t : List ℕ). t ++ octets) (nil_from_length prefix (eqb-true (length prefix) 0 is_first)) ∙ h.2)
    begins))

-- So one that does is the same.
stop_is_last : (octets : List ℕ) (f : WireFault) (k : StopsAt octets f) (xs ys : List RtcpPacket) (c s : List ℕ) →
    BeginsWell c → Extends RtcpPacket IsSpelling xs k.prefix k.rest ys c s → (k.prefix ≡ c) × (xs ≡ ys)
stop_is_last octets f k xs ys c s begins e =
    Extends-none IsSpelling xs k.prefix k.rest ys c s e
    (goes_no_further k.prefix k.rest c s e.more e.octets e.prefix e.each e.rest k.unreadable begins)

-- ---- One fault

-- A fault is its reason and its offset.
same_fault : (f g : WireFault) → f.reason ≡ g.reason → f.place ≡ g.place → f ≡ g
same_fault f g reasons places = λ i. record { reason = reasons i; place = places i }

-- Two faults of a datagram have one prefix before them.
pub same_stop_prefix : (octets : List ℕ) (f g : WireFault) (h : StopsAt octets f) (k : StopsAt octets g) →
    h.prefix ≡ k.prefix
same_stop_prefix octets f g h k =
    let xs = packets_before h.prefix h.before in
    let ys = packets_before k.prefix k.before in
    elim (comparing IsSpelling one_spelling xs.0 ys.0 h.prefix k.prefix h.rest k.rest xs.1 ys.1
    (sym h.parts ∙ k.parts)) [
      | inl on ↦ (stop_is_last octets f h xs.0 ys.0 k.prefix k.rest (before_begins k.prefix k.before) on).0
      | inr on ↦ sym (stop_is_last octets g k ys.0 xs.0 h.prefix h.rest (before_begins h.prefix h.before) on).0
    ]

-- a first fault at equal offsets
found_at : (r : FaultReason) (a c x y : List ℕ) → a ≡ c → x ≡ y → IsFirstFound r (length a == 0) x →
    IsFirstFound r (length c == 0) y
found_at r a c x y prefixes rests h = subst (λ (t : List ℕ). IsFirstFound r (length t == 0) y) prefixes
    (subst (λ (t : List ℕ). IsFirstFound r (length a == 0) t) rests h)

-- A datagram stops at one offset for one reason.
one_stop : (octets : List ℕ) (f g : WireFault) → StopsAt octets f → StopsAt octets g → f ≡ g
one_stop octets f g h k =
    let prefixes : h.prefix ≡ k.prefix = same_stop_prefix octets f g h k in
    let rests : h.rest ≡ k.rest = cut_prefix h.prefix k.prefix h.rest k.rest prefixes (sym h.parts ∙ k.parts) in
    same_fault f g (one_found f.reason g.reason (length k.prefix == 0) k.rest
    (found_at f.reason h.prefix k.prefix h.rest k.rest prefixes rests h.first) k.first)
    (h.place ∙ ap length prefixes ∙ sym k.place)

-- A datagram has one first fault.
pub one_fault : (octets : List ℕ) (f g : WireFault) → IsFirstFault octets f → IsFirstFault octets g → f ≡ g
one_fault octets f g (inl h) (inl k) = same_fault f g (h.1 ∙ sym k.1) (h.2 ∙ sym k.2)
one_fault octets f g (inl h) (inr k) = absurd (omega (arith, h.0, k.short))
one_fault octets f g (inr h) (inl k) = absurd (omega (arith, h.short, k.0))
one_fault octets f g (inr h) (inr k) = one_stop octets f g h k

-- ---- Never both

-- No octets begin no datagram.
nothing_is_refused : (octets : List ℕ) → octets ≡ [] → MayBegin octets → ⊥
nothing_is_refused octets none may =
    let empty : MayBegin [] = subst MayBegin none may in
    elim empty.0 [ inl e ↦ absurd (omega (arith, e)) | inr e ↦ absurd (omega (arith, e)) ]

-- What is read to its end leaves nothing to stop at.
stops_or_reads : (octets : List ℕ) (packets : List RtcpPacket) (f : WireFault) → IsAccepted octets packets →
    StopsAt octets f → ⊥
stops_or_reads octets packets f h k =
    let xs = packets_before k.prefix k.before in
    let whole : k.prefix ++ k.rest ≡ octets ++ [] = sym k.parts ∙ sym (append-nil octets) in
    let none_left : k.rest ≡ [] = elim
    (comparing IsSpelling one_spelling xs.0 packets k.prefix octets k.rest [] xs.1 h.joined whole) [
      | inl on ↦ cut_prefix k.prefix octets k.rest []
          (stop_is_last octets f k xs.0 packets octets [] (inr h.begins) on).0 whole
      | inr on ↦ no_rest on.octets k.rest (sym on.rest)
    ] in
    elim k.more [ inl some ↦ some none_left | inr none ↦ nothing_is_refused octets none h.begins ]

-- What is read has no fault.
pub never_both : (octets : List ℕ) (packets : List RtcpPacket) (f : WireFault) → IsAccepted octets packets →
    IsFirstFault octets f → ⊥
never_both octets packets f h (inl k) = omega (arith, h.short, k.0)
never_both octets packets f h (inr k) = stops_or_reads octets packets f h k
