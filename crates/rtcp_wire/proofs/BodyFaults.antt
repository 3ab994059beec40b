-- Where the test of a reason finds a fault in a body, the body is no packet's, and no other reason's test finds one.
use Rattle.std.proofs.Common.{◌≡◌, ℕ, ◌+◌, ◌-◌, ◌*◌, ◌<◌, List, [], ◌∷◌, ◌++◌, length, Option, Some, None, drop, ap, subst, ◌∙◌, arith, inl, inr}
use Rattle.std.proofs.lemmas.List.{length-drop, drop_at}
use Rattle.byteorder.specs.Endian.{big_number}
use Rattle.rtcp_wire.specs.declared.fault.FaultReason.{FaultReason}
use Rattle.rtcp_wire.specs.declared.fault.FaultReason.TheVariants.{Body, Item, Reason}
use Rattle.rtcp_wire.specs.Values.{RtcpPacket, sdes, bye}
use Rattle.rtcp_wire.specs.Grammar.{IsReasonPart, IsGoodbye, IsBody}
use Rattle.rtcp_wire.specs.Faults.{IsNoReason, FindsInBody, least_size}
use Rattle.rtcp_wire.proofs.Prefixes.{cons_parts, cons_not_nil, length_parts}
use Rattle.rtcp_wire.proofs.Fixed.{fixed_length}
use Rattle.rtcp_wire.proofs.ChunkPrefixes.{not_inside, not_beside, not_both}
use Rattle.rtcp_wire.proofs.Bodies.{body_room}

-- ---- Reasons

-- Octets are a reason or none, or they are no reason.
reason_or_not : (reason : Option (List ℕ)) (octets : List ℕ) → IsReasonPart reason octets → IsNoReason octets → ⊥
reason_or_not reason [] h bad = bad
reason_or_not None (size ∷ text) h bad = cons_not_nil size text h
reason_or_not (Some said) (size ∷ text) h bad =
    let parts = cons_parts size (length said) text (said ++ h.free) h.parts in
    let sum : length text ≡ length said + length h.free = length_parts text said h.free parts.1 in
    elim bad [ inl few ↦ omega (arith, few, sum, parts.0) | inr more ↦ omega (arith, more, sum, parts.0, h.fill) ]

-- what follows the identifiers of a BYE
pub after_ids : (ids : List ℕ) (reason : Option (List ℕ)) (count : ℕ) (body : List ℕ)
    (h : IsGoodbye ids reason count body) → drop (4 * count) body ≡ h.rest
after_ids ids reason count body h =
    ap (drop (4 * count)) h.parts ∙ drop_at h.prefix h.rest (4 * count)
    (fixed_length 4 (big_number 4) ids h.prefix h.each ∙ ap (λ (n : ℕ). 4 * n) h.counted)

-- What is no reason is some octets after the identifiers.
after_some : (n : ℕ) (body : List ℕ) → IsNoReason (drop n body) → n < length body
after_some n body bad = some (drop n body) bad (length-drop n body)
  where
    some : (octets : List ℕ) → IsNoReason octets → length octets ≡ length body - n → n < length body
    some [] h e = absurd h
    some (o ∷ octets) h e = omega arith

-- ---- No packet

-- A body that is too short is no packet's, nor is one with a fault in its chunks or in its reason.
pub no_body_fault : (r : FaultReason) (p : RtcpPacket) (kind count : ℕ) (body : List ℕ) → IsBody p kind count body →
    FindsInBody r kind count body → ⊥
no_body_fault Body p kind count body h (inl few) = omega (arith, few, body_room p kind count body h)
no_body_fault Body (sdes chunks) kind count body h (inr beside) = not_beside count body chunks h.1 h.2 beside.1
no_body_fault Body p kind count body h (inr beside) = omega (arith, h.0, beside.0)
no_body_fault Item (sdes chunks) kind count body h found = not_inside count body chunks h.1 h.2 found.1
no_body_fault Item p kind count body h found = omega (arith, h.0, found.0)
no_body_fault Reason (bye ids reason) kind count body h found = reason_or_not reason h.1.rest h.1.ends
    (subst IsNoReason (after_ids ids reason count body h.1) found.1)
no_body_fault Reason p kind count body h found = omega (arith, h.0, found.0)
no_body_fault r p kind count body h found = found

-- ---- One reason

-- A type asks for its octets.
at_type : (own kind count : ℕ) (body : List ℕ) → kind ≡ own → length body < least_size kind count →
    length body < least_size own count
at_type own kind count body is few = subst (λ (k : ℕ). length body < least_size k count) is few

-- A body that ends inside a chunk is not too short, and does not end beside its chunks.
pub body_or_item : (kind count : ℕ) (body : List ℕ) → FindsInBody Body kind count body →
    FindsInBody Item kind count body → ⊥
body_or_item kind count body (inl few) item = (let none : length body < 0 = at_type 202 kind count body item.0 few in
    omega arith)
body_or_item kind count body (inr beside) item = not_both count body beside.1 item.1

-- A body with octets after its identifiers is not too short.
pub body_or_reason : (kind count : ℕ) (body : List ℕ) → FindsInBody Body kind count body →
    FindsInBody Reason kind count body → ⊥
body_or_reason kind count body (inl few) bad =
    omega (arith, at_type 203 kind count body bad.0 few, after_some (4 * count) body bad.1)
body_or_reason kind count body (inr beside) bad = omega (arith, beside.0, bad.0)

-- One type has items, another a reason.
pub item_or_reason : (kind count : ℕ) (body : List ℕ) → FindsInBody Item kind count body →
    FindsInBody Reason kind count body → ⊥
item_or_reason kind count body item bad = omega (arith, item.0, bad.0)
