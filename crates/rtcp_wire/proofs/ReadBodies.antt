-- What `rtcp_in` reads of a body: it is some packet's, as a walk reads it, or the test of the fault finds one in it.
use Rattle.std.proofs.Common.{◌≡◌, ◌≢◌, ℕ, zero, suc, ◌+◌, ◌*◌, ◌%◌, ◌≤◌, Bool, List, [], ◌∷◌, ◌++◌, length, take, drop, Option, Some, None, Result, Ok, Err, MatchResult, refl, sym, ap, subst, ◌∙◌, append_assoc, arith, inl, inr}
use Rattle.std.specs.Prelude.{◌||◌, nat_lt, nat_le, option_map}
use Rattle.std.proofs.lemmas.Bool.{cases_lt, cases_eq, cases_Bool, lt-ltb, le-ltb, ne_eqb, ltb-true, ltb-false, leb-true, leb-false, or_cases, or_parts}
use Rattle.byteorder.specs.Endian.{big_number}
use Rattle.rtcp_wire.specs.declared.fault.FaultReason.{FaultReason}
use Rattle.rtcp_wire.specs.declared.fault.FaultReason.TheVariants.{Reason}
use Rattle.rtcp_wire.specs.Values.{ItemValue, ChunkValue, RtcpPacket, sdes, bye}
use Rattle.rtcp_wire.specs.Grammar.{Joins, IsItem, IsChunk}
use Rattle.rtcp_wire.specs.Faults.{IsCut, IsNoReason, FindsInBody, least_size}
use Rattle.rtcp_wire.specs.Parts.{EndsInChunk}
use Rattle.rtcp_wire.specs.Readings.{result_map, items_or_none, chunks_or_fault, reason_or_fault, at_least, body_or_fault}
use Rattle.rtcp_wire.specs.Walks.{ids_in, items_after, chunk_in, chunk_size, chunks_in, reason_in, body_says}
use Rattle.rtcp_wire.specs.Validity.{IsSomeBody}
use Rattle.rtcp_wire.proofs.Prefixes.{cons_not_nil}
use Rattle.rtcp_wire.proofs.ReadingWalks.{first_part, other_part, chunk_parts, chunk_read, chunk_length}
use Rattle.rtcp_wire.proofs.Passing.{HasTakenChunks, no_chunk_taken, chunk_taken, all_chunks, chunks_beside, chunks_inside, chunk_from}
use Rattle.rtcp_wire.proofs.BodyOrFault.{plain_body, other_body, goodbye_from}

-- ---- Items

-- the octets of an item that were passed
skipped : (a r : List ℕ) → items_or_none (length a) (a ++ r) ≡ items_or_none 0 r
skipped [] r = refl
skipped (o ∷ a) r = skipped a r

-- one item before others, where these end
abbrev before : ItemValue → Option (List ItemValue) → Option (List ItemValue)
before item found = option_map (λ items. item ∷ items) found

-- An item is read before those that follow it.
item_first : (item : ItemValue) (items : List ItemValue) (a r : List ℕ) (h : Joins IsItem (item ∷ items) a) →
    items_or_none 0 (a ++ r) ≡ before item (items_or_none 0 (h.1 ++ r))
item_first item items a r h =
    let whole : a ++ r ≡ item.kind ∷ length item.text ∷ (item.text ++ (h.1 ++ r)) =
    ap (λ (t : List ℕ). t ++ r) (h.2 ∙ ap (λ (t : List ℕ). t ++ h.1) h.3.1)
    ∙ ap (λ (t : List ℕ). item.kind ∷ length item.text ∷ t) (append_assoc item.text h.1 r) in
    let text : take (length item.text) (item.text ++ (h.1 ++ r)) ≡ item.text =
    first_part (length item.text) item.text (h.1 ++ r) refl in
    ap (items_or_none 0) whole ∙ rw (ne_eqb item.kind 0 h.3.0) (λ i. before
    (record { kind = item.kind; text = text i }) (skipped item.text (h.1 ++ r) i))

-- Where an item runs past the octets no end is found.
past_the_end : (skip : ℕ) (octets : List ℕ) → length octets ≤ skip → items_or_none skip octets ≡ None
past_the_end skip [] few = refl
past_the_end zero (o ∷ octets) few = absurd (omega arith)
past_the_end (suc skip) (o ∷ octets) few = past_the_end skip octets (omega arith)

at_a_cut : (cut : List ℕ) → IsCut cut → items_or_none 0 cut ≡ None
at_a_cut [] h = refl
at_a_cut (kind ∷ []) h = rw (ne_eqb kind 0 h) refl
at_a_cut (kind ∷ size ∷ text) h = rw (ne_eqb kind 0 h.0, past_the_end size text (omega (arith, h.1))) refl

-- Items before a cut one have no end,
items_cut : (items : List ItemValue) (a cut : List ℕ) → Joins IsItem items a → IsCut cut →
    items_or_none 0 (a ++ cut) ≡ None
items_cut [] a cut h ends = ap (λ (t : List ℕ). items_or_none 0 (t ++ cut)) h ∙ at_a_cut cut ends
items_cut (item ∷ items) a cut h ends =
    item_first item items a cut h ∙ ap (before item) (items_cut items h.1 cut h.4 ends)

-- and those before a zero octet are read.
items_ended : (items : List ItemValue) (a r : List ℕ) → Joins IsItem items a →
    items_or_none 0 (a ++ 0 ∷ r) ≡ Some items
items_ended [] a r h = ap (λ (t : List ℕ). items_or_none 0 (t ++ 0 ∷ r)) h
items_ended (item ∷ items) a r h =
    item_first item items a (0 ∷ r) h ∙ ap (before item) (items_ended items h.1 r h.4)

-- ---- Chunks

-- Items of a chunk that the octets cut have no end,
no_end : (octets : List ℕ) → EndsInChunk octets → items_or_none 0 (drop 4 octets) ≡ None
no_end octets h =
    ap (λ (t : List ℕ). items_or_none 0 (drop 4 t)) h.parts
    ∙ ap (items_or_none 0) (other_part 4 h.id h.after h.id_size ∙ h.items.parts)
    ∙ items_cut h.items.items h.items.middle h.items.cut h.items.each h.items.ends

-- and those of a whole one do.
some_end : (chunk : ChunkValue) (a r : List ℕ) → IsChunk chunk a →
    items_or_none 0 (drop 4 (a ++ r)) ≡ Some chunk.items
some_end chunk a r h =
    ap (λ (t : List ℕ). items_or_none 0 (drop 4 t)) (chunk_parts chunk a r h)
    ∙ ap (items_or_none 0) (other_part 4 h.id (h.items ++ 0 ∷ (h.free ++ r)) h.id_size)
    ∙ items_ended chunk.items h.items (h.free ++ r) h.each

-- what a test of a body found
abbrev pub BodyTested : ℕ → ℕ → List ℕ → Result RtcpPacket FaultReason → Type 0
BodyTested kind count body said =
    MatchResult said (λ packet. (packet ≡ body_says kind count body) × IsSomeBody kind count body)
    (λ reason. FindsInBody reason kind count body)

module _ (count : ℕ) (body : List ℕ) where
  -- what a test of the chunks that are still to come found
  abbrev ChunksTested : ℕ → List ℕ → Result (List ChunkValue) FaultReason → Type 0
  ChunksTested more left said = MatchResult said (λ chunks. (chunks ≡ chunks_in more left) × IsSomeBody 202 count body)
      (λ reason. FindsInBody reason 202 count body)

  -- one chunk before them, by its items
  one_chunk : (more : ℕ) (left : List ℕ) (items : List ItemValue) → items_after 0 (drop 4 left) ≡ items →
      (said : Result (List ChunkValue) FaultReason) → ChunksTested more (drop (chunk_size items) left) said →
      ChunksTested (suc more) left
      (result_map (λ chunks. record { id = big_number 4 (take 4 left); items = items } ∷ chunks) said)
  one_chunk more left items same (Ok chunks) h = (
    λ i. record { id = big_number 4 (take 4 left); items = sym same i }
        ∷ (h.0 ∙ ap (λ (t : List ItemValue). chunks_in more (drop (chunk_size t) left)) (sym same)) i,
    h.1,
  )
  one_chunk more left items same (Err fault) h = h

  -- the chunks that are still to come, after those that were taken
  chunks_tested : (more turns : ℕ) (left : List ℕ) → count ≡ turns + more → HasTakenChunks turns body left →
      ChunksTested more left (chunks_or_fault more left)
  chunks_tested zero turns [] sum h = (refl, all_chunks turns count body [] h (omega (arith, sum)) refl)
  chunks_tested zero turns (o ∷ left) sum h =
      inr (refl, chunks_beside turns count body (o ∷ left) h (inr (omega (arith, sum), cons_not_nil o left)))
  chunks_tested (suc more) turns left sum h =
      elim (cases_lt (length left) 4) [
        | inl few ↦ rw (lt-ltb (length left) 4 few)
            (inr (refl, chunks_beside turns count body left h (inl (omega (arith, sum), few))))
        | inr room ↦ rw (le-ltb (length left) 4 room) (elim (chunk_from left room h.words) [
          | inl cut ↦ rw (no_end left cut) (refl, chunks_inside turns count body left h (omega (arith, sum)) cut)
          | inr one ↦ (let taken = one.1.0 in
              let chunk : ChunkValue = taken.2.0 in
              let ends : items_or_none 0 (drop 4 left) ≡ Some chunk.items =
              ap (λ (t : List ℕ). items_or_none 0 (drop 4 t)) taken.1 ∙ some_end chunk taken.0 one.0 taken.2.1 in
              let read : chunk_in left ≡ chunk = ap chunk_in taken.1 ∙ chunk_read chunk taken.0 one.0 taken.2.1 in
              let after : drop (chunk_size chunk.items) left ≡ one.0 =
              ap (drop (chunk_size chunk.items)) taken.1
              ∙ other_part (chunk_size chunk.items) taken.0 one.0
              (sym (chunk_length chunk taken.0 one.0 taken.2.1)) in
              rw ends (one_chunk more left chunk.items (ap (λ (c : ChunkValue). c.items) read)
              (chunks_or_fault more (drop (chunk_size chunk.items) left))
              (subst (λ (t : List ℕ). ChunksTested more t (chunks_or_fault more t)) (sym after)
              (chunks_tested more (turns + 1) one.0 (omega (arith, sum))
              (chunk_taken turns body left one.0 h taken one.1.1)))))
        ])
      ]

  -- a body of chunks
  description_tested : (said : Result (List ChunkValue) FaultReason) → ChunksTested count body said →
      BodyTested 202 count body (result_map sdes said)
  description_tested (Ok chunks) h = (ap sdes h.0, h.1)
  description_tested (Err fault) h = h

-- ---- Reasons

-- what a test of a reason found
abbrev ReasonTested : List ℕ → Result (Option (List ℕ)) FaultReason → Type 0
ReasonTested octets said = MatchResult said (λ reason. (reason ≡ reason_in octets) × (IsNoReason octets → ⊥))
    (λ fault. (fault ≡ Reason) × IsNoReason octets)

reason_tested : (octets : List ℕ) → ReasonTested octets (reason_or_fault octets)
reason_tested [] = (refl, λ bad. bad)
reason_tested (size ∷ text) =
    let few : Bool = nat_lt (length text) size in
    let more : Bool = nat_le (size + 4) (length text) in
    elim (cases_Bool (few || more)) [
      | inl wrong ↦ rw wrong (
        refl,
        elim (or_cases few more wrong) [
          | inl is ↦ inl (ltb-true (length text) size is)
          | inr is ↦ inr (leb-true (size + 4) (length text) is)
        ],
      )
      | inr right ↦ (let tests = or_parts few more right in
          rw right (
            refl,
            λ bad. elim bad [
              | inl is ↦ omega (arith, is, ltb-false (length text) size tests.0)
              | inr is ↦ omega (arith, is, leb-false (size + 4) (length text) tests.1)
            ],
          ))
    ]

-- ---- Bodies

-- a BYE's, with room for its identifiers
goodbye_tested : (count : ℕ) (body : List ℕ) → length body % 4 ≡ 0 → 4 * count ≤ length body →
    (said : Result (Option (List ℕ)) FaultReason) → ReasonTested (drop (4 * count) body) said →
    BodyTested 203 count body (result_map (bye (ids_in count body)) said)
goodbye_tested count body words room (Ok reason) h = (
  ap (bye (ids_in count body)) h.0,
  elim (goodbye_from 203 count body refl words room) [ inl some ↦ some | inr bad ↦ absurd (h.1 bad) ],
)
goodbye_tested count body words room (Err fault) h =
    subst (λ (r : FaultReason). FindsInBody r 203 count body) (sym h.0) (refl, h.1)

-- that of a type which asks for so many octets
of_size : (kind count : ℕ) (body : List ℕ) (said : Result RtcpPacket FaultReason) →
    (least_size kind count ≤ length body → BodyTested kind count body said) →
    BodyTested kind count body (at_least (least_size kind count) body said)
of_size kind count body said tested =
    elim (cases_lt (length body) (least_size kind count)) [
      | inl few ↦ rw (lt-ltb (length body) (least_size kind count) few) (inl few)
      | inr room ↦ rw (le-ltb (length body) (least_size kind count) room) (tested room)
    ]

-- and no more
plain_tested : (kind count : ℕ) (body : List ℕ) → kind ≢ 202 → kind ≢ 203 →
    BodyTested kind count body (at_least (least_size kind count) body (Ok (body_says kind count body)))
plain_tested kind count body not_sdes not_bye = of_size kind count body (Ok (body_says kind count body))
    (λ room. (refl, plain_body kind count body room not_sdes not_bye))

-- The body of a packet is some packet's, or has the fault that is told.
pub body_tested : (kind count : ℕ) (body : List ℕ) → length body % 4 ≡ 0 →
    BodyTested kind count body (body_or_fault kind count body)
body_tested kind count body words =
    elim (cases_eq kind 200) [
      | inl is ↦ of_type 200 is (plain_tested 200 count body (omega arith) (omega arith))
      | inr not_sr ↦ elim (cases_eq kind 201) [
        | inl is ↦ of_type 201 is (plain_tested 201 count body (omega arith) (omega arith))
        | inr not_rr ↦ elim (cases_eq kind 202) [
          | inl is ↦ of_type 202 is (description_tested count body (chunks_or_fault count body)
              (chunks_tested count body count 0 body (omega arith) (no_chunk_taken body words)))
          | inr not_sdes ↦ elim (cases_eq kind 203) [
            | inl is ↦ of_type 203 is (of_size 203 count body _ (λ room. goodbye_tested count body words room
                (reason_or_fault (drop (4 * count) body)) (reason_tested (drop (4 * count) body))))
            | inr not_bye ↦ elim (cases_eq kind 204) [
              | inl is ↦ of_type 204 is (plain_tested 204 count body (omega arith) (omega arith))
              | inr not_app ↦ rw (
                ne_eqb kind 200 not_sr,
                ne_eqb kind 201 not_rr,
                ne_eqb kind 202 not_sdes,
                ne_eqb kind 203 not_bye,
                ne_eqb kind 204 not_app,
              )
                  (refl, other_body kind count body not_sr not_rr not_sdes not_bye not_app)
            ]
          ]
        ]
      ]
    ]
  where
    of_type : (own : ℕ) → kind ≡ own → BodyTested own count body (body_or_fault own count body) →
        BodyTested kind count body (body_or_fault kind count body)
    of_type own is tested = subst (λ (k : ℕ). BodyTested k count body (body_or_fault k count body)) (sym is) tested
