-- A body of whole words is some packet's, or the test of a reason finds a fault in it: a lemma for each type but a
-- source description.
use Rattle.std.proofs.Common.{◌≡◌, ◌≢◌, ℕ, ◌+◌, ◌-◌, ◌*◌, ◌%◌, ◌≤◌, ◌⊎◌, List, [], ◌∷◌, ◌++◌, length, take, drop, Some, None, Result, Ok, Err, MatchResult, refl, sym, ap, subst, ◌∙◌, arith, inl, inr}
use Rattle.std.proofs.lemmas.Bool.{cases_lt, cases_eq}
use Rattle.std.proofs.lemmas.List.{take-append-drop, length-drop, length-take-le}
use Rattle.byteorder.specs.Endian.{big_number}
use Rattle.rtcp_wire.specs.declared.fault.FaultReason.{FaultReason}
use Rattle.rtcp_wire.specs.declared.fault.FaultReason.TheVariants.{Reason}
use Rattle.rtcp_wire.specs.Values.{ReportBlock, sr, rr, bye, app, other}
use Rattle.rtcp_wire.specs.Grammar.{IsReportEnd, IsOtherType}
use Rattle.rtcp_wire.specs.Readings.{block_in, sender_in}
use Rattle.rtcp_wire.specs.Faults.{least_size, IsNoReason, FindsInBody}
use Rattle.rtcp_wire.specs.Validity.{IsSomeReason, IsSomeBody}
use Rattle.rtcp_wire.proofs.Fixed.{fixed_from}

-- ---- Reports

-- With room for the blocks that are counted, octets are these and an extension.
report_end_from : (count : ℕ) (octets : List ℕ) → 24 * count ≤ length octets →
    (blocks : List ReportBlock) × (extension : List ℕ) × IsReportEnd blocks extension count octets
report_end_from count octets room =
    let size : ℕ = 24 * count in
    let blocks = fixed_from 24 block_in count (take size octets) (length-take-le size octets room) in (
      blocks.0,
      drop size octets,
      record {
        reports = take size octets;
        parts = sym (take-append-drop size octets);
        counted = blocks.1;
        each = blocks.2;
      },
    )

-- With room for its sender too, a body is a sender report.
sender_from : (count : ℕ) (body : List ℕ) → 24 + 24 * count ≤ length body → IsSomeBody 200 count body
sender_from count body room =
    let ends = report_end_from count (drop 24 body) (omega (arith, length-drop 24 body)) in (
      sr (sender_in (take 24 body)) ends.0 ends.1,
      (
        refl,
        record {
          prefix = take 24 body;
          rest = drop 24 body;
          parts = sym (take-append-drop 24 body);
          prefix_size =
              length-take-le 24 body (omega arith);
          says = refl;
          ends = ends.2;
        },
      ),
    )

-- With room for an identifier, it is a receiver report.
report_from : (count : ℕ) (body : List ℕ) → 4 + 24 * count ≤ length body → IsSomeBody 201 count body
report_from count body room =
    let ends = report_end_from count (drop 4 body) (omega (arith, length-drop 4 body)) in (
      rr (big_number 4 (take 4 body)) ends.0 ends.1,
      (
        refl,
        record {
          id = take 4 body;
          rest = drop 4 body;
          parts = sym (take-append-drop 4 body);
          sender = (length-take-le 4 body (omega arith), refl);
          ends = ends.2;
        },
      ),
    )

-- ---- BYEs

-- Whole words are a reason or none, or they are no reason.
reason_from : (octets : List ℕ) → length octets % 4 ≡ 0 → IsSomeReason octets ⊎ IsNoReason octets
reason_from [] whole = inl (None, refl)
reason_from (size ∷ text) whole =
    elim (cases_lt (length text) size) [
      | inl few ↦ inr (inl few)
      | inr enough ↦ elim (cases_lt (length text) (size + 4)) [
        | inr more ↦ inr (inr more)
        | inl fits ↦ (let len : length (take size text) ≡ size = length-take-le size text enough in
            inl (
              Some (take size text),
              record {
                free = drop size text;
                parts = ap (λ (t : List ℕ). size ∷ t) (sym (take-append-drop size text))
                    ∙ ap (λ (n : ℕ). n ∷ (take size text ++ drop size text)) (sym len);
                fill = omega (arith, length-drop size text);
                aligned = whole;
              },
            ))
      ]
    ]

-- What whole words leave of whole words is whole words.
rest_is_whole : (n count rest : ℕ) → n % 4 ≡ 0 → rest ≡ n - 4 * count → 4 * count ≤ n → rest % 4 ≡ 0
rest_is_whole n count rest whole e room = omega arith

-- ---- Applications

-- With room for an identifier and a name a body is an application's packet.
application_from : (count : ℕ) (body : List ℕ) → 8 ≤ length body → IsSomeBody 204 count body
application_from count body room =
    let rest : List ℕ = drop 4 body in (
      app count (big_number 4 (take 4 body)) (take 4 rest) (drop 4 rest),
      (
        refl,
        refl,
        record {
          id = take 4 body;
          parts = sym (take-append-drop 4 body) ∙ ap (λ (t : List ℕ). take 4 body ++ t) (sym (take-append-drop 4 rest));
          source = (length-take-le 4 body (omega arith), refl);
          name_size = length-take-le 4 rest (omega (arith, length-drop 4 body));
        },
      ),
    )

-- ---- Bodies

-- at the type that it has
at_type : (own kind count : ℕ) (body : List ℕ) → kind ≡ own → least_size kind count ≤ length body →
    (least_size own count ≤ length body → IsSomeBody own count body) → IsSomeBody kind count body
at_type own kind count body is room from = subst (λ (k : ℕ). IsSomeBody k count body) (sym is)
    (from (subst (λ (k : ℕ). least_size k count ≤ length body) is room))

-- Five types are looked into.
other_type : (kind : ℕ) → kind ≢ 200 → kind ≢ 201 → kind ≢ 202 → kind ≢ 203 → kind ≢ 204 → IsOtherType kind
other_type kind not_sr not_rr not_sdes not_bye not_app = elim (cases_lt kind 200) [
  | inl below ↦ inl below
  | inr above ↦ inr (omega arith)
]

-- Any body of another type is some packet's.
pub other_body : (kind count : ℕ) (body : List ℕ) → kind ≢ 200 → kind ≢ 201 → kind ≢ 202 → kind ≢ 203 → kind ≢ 204 →
    IsSomeBody kind count body
other_body kind count body not_sr not_rr not_sdes not_bye not_app =
    (other kind count body, (other_type kind not_sr not_rr not_sdes not_bye not_app, refl, refl, refl))

-- With the octets that its type asks for, no chunks and no reason, a body is some packet's.
pub plain_body : (kind count : ℕ) (body : List ℕ) → least_size kind count ≤ length body → kind ≢ 202 → kind ≢ 203 →
    IsSomeBody kind count body
plain_body kind count body room not_sdes not_bye =
    elim (cases_eq kind 200) [
      | inl is ↦ at_type 200 kind count body is room (sender_from count body)
      | inr not_sr ↦ elim (cases_eq kind 201) [
        | inl is ↦ at_type 201 kind count body is room (report_from count body)
        | inr not_rr ↦ elim (cases_eq kind 204) [
          | inl is ↦ at_type 204 kind count body is room (application_from count body)
          | inr not_app ↦ other_body kind count body not_sr not_rr not_sdes not_bye not_app
        ]
      ]
    ]

-- With room for its identifiers a BYE's body is some packet's, or what follows them is no reason.
pub goodbye_from : (kind count : ℕ) (body : List ℕ) → kind ≡ 203 → length body % 4 ≡ 0 →
    least_size kind count ≤ length body → IsSomeBody kind count body ⊎ IsNoReason (drop (4 * count) body)
goodbye_from kind count body is words room =
    let size : ℕ = 4 * count in
    let enough : size ≤ length body = subst (λ (k : ℕ). least_size k count ≤ length body) is room in
    let ids = fixed_from 4 (big_number 4) count (take size body) (length-take-le size body enough) in
    elim (reason_from (drop size body)
    (rest_is_whole (length body) count (length (drop size body)) words (length-drop size body) enough)) [
      | inr bad ↦ inr bad
      | inl said ↦ inl (
        bye ids.0 said.0,
        (
          is,
          record {
            prefix = take size body;
            rest = drop size body;
            parts = sym (take-append-drop size body);
            counted = ids.1;
            each = ids.2;
            ends = said.1;
          },
        ),
      )
    ]

-- where its reason was tested
pub goodbye_checked : (kind count : ℕ) (body rest : List ℕ) (tested : Result Unit FaultReason) → kind ≡ 203 →
    length body % 4 ≡ 0 → least_size kind count ≤ length body → rest ≡ drop (4 * count) body
    → MatchResult tested (λ _. IsNoReason rest → ⊥) (λ reason. (reason ≡ Reason) × IsNoReason rest)
    → MatchResult tested (λ _. IsSomeBody kind count body) (λ reason. FindsInBody reason kind count body)
goodbye_checked kind count body rest (Ok done) is words room following good =
    elim (goodbye_from kind count body is words room) [
      | inl some ↦ some
      | inr bad ↦ absurd (good (subst IsNoReason (sym following) bad))
    ]
goodbye_checked kind count body rest (Err found) is words room following bad =
    subst (λ (r : FaultReason). FindsInBody r kind count body) (sym bad.0) (is, subst IsNoReason following bad.1)
