-- The sources of BYEs that a walk takes: a lemma for each step.
use Rattle.std.proofs.Common.{◌≡◌, ◌≢◌, ℕ, zero, suc, ◌+◌, ◌-◌, ◌*◌, ◌<◌, ◌≤◌, true, List, [], ◌∷◌, ◌++◌, length, take, drop, flat_map, Option, Some, None, refl, sym, ap, subst, ◌∙◌, append_assoc, append-nil, arith, inl, inr}
use Rattle.std.proofs.lemmas.List.{drop_at, take-append-drop, take_at}
use Rattle.byteorder.specs.Endian.{big_number}
use Rattle.rtcp_wire.specs.Contents.{goodbyes_by, packet_goodbyes}
use Rattle.rtcp_wire.specs.Grammar.{Joins, IsBody, IsId, IsReasonPart, IsSpelling}
use Rattle.rtcp_parts.specs.Placed.{MaySpan, span_at}
use Rattle.rtcp_wire.specs.Placed.{StandsIn}
use Rattle.rtcp_wire.specs.Values.{RtcpPacket, bye, other}
use Rattle.rtcp_parts.specs.declared.placed.Span.{Span}
use Rattle.rtcp_parts.proofs.Places.{stands_within}
use Rattle.rtcp_wire.proofs.Prefixes.{length_parts}
use Rattle.rtcp_parts.specs.declared.cursor.Cursor.{Cursor}
use Rattle.rtcp_parts.specs.declared.packet.Packet.{Packet}
use Rattle.rtcp_parts.specs.declared.packet.Wanted.{Wanted}
use Rattle.rtcp_parts.specs.Cursors.{Leaves, LeavesGoodbyes, LeavesHere, is_within, rest_of}
use Rattle.rtcp_parts.specs.Walks.{IsPlaced, IsUnwanted}
use Rattle.rtcp_parts.proofs.Entering.{left_inside}
use Rattle.rtcp_parts.proofs.OctetParts.{word_first}
use Rattle.rtcp_parts.proofs.Rests.{rest_further, rest_size, rest_stands}

-- ---- BYEs

-- BYEs that name at least one source
abbrev pub with_sources : Wanted
with_sources = record { first = 203; last = 203; least = 1 }

no_sources : (ids : List ℕ) → (1 ≤ length ids → ⊥) → ids ≡ []
no_sources [] none = refl
no_sources (id ∷ ids) none = absurd (none (omega arith))

-- A packet of another type, or without sources.
pub none_in : (packet : RtcpPacket) → IsUnwanted with_sources packet → packet_goodbyes packet ≡ []
none_in (bye ids reason) h =
    ap (λ (ns : List ℕ). packet_goodbyes (bye ns reason))
    (no_sources ids (λ some. h.4 (omega (arith, h.3.0), omega (arith, h.3.0), omega (arith, some, h.3.1.counted))))
none_in packet h = refl

-- The walk is at the first source of a BYE.
pub at_first_source : (datagram : List ℕ) (packet : Packet) (now : Cursor) (from : ℕ) (value : RtcpPacket)
    → IsPlaced datagram from packet → now.place ≡ packet.place → now.end ≡ packet.place + length packet.body.now
    → now.left ≡ packet.count → IsBody value packet.kind packet.count packet.body.now → packet.kind ≡ 203
    → LeavesGoodbyes datagram now (packet_goodbyes value)
at_first_source datagram packet now from (bye ids reason) placed place end left h kind = record {
  ids = ids;
  reason = reason;
  octets = h.1.prefix;
  ends = h.1.rest;
  stand =
      ap (λ (n : ℕ). drop now.place (take n datagram)) end
      ∙ ap (λ (n : ℕ). drop n (take (packet.place + length packet.body.now) datagram)) place ∙ sym placed.body
      ∙ h.1.parts;
  each = h.1.each;
  counted = h.1.counted ∙ sym left;
  because = h.1.ends;
  here = refl;
}
at_first_source datagram packet now from (other its_kind its_count its_body) placed place end left h kind =
    absurd (omega (arith, h.0, kind))
at_first_source datagram packet now from value placed place end left h kind = absurd (omega (arith, kind, h.0))

-- ---- A source

-- A source is next, and the reason of its packet.
pub record FirstSource
    (datagram : List ℕ) (was : Cursor) (parts : List (ℕ × Option (List ℕ))) (ids ends : List ℕ) : Type 0 where
  pub id : ℕ
  pub reason : Option (List ℕ)
  pub others : List (ℕ × Option (List ℕ))
  pub because : IsReasonPart reason ends
  pub first : parts ≡ (id, reason) ∷ others
  pub says : big_number 4 ids ≡ id
  pub leaves : (now : Cursor) → now.place ≡ was.place + 4 → now.end ≡ was.end → now.left ≡ was.left - 1 →
      LeavesGoodbyes datagram now others

ids_length : (ids octets : List ℕ) → Joins IsId ids octets → length octets ≡ 4 * length ids
ids_length [] octets h = omega (arith, ap length h)
ids_length (id ∷ ids) octets h = omega (arith, length_parts octets h.0 h.1 h.2, h.3.0, ids_length ids h.1 h.4)

pub first_source : (datagram : List ℕ) (was : Cursor) (parts : List (ℕ × Option (List ℕ))) (rest ids ends : List ℕ) →
    LeavesGoodbyes datagram was parts → 0 < was.left → rest ≡ rest_of datagram was → ids ≡ take (4 * was.left) rest
    → ends ≡ drop (4 * was.left) rest → FirstSource datagram was parts ids ends
first_source datagram was parts rest ids ends h some rest_is ids_are ends_are = first h.ids h.each h.counted h.here
  where
    size : length h.octets ≡ 4 * was.left
    size = ids_length h.ids h.octets h.each ∙ ap (λ (n : ℕ). 4 * n) h.counted

    own : ids ≡ h.octets
    own = ids_are ∙ ap (take (4 * was.left)) (rest_is ∙ h.stand) ∙ take_at h.octets h.ends (4 * was.left) size

    last : ends ≡ h.ends
    last = ends_are ∙ ap (drop (4 * was.left)) (rest_is ∙ h.stand) ∙ drop_at h.octets h.ends (4 * was.left) size

    first : (all : List ℕ) (each : Joins IsId all h.octets) → length all ≡ was.left → parts ≡ goodbyes_by h.reason all →
        FirstSource datagram was parts ids ends
    first [] each counted here = absurd (omega (arith, counted, some))
    first (id ∷ all) each counted here =
        let whole : rest_of datagram was ≡ each.0 ++ (each.1 ++ h.ends) =
        h.stand ∙ ap (λ (t : List ℕ). t ++ h.ends) each.2 ∙ append_assoc each.0 each.1 h.ends in
        record {
          id = id;
          reason = h.reason;
          others = goodbyes_by h.reason all;
          because = subst (IsReasonPart h.reason) (sym last) h.because;
          first = here;
          says =
              ap (big_number 4) (own ∙ each.2)
              ∙ word_first each.0 each.1 (omega (arith, each.3.0)) ∙ sym each.3.1;
          leaves = λ now place end left. record {
            ids = all;
            reason = h.reason;
            octets = each.1;
            ends = h.ends;
            stand =
                rest_further datagram was now 4 place end ∙ ap (drop 4) whole
                ∙ drop_at each.0 (each.1 ++ h.ends) 4 each.3.0;
            each = each.4;
            counted = omega (arith, counted, left);
            because = h.because;
            here = refl;
          };
        }

-- Where no source is left, nothing is.
none_left : (ids : List ℕ) (reason : Option (List ℕ)) (parts : List (ℕ × Option (List ℕ))) → length ids ≡ 0 →
    parts ≡ goodbyes_by reason ids → parts ≡ []
none_left [] reason parts counted here = here
none_left (id ∷ ids) reason parts counted here = absurd (omega arith)

left_here : (datagram : List ℕ) (now : Cursor) (parts : List (ℕ × Option (List ℕ))) → LeavesGoodbyes datagram now parts
    → (left : ℕ) → now.left ≡ left → LeavesHere LeavesGoodbyes datagram now parts
left_here datagram now parts h zero is = inl (
  is,
  none_left h.ids h.reason parts (h.counted ∙ is) h.here,
)
left_here datagram now parts h (suc left) is = inr (omega (arith, is), h)

-- The reason stands after the octet that says its size.
pub reason_stands : (before : ℕ) (reason : Option (List ℕ)) (ends datagram : List ℕ) → IsReasonPart reason ends →
    StandsIn before ends datagram → MaySpan (span_at (before + 1) reason) reason datagram
reason_stands before None ends datagram h stands = tt {0}
reason_stands before (Some text) ends datagram h stands = (
  stands_within 1 before (before + 1) text ends datagram
      (record { before = length text ∷ []; after = h.free; parts = h.parts; counted = refl }) stands (omega arith),
  refl,
)

-- The walk takes it.
module _ (datagram : List ℕ) (was : Cursor) (parts : List (ℕ × Option (List ℕ))) (rest ids ends : List ℕ)
    (within : is_within (length datagram) was ≡ true) (in_packet : was.left ≢ 0) (rest_is : rest ≡ rest_of datagram was)
    (h : Leaves packet_goodbyes LeavesGoodbyes datagram was parts) where
  inside : LeavesGoodbyes datagram was h.here
  inside = left_inside datagram was parts h in_packet

  -- As many identifiers as are left fit.
  pub sources_fit : 4 * was.left ≤ length rest
  sources_fit =
      omega (
        arith,
        length_parts rest inside.octets inside.ends (rest_is ∙ inside.stand),
        ids_length inside.ids inside.octets inside.each,
        inside.counted,
      )

  pub source_taken : (now : Cursor) (ssrc : ℕ) (span : Option Span) (before : ℕ) → ids ≡ take (4 * was.left) rest
      → ends ≡ drop (4 * was.left) rest → before + length ends ≡ was.end → ssrc ≡ big_number 4 ids
      → ((reason : Option (List ℕ)) → IsReasonPart reason ends → span ≡ span_at (before + 1) reason)
      → now.place ≡ was.place + 4 → now.end ≡ was.end → now.left ≡ was.left - 1 → now.next ≡ was.next
      → (part : ℕ × Option (List ℕ)) × (others : List (ℕ × Option (List ℕ))) × (parts ≡ part ∷ others)
      × ((ssrc ≡ part.0) × MaySpan span part.1 datagram)
      × Leaves packet_goodbyes LeavesGoodbyes datagram now others
  source_taken now ssrc span before ids_are ends_are counted says reason place end left next =
      let some : 0 < was.left = omega (arith, in_packet) in
      let first = first_source datagram was h.here rest ids ends inside some rest_is ids_are ends_are in
      let parted : rest_of datagram was ≡ ids ++ ends =
      sym rest_is ∙ sym (take-append-drop (4 * was.left) rest) ∙ (λ i. sym ids_are i ++ sym ends_are i) in
      let in_rest : StandsIn (length ids) ends (rest_of datagram was) = record {
        before = ids;
        after = [];
        parts = parted ∙ ap (λ (t : List ℕ). ids ++ t) (sym (append-nil ends));
        counted = refl;
      } in
      let stands : StandsIn before ends datagram =
      stands_within (length ids) was.place before ends (rest_of datagram was) datagram in_rest
      (rest_stands datagram was within)
      (omega (arith, rest_size datagram was within, length_parts (rest_of datagram was) ids ends parted, counted)) in (
        (first.id, first.reason),
        first.others ++ flat_map packet_goodbyes h.packets,
        h.all ∙ ap (λ (t : List (ℕ × Option (List ℕ))). t ++ flat_map packet_goodbyes h.packets) first.first,
        (
          says ∙ first.says,
          subst (λ (given : Option Span). MaySpan given first.reason datagram) (sym (reason first.reason first.because))
              (reason_stands before first.reason ends datagram first.because stands),
        ),
        record {
          here = first.others;
          packets = h.packets;
          inside = left_here datagram now first.others (first.leaves now place end left) now.left refl;
          after = subst (λ (n : ℕ). Joins IsSpelling h.packets (drop n datagram)) (sym next) h.after;
          all = refl;
        },
      )
