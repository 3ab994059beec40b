-- Worked examples: what the definitions say of datagrams that are written out, octet by octet.
use Rattle.std.proofs.Common.{◌≡◌, ◌≢◌, ℕ, ◌≤◌, Bool, true, false, List, [], ◌∷◌, ◌++◌, length, Option, None, refl, sym, ap, ◌∙◌, arith, inl, inr}
use Rattle.byteorder.specs.Endian.{big_number}
use Rattle.rtcp_wire.specs.declared.fault.FaultReason.{FaultReason}
use Rattle.rtcp_wire.specs.declared.fault.FaultReason.TheVariants.{Short, FirstPadding, Length, Body, Item}
use Rattle.rtcp_wire.specs.Values.{ItemValue, ChunkValue, RtcpPacket, rr, sdes, bye}
use Rattle.rtcp_wire.specs.Grammar.{IsReasonPart, IsGoodbye, IsBody, IsSpelling, MayBegin, IsAccepted}
use Rattle.rtcp_wire.specs.Readings.{size_of}
use Rattle.rtcp_wire.specs.Headers.{version_of, is_padded, count_of, type_of, body_of}
use Rattle.rtcp_wire.specs.Faults.{EndsInsideChunk, FindsInBody, IsFirstFound, IsFirstFault}
use Rattle.rtcp_wire.specs.Parts.{IsWhole}
use Rattle.rtcp_wire.proofs.Joining.{Joins-one}
use Rattle.rtcp_wire.proofs.Prefixes.{cons_not_nil}
use Rattle.rtcp_wire.proofs.Spellings.{own, is_own}
use Rattle.rtcp_wire.proofs.PacketOrFault.{none_at_first, not_both_bits, before_first_padding, before_length, HasBody, body_found}
use Rattle.rtcp_wire.proofs.Walking.{HasPassed, none_passed, stops_next}

-- A bit that is clear isn't set.
pub differs : false ≡ true → ⊥
differs e = absurd cc

-- A packet without padding is spelled as its body is.
pub unpadded : (p : RtcpPacket) (octets : List ℕ) → version_of octets ≡ 2 → length octets ≡ size_of octets →
    is_padded octets ≡ false → IsBody p (type_of octets) (count_of octets) (body_of octets) → IsSpelling p octets
unpadded p octets version size clear body =
    record { version = version; size = size; padding = λ set. absurd (differs (sym clear ∙ set)); body = body }

-- An empty receiver report spells its source, which may be any number.
pub empty_spelled : (last : ℕ) → IsSpelling (rr (big_number 4 (0 ∷ 0 ∷ 0 ∷ last ∷ [])) [] [])
    (128 ∷ 201 ∷ 0 ∷ 1 ∷ 0 ∷ 0 ∷ 0 ∷ last ∷ [])
empty_spelled last =
    let id : List ℕ = 0 ∷ 0 ∷ 0 ∷ last ∷ [] in
    unpadded (rr (big_number 4 id) [] []) (128 ∷ 201 ∷ 0 ∷ 1 ∷ id) refl refl refl (
      refl,
      record {
        id = id;
        rest = [];
        parts = refl;
        sender = (refl, refl);
        ends = record { reports = []; parts = refl; counted = refl; each = refl };
      },
    )

-- A BYE of source 7 has a reason where one follows the identifier.
pub of_seven : (reason : Option (List ℕ)) (rest : List ℕ) → IsReasonPart reason rest →
    IsGoodbye (7 ∷ []) reason 1 (0 ∷ 0 ∷ 0 ∷ 7 ∷ rest)
of_seven reason rest ends = record {
  prefix = 0 ∷ 0 ∷ 0 ∷ 7 ∷ [];
  rest = rest;
  parts = refl;
  counted = refl;
  each = (0 ∷ 0 ∷ 0 ∷ 7 ∷ [], [], refl, (refl, refl), refl);
  ends = ends;
}

-- A packet that may be the first is accepted alone.
pub alone_accepted : (p : RtcpPacket) (octets : List ℕ) → IsSpelling p octets → length octets ≤ 65535 →
    MayBegin octets → IsAccepted octets (p ∷ [])
alone_accepted p octets spelled short begins =
    record { short = short; begins = begins; joined = Joins-one IsSpelling p octets spelled }

-- ---- Packets

-- an empty receiver report of source 7
abbrev pub report : List ℕ
report = 128 ∷ 201 ∷ 0 ∷ 1 ∷ 0 ∷ 0 ∷ 0 ∷ 7 ∷ []

-- It spells itself.
pub report_spelled : IsSpelling (rr 7 [] []) report
report_spelled = empty_spelled 7

-- a description of source 7 with one item, the name "a"
abbrev description : List ℕ
description = 129 ∷ 202 ∷ 0 ∷ 2 ∷ 0 ∷ 0 ∷ 0 ∷ 7 ∷ 1 ∷ 1 ∷ 97 ∷ 0 ∷ []

-- its item
abbrev name : ItemValue
name = record { kind = 1; text = 97 ∷ [] }

-- its chunk
abbrev source : ChunkValue
source = record { id = 7; items = name ∷ [] }

-- The octets spell them.
pub description_spelled : IsSpelling (sdes (source ∷ [])) description
description_spelled = unpadded (sdes (source ∷ [])) description refl refl refl (
  refl,
  refl,
  (
    0 ∷ 0 ∷ 0 ∷ 7 ∷ 1 ∷ 1 ∷ 97 ∷ 0 ∷ [],
    [],
    refl,
    record {
      id = 0 ∷ 0 ∷ 0 ∷ 7 ∷ [];
      items = 1 ∷ 1 ∷ 97 ∷ [];
      free = [];
      parts = refl;
      id_size = refl;
      source = refl;
      each = (1 ∷ 1 ∷ 97 ∷ [], [], refl, (λ e. absurd (omega arith), refl), refl);
      fill = omega arith;
      aligned = refl;
    },
    refl,
  ),
)

-- a BYE of source 7 with four octets of padding
abbrev pub padded : List ℕ
padded = 161 ∷ 203 ∷ 0 ∷ 2 ∷ 0 ∷ 0 ∷ 0 ∷ 7 ∷ 0 ∷ 0 ∷ 0 ∷ 4 ∷ []

-- Its padding is no part of its body.
pub padded_spelled : IsSpelling (bye (7 ∷ []) None) padded
padded_spelled = record {
  version = refl;
  size = refl;
  padding = λ set. (λ e. absurd (omega arith), refl, omega arith);
  body = (refl, of_seven None [] refl);
}

-- ---- Datagrams that are accepted

-- 80c9000100000007
pub report_accepted : IsAccepted report (rr 7 [] [] ∷ [])
report_accepted = alone_accepted (rr 7 [] []) report report_spelled (omega arith) (inr refl, refl)

-- A packet after 80c9000100000007 is accepted.
pub after_accepted : (p : RtcpPacket) (octets : List ℕ) → IsSpelling p octets → length (report ++ octets) ≤ 65535 →
    IsAccepted (report ++ octets) (rr 7 [] [] ∷ p ∷ [])
after_accepted p octets spelled short = record {
  short = short;
  begins = (inr refl, refl);
  joined = (report, octets, refl, report_spelled, Joins-one IsSpelling p octets spelled);
}

-- 80c9000100000007 81ca0002 00000007 01016100
pub description_accepted : IsAccepted (report ++ description) (rr 7 [] [] ∷ sdes (source ∷ []) ∷ [])
description_accepted = after_accepted (sdes (source ∷ [])) description description_spelled (omega arith)

-- 80c9000100000007 a1cb0002 00000007 00000004
pub padded_accepted : IsAccepted (report ++ padded) (rr 7 [] [] ∷ bye (7 ∷ []) None ∷ [])
padded_accepted = after_accepted (bye (7 ∷ []) None) padded padded_spelled (omega arith)

-- ---- Datagrams that are refused

-- The report is passed.
pub after_report : (octets : List ℕ) → octets ≢ [] → length (report ++ octets) ≤ 65535 →
    HasPassed (report ++ octets) octets
after_report octets some short =
    record {
      prefix = report;
      short = short;
      parts = refl;
      before = inr (rr 7 [] [] ∷ [], report_accepted);
      more = inl some;
    }

-- the datagram of no octets
pub nothing_refused : IsFirstFault [] (record { reason = Short; place = 0 })
nothing_refused = stops_next [] [] 0 (none_passed [] (omega arith)) refl Short
    (record { found = omega arith; no_earlier = none_at_first true [] })

-- 80c9000100000007 81ca0002 00000007 01016100 00
pub one_octet_more_refused : IsFirstFault (report ++ description ++ 0 ∷ []) (record { reason = Short; place = 20 })
one_octet_more_refused =
    stops_next (report ++ description ++ 0 ∷ []) (0 ∷ []) 20
    (record {
      prefix = report ++ description;
      short = omega arith;
      parts = refl;
      before = inr (rr 7 [] [] ∷ sdes (source ∷ []) ∷ [], description_accepted);
      more = inl (cons_not_nil 0 []);
    })
    refl Short (record { found = omega arith; no_earlier = none_at_first false (0 ∷ []) })

-- a0c90002 00000007 00000004
abbrev padded_first : List ℕ
padded_first = 160 ∷ 201 ∷ 0 ∷ 2 ∷ 0 ∷ 0 ∷ 0 ∷ 7 ∷ 0 ∷ 0 ∷ 0 ∷ 4 ∷ []

-- A first packet is not padded.
pub padded_first_refused : IsFirstFault padded_first (record { reason = FirstPadding; place = 0 })
padded_first_refused =
    stops_next padded_first padded_first 0 (none_passed padded_first (omega arith)) refl FirstPadding
    (record {
      found = (refl, refl);
      no_earlier = before_first_padding true padded_first (omega arith) refl
          (λ e. inr refl);
    })

-- 80c90001000000
abbrev cut_off : List ℕ
cut_off = 128 ∷ 201 ∷ 0 ∷ 1 ∷ 0 ∷ 0 ∷ 0 ∷ []

-- Seven octets are no packet of eight.
pub cut_off_refused : IsFirstFault cut_off (record { reason = Length; place = 0 })
cut_off_refused =
    stops_next cut_off cut_off 0 (none_passed cut_off (omega arith)) refl Length
    (record { found = omega arith; no_earlier = before_length true cut_off (omega arith) refl (λ e. (inr refl, refl)) })

-- What is found in the body of a whole packet without padding is found first.
pub first_found : (reason : FaultReason) (first : Bool) (octets : List ℕ) → IsWhole first octets →
    is_padded octets ≡ false → FindsInBody reason (type_of octets) (count_of octets) (body_of octets) →
    IsFirstFound reason first octets
first_found reason first octets good unpadded found =
    let padded = (is_own octets good.size).parts.header.padded in
    let has : HasBody first octets (body_of (own octets)) (type_of octets) (count_of octets) =
    record {
      good = good;
      unpadded =
          (refl, λ set. absurd (not_both_bits (is_padded (own octets)) set (sym padded ∙ unpadded)));
      kind_is = refl;
      count_is = refl;
    } in
    body_found first octets (body_of (own octets)) (type_of octets) (count_of octets) has reason found

-- 81c9000100000007
abbrev no_block : List ℕ
no_block = 129 ∷ 201 ∷ 0 ∷ 1 ∷ 0 ∷ 0 ∷ 0 ∷ 7 ∷ []

-- A report that counts one block has it.
pub no_block_refused : IsFirstFault no_block (record { reason = Body; place = 0 })
no_block_refused =
    stops_next no_block no_block 0 (none_passed no_block (omega arith)) refl Body
    (first_found Body true no_block
    (record { header = omega arith; version = refl; size = omega arith; may_stand = λ e. (inr refl, refl) }) refl
    (inl (omega arith)))

-- a description whose one item says five octets of text, and has two
abbrev long_item : List ℕ
long_item = 129 ∷ 202 ∷ 0 ∷ 2 ∷ 0 ∷ 0 ∷ 0 ∷ 7 ∷ 1 ∷ 5 ∷ 97 ∷ 0 ∷ []

-- Its body ends inside the item.
ends_inside : EndsInsideChunk 1 (0 ∷ 0 ∷ 0 ∷ 7 ∷ 1 ∷ 5 ∷ 97 ∷ 0 ∷ [])
ends_inside = record {
  chunks = [];
  items = [];
  prefix = [];
  id = 0 ∷ 0 ∷ 0 ∷ 7 ∷ [];
  middle = [];
  cut = 1 ∷ 5 ∷ 97 ∷ 0 ∷ [];
  parts = refl;
  each = refl;
  expected = omega arith;
  id_size = refl;
  each_item = refl;
  ends = (λ e. absurd (omega arith), omega arith);
}

-- A whole packet may stand after the first.
pub later : (octets : List ℕ) → 4 ≤ length octets → version_of octets ≡ 2 → size_of octets ≤ length octets →
    IsWhole false octets
later octets enough version room =
    record { header = enough; version = version; size = room; may_stand = λ e. absurd (differs e) }

-- What is found in the body of a packet after the report is the first fault.
pub refused_later : (reason : FaultReason) (octets : List ℕ) → 4 ≤ length octets →
    length (report ++ octets) ≤ 65535 → version_of octets ≡ 2 → size_of octets ≤ length octets →
    is_padded octets ≡ false → FindsInBody reason (type_of octets) (count_of octets) (body_of octets) →
    IsFirstFault (report ++ octets) (record { reason = reason; place = 8 })
refused_later reason octets enough short version room clear found =
    let some : octets ≢ [] = λ none. omega (arith, enough, length_is none) in
    stops_next (report ++ octets) octets 8 (after_report octets some short) (omega arith) reason
    (first_found reason false octets (later octets enough version room) clear found)
  where
    length_is : octets ≡ [] → length octets ≡ 0
    length_is none = ap length none

-- 80c9000100000007 81ca0002 00000007 01056100
pub long_item_refused : IsFirstFault (report ++ long_item) (record { reason = Item; place = 8 })
long_item_refused =
    refused_later Item long_item (omega arith) (omega arith) refl (omega arith) refl (refl, ends_inside)
