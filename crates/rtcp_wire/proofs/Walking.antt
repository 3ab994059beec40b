-- Packets that are passed one after the other, to the datagram's end or to its first fault: a lemma for each step of
-- the tests.
use Rattle.std.proofs.Common.{◌≡◌, ◌≢◌, ℕ, ◌-◌, ◌≤◌, ◌⊎◌, ◌==◌, true, List, [], ◌∷◌, ◌++◌, length, refl, sym, ap, subst, ◌∙◌, append_assoc, append-nil, arith, inl, inr}
use Rattle.std.proofs.lemmas.Bool.{eq-eqb}
use Rattle.std.proofs.lemmas.List.{nil_from_length}
use Rattle.rtcp_wire.specs.declared.fault.FaultReason.{FaultReason}
use Rattle.rtcp_wire.specs.Values.{RtcpPacket}
use Rattle.rtcp_wire.specs.Grammar.{IsSpelling, MayBegin}
use Rattle.rtcp_wire.specs.Faults.{IsFirstFound, IsFirstFault}
use Rattle.rtcp_wire.specs.Validity.{IsSomeDatagram}
use Rattle.rtcp_wire.proofs.Joining.{Joins-push}
use Rattle.rtcp_wire.proofs.Prefixes.{cons_not_nil, length_parts}
use Rattle.rtcp_wire.proofs.Spellings.{same_header, spelling_length}
use Rattle.rtcp_wire.proofs.Stops.{finds_no_spelling, begins_on}
use Rattle.rtcp_wire.proofs.Refusals.{IsBefore, packets_before}
use Rattle.rtcp_wire.proofs.PacketOrFault.{TakesPacket}

-- Packets were passed up to what is left, and something is left to read.
pub record HasPassed (datagram left : List ℕ) : Type 0 where
  pub prefix : List ℕ
  pub short : length datagram ≤ 65535
  pub parts : datagram ≡ prefix ++ left
  pub before : IsBefore prefix
  pub more : (left ≢ []) ⊎ (datagram ≡ [])

-- at the start
pub none_passed : (datagram : List ℕ) → length datagram ≤ 65535 → HasPassed datagram datagram
none_passed datagram short = record {
  prefix = [];
  short = short;
  parts = refl;
  before = inl refl;
  more = some_or_none datagram;
}
  where
    some_or_none : (octets : List ℕ) → (octets ≢ []) ⊎ (octets ≡ [])
    some_or_none [] = inr refl
    some_or_none (o ∷ octets) = inl (cons_not_nil o octets)

-- A prefix with one packet more may begin a datagram.
longer_begins : (prefix : List ℕ) (p : RtcpPacket) (s : List ℕ) → IsBefore prefix → IsSpelling p s →
    ((length prefix == 0) ≡ true → MayBegin s) → MayBegin (prefix ++ s)
longer_begins prefix p s (inl none) h may = subst (λ (t : List ℕ). MayBegin (t ++ s)) (sym none)
    (may (eq-eqb (length prefix) 0 (ap length none)))
longer_begins prefix p s (inr ([], accepted)) h may = subst (λ (t : List ℕ). MayBegin (t ++ s)) (sym accepted.joined)
    (may (eq-eqb (length prefix) 0 (ap length accepted.joined)))
longer_begins prefix p s (inr (q ∷ packets, accepted)) h may =
    let enough : 4 ≤ length prefix =
    omega (
      arith,
      length_parts prefix accepted.joined.0 accepted.joined.1 accepted.joined.2,
      spelling_length q accepted.joined.0 accepted.joined.3,
    ) in
    begins_on prefix (prefix ++ s) (same_header prefix s enough) accepted.begins

module _ (datagram old : List ℕ) (place : ℕ) (h : HasPassed datagram old)
    (is : place ≡ length datagram - length old) where
  -- where the next packet begins
  place_is : place ≡ length h.prefix
  place_is = omega (arith, is, length_parts datagram h.prefix old h.parts)

  -- The next packet's fault is the datagram's first.
  pub stops_next : (reason : FaultReason) → IsFirstFound reason (place == 0) old →
      IsFirstFault datagram (record { reason = reason; place = place })
  stops_next reason first =
      let here : IsFirstFound reason (length h.prefix == 0) old = subst (λ (n : ℕ). IsFirstFound reason (n == 0) old)
      place_is first in
      inr (record {
        short = h.short;
        prefix = h.prefix;
        rest = old;
        parts = h.parts;
        place = place_is;
        before = h.before;
        more = h.more;
        unreadable = finds_no_spelling reason (length h.prefix == 0) old here.found;
        first = here;
      })

  module _ (new : List ℕ) (taken : TakesPacket (place == 0) old new) where
    -- the prefix with the packet that was taken
    abbrev longer : List ℕ
    longer = h.prefix ++ taken.0

    parts_of : datagram ≡ longer ++ new
    parts_of = h.parts ∙ ap (λ (t : List ℕ). h.prefix ++ t) taken.1 ∙ sym (append_assoc h.prefix taken.0 new)

    accepted : IsSomeDatagram longer
    accepted =
        let so_far = packets_before h.prefix h.before in (
          so_far.0 ++ taken.2.0.0 ∷ [],
          record {
            short = omega (arith, h.short, length_parts datagram longer new parts_of);
            begins = longer_begins h.prefix taken.2.0.0 taken.0 h.before taken.2.0.1
                (λ is_first. taken.2.1 (subst (λ (n : ℕ). (n == 0) ≡ true) (sym place_is) is_first));
            joined = Joins-push IsSpelling so_far.0 taken.2.0.0 h.prefix taken.0 so_far.1 taken.2.0.1;
          },
        )

    -- one packet more, where octets are left after it
    pub passed_more : length new ≢ 0 → HasPassed datagram new
    passed_more left = record {
      prefix = longer;
      short = h.short;
      parts = parts_of;
      before = inr accepted;
      more = inl (λ none. left (ap length none));
    }

    -- one packet more, to the end
    pub passed_all : length new ≡ 0 → IsSomeDatagram datagram
    passed_all none =
        let whole : datagram ≡ longer = parts_of ∙ ap (λ (t : List ℕ). longer ++ t) (nil_from_length new none)
        ∙ append-nil longer in
        subst IsSomeDatagram (sym whole) accepted
