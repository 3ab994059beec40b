-- The part at an index: as many steps of a walk, and one more.
use Rattle.std.proofs.Common.{◌≡◌, ◌≢◌, ℕ, ◌+◌, ◌<◌, ◌≤◌, inl, true, List, [], Option, Some, None, Ok, flat_map, length, slice_get, drop, refl, sym, ap, subst, ◌∙◌, arith}
use Rattle.std.proofs.lemmas.List.{drop-drop, length-drop}
use Rattle.std.proofs.lemmas.Option.{slice_get_within}
use Rattle.rtcp_wire.specs.declared.fault.WireFault.{WireFault}
use Rattle.rtcp_wire.specs.Faults.{IsFirstFault}
use Rattle.rtcp_wire.specs.Grammar.{IsAccepted}
use Rattle.rtcp_wire.specs.Values.{RtcpPacket}
use Rattle.rtcp_parts.specs.declared.cursor.Cursor.{Cursor}
use Rattle.rtcp_parts.specs.Cursors.{IsBoundary, Leaves, begun_at, ended_at, is_within}
use Rattle.rtcp_parts.specs.Walks.{GivesAt, TakesNext}
use Rattle.rtcp_parts.proofs.Boundaries.{boundary_at_start}
use Rattle.rtcp_parts.proofs.Calls.{begun_first, left_at, rest_from, rest_none, same_first}

-- A walk over an accepted datagram has passed so many parts, and has the others left.
pub record HasStepped
    {Part : Type 0} (parts_of : RtcpPacket → List Part) (IsLeft : List ℕ → Cursor → List Part → Type 0)
    (Keeps : Type 0) (datagram : List ℕ) (steps : ℕ) (cursor : Cursor) : Type 0 where
  pub within : is_within (length datagram) cursor ≡ true
  pub begun : cursor.left ≢ 0 → cursor.next ≢ 0
  pub leaves : (packets : List RtcpPacket) → IsAccepted datagram packets
      → Leaves parts_of IsLeft datagram cursor (drop steps (flat_map parts_of packets))
  pub own : Keeps → (packets : List RtcpPacket) → IsAccepted datagram packets → IsBoundary datagram cursor.next

-- A walk that begins has passed none.
pub none_stepped : {Part : Type 0} {parts_of : RtcpPacket → List Part} {IsLeft : List ℕ → Cursor → List Part → Type 0}
    {Keeps : Type 0} {datagram : List ℕ} (was at : Cursor) → at ≡ begun_at (length datagram) was → was.next ≡ 0
    → HasStepped parts_of IsLeft Keeps datagram 0 at
none_stepped {parts_of} {IsLeft} {Keeps} {datagram} was at is zero =
    let first : at ≡ ended_at 0 = is ∙ begun_first (length datagram) was zero in
    subst (λ (c : Cursor). HasStepped parts_of IsLeft Keeps datagram 0 c) (sym first) (record {
      within = grind arith;
      begun = λ left. absurd (left refl);
      leaves = λ packets accepted.
          left_at packets datagram 0 was (ended_at 0) (sym (begun_first _ was zero)) accepted (inl (refl, zero));
      own = λ keeps. boundary_at_start datagram;
    })

-- Where a part is, more are left than none.
some_left : {Part : Type 0} (parts : List Part) (passed index : ℕ) (part : Part) → passed ≤ index
    → drop passed parts ≡ [] → slice_get parts index ≡ Some part → ⊥
some_left parts passed index part before none some =
    omega (arith, ap length none, length-drop passed parts, slice_get_within parts index part some, before)

module _ {Part Given : Type 0} {parts_of : RtcpPacket → List Part} {IsLeft : List ℕ → Cursor → List Part → Type 0}
    {Shows : Part → Given → Type 0} {Keeps : Type 0} {datagram : List ℕ} {was now : Cursor} {passed : ℕ}
    (h : HasStepped parts_of IsLeft Keeps datagram passed was)
  where
    -- A step that takes a part passes it.
    pub stepped : {taken : Option Given} (given : Given) → taken ≡ Some given → 0 < length datagram
        → TakesNext parts_of IsLeft Shows datagram was now taken
        → (Keeps → IsBoundary datagram was.next → IsBoundary datagram now.next)
        → HasStepped parts_of IsLeft Keeps datagram (passed + 1) now
    stepped {taken} given some octets takes stays = record {
      within = takes.within;
      begun = λ left. takes.begun octets;
      leaves = λ packets accepted.
          let parts : List Part = flat_map parts_of packets in
          let next = subst (λ (o : Option Given). TakesNext parts_of IsLeft Shows datagram was now o) some takes in
          let one = next.takes _ (h.leaves packets accepted) in
          subst (Leaves parts_of IsLeft datagram now) (sym (ap (drop 1) one.2) ∙ drop-drop 1 passed parts) one.4;
      own = λ keeps packets accepted. stays keeps (h.own keeps packets accepted);
    }

    -- Where none is left after so many, there is none at a later index.
    pub none_at : (index : ℕ) → passed ≤ index → ((fault : WireFault) → IsFirstFault datagram fault → ⊥)
        → TakesNext parts_of IsLeft Shows datagram was now None → GivesAt parts_of Shows datagram index (Ok None)
    none_at index before sound takes = record {
      found = λ packets part accepted at.
          absurd (some_left (flat_map parts_of packets) passed index part before
          (takes.takes _ (h.leaves packets accepted)).0 at);
      none = λ packets accepted at. refl;
      refused = λ fault is. absurd (sound fault is);
    }

    given_here : ((fault : WireFault) → IsFirstFault datagram fault → ⊥) → (taken : Option Given)
        → TakesNext parts_of IsLeft Shows datagram was now taken → GivesAt parts_of Shows datagram passed (Ok taken)
    given_here sound None takes = none_at passed (omega arith) sound takes
    given_here sound (Some given) takes = record {
      found = λ packets part accepted at.
          let one = takes.takes _ (h.leaves packets accepted) in
          let same = sym (rest_from (flat_map parts_of packets) passed part at) ∙ one.2 in
          (given, refl, subst (λ (p : Part). Shows p given) (sym (same_first _ _ _ _ same)) one.3);
      none = λ packets accepted at.
          let one = takes.takes _ (h.leaves packets accepted) in
          absurd (cc (sym (rest_none (flat_map parts_of packets) passed at) ∙ one.2));
      refused = λ fault is. absurd (sound fault is);
    }

    -- What is taken after so many is the part at that index.
    pub given_at : (index : ℕ) → passed ≡ index → ((fault : WireFault) → IsFirstFault datagram fault → ⊥)
        → (taken : Option Given) → TakesNext parts_of IsLeft Shows datagram was now taken
        → GivesAt parts_of Shows datagram index (Ok taken)
    given_at index there sound taken takes =
        subst (λ (n : ℕ). GivesAt parts_of Shows datagram n (Ok taken)) there (given_here sound taken takes)
