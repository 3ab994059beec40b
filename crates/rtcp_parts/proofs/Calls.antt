-- A call of a walk, from where the walk stands and what its steps do.
use Rattle.std.proofs.Common.{◌≡◌, ◌≢◌, ℕ, zero, suc, ◌+◌, ◌<◌, ◌≤◌, ◌⊎◌, inl, inr, true, List, [], ◌∷◌, Option, Some, None, Result, Ok, Err, length, drop, flat_map, slice_get, refl, sym, ap, subst, ◌∙◌, arith}
use Rattle.std.proofs.lemmas.Bool.Decides.{nat_tests}
use Rattle.std.proofs.lemmas.List.{drop_more}
use Rattle.std.proofs.lemmas.Option.{get_or_from_slice_get, slice_get_within}
use Rattle.std.specs.Option.{IfSome, MatchOption}
use Rattle.std.specs.Result.{IfOk, IsOk}
use Rattle.rtcp_wire.specs.declared.fault.WireFault.{WireFault}
use Rattle.rtcp_wire.specs.Faults.{IsFirstFault}
use Rattle.rtcp_wire.specs.Grammar.{IsAccepted}
use Rattle.rtcp_wire.specs.Values.{RtcpPacket}
use Rattle.rtcp_parts.specs.declared.cursor.Cursor.{Cursor}
use Rattle.rtcp_parts.specs.Cursors.{HasPassed, Leaves, begun_at, ended_at, is_within, position}
use Rattle.rtcp_parts.specs.Walks.{Gives, HasNoneLeft, Readies, TakesHere, TakesNext, place_from}

-- ---- Where a walk begins

pub begun_first : (octets : ℕ) (was : Cursor) → was.next ≡ 0 → begun_at octets was ≡ ended_at 0
begun_first octets was first = grind (arith, nat_tests)

pub begun_later : (octets : ℕ) (was : Cursor) → was.next ≢ 0 → is_within octets was ≡ true → begun_at octets was ≡ was
begun_later octets was later within = grind (arith, nat_tests)

-- what a cursor within so many octets keeps
pub within_is : (octets : ℕ) (cursor : Cursor) → is_within octets cursor ≡ true
    → (cursor.place ≤ cursor.end) × (cursor.end ≤ cursor.next) × (cursor.next ≤ octets)
within_is octets cursor within = grind (arith, nat_tests)

pub is_within_by : (octets : ℕ) (cursor : Cursor) → cursor.place ≤ cursor.end → cursor.end ≤ cursor.next
    → cursor.next ≤ octets → is_within octets cursor ≡ true
is_within_by octets cursor h k l = grind (arith, nat_tests)

-- A walk within a datagram goes on from its place, or from after it.
pub place_within : (octets : ℕ) (cursor : Cursor) → is_within octets cursor ≡ true → cursor.place ≤ place_from cursor
place_within octets cursor within =
    let kept = within_is octets cursor within in
    grind (arith, nat_tests, kept.0, kept.1, kept.2)

pub ended_within : (octets : ℕ) (now : Cursor) → now ≡ ended_at octets → is_within octets now ≡ true
ended_within octets now is =
    ap (is_within octets) is ∙ is_within_by octets (ended_at octets) (omega arith) (omega arith) (omega arith)

-- ---- What is left to a walk that begins or goes on

module _ {Part : Type 0} {parts_of : RtcpPacket → List Part} {IsLeft : List ℕ → Cursor → List Part → Type 0}
  where
    -- A walk that has passed so many parts of an accepted datagram has the others left.
    pub left_at : (packets : List RtcpPacket) (datagram : List ℕ) (index : ℕ) (was at : Cursor)
        → at ≡ begun_at (length datagram) was → IsAccepted datagram packets
        → HasPassed parts_of IsLeft packets datagram index was
        → Leaves parts_of IsLeft datagram at (drop index (flat_map parts_of packets))
    left_at packets datagram index was at is accepted (inl first) =
        subst (λ (c : Cursor). Leaves parts_of IsLeft datagram c (drop index (flat_map parts_of packets)))
        (sym (is ∙ begun_first (length datagram) was first.1))
        (subst (λ (n : ℕ). Leaves parts_of IsLeft datagram (ended_at 0) (drop n (flat_map parts_of packets)))
        (sym first.0) (record {
          here = [];
          packets = packets;
          inside = inl (refl, refl);
          after = accepted.joined;
          all = refl;
        }))
    left_at packets datagram index was at is accepted (inr later) =
        subst (λ (c : Cursor). Leaves parts_of IsLeft datagram c (drop index (flat_map parts_of packets)))
        (sym (is ∙ begun_later (length datagram) was later.0 later.1)) later.2

-- An accepted datagram has octets.
pub some_octets : (datagram : List ℕ) (packets : List RtcpPacket) → IsAccepted datagram packets → 0 < length datagram
some_octets [] packets h = elim h.begins.0 [
  | inl sender ↦ absurd (cc sender)
  | inr receiver ↦ absurd (cc receiver)
]
some_octets (octet ∷ octets) packets h = omega arith

-- the rest of a list from an index on
pub rest_from : {A : Type 0} (xs : List A) (index : ℕ) (x : A) → slice_get xs index ≡ Some x
    → drop index xs ≡ x ∷ drop (index + 1) xs
rest_from {A = A} xs index x at =
    drop_more xs index x (slice_get_within xs index x at)
    ∙ ap (λ (v : A). v ∷ drop (index + 1) xs) (get_or_from_slice_get xs index x x at)

pub rest_none : {A : Type 0} (xs : List A) (index : ℕ) → slice_get xs index ≡ None → drop index xs ≡ []
rest_none [] zero at = refl
rest_none [] (suc index) at = refl
rest_none (x ∷ xs) zero at = absurd (cc at)
rest_none (x ∷ xs) (suc index) at = rest_none xs index at

-- Of two lists that are the same, the first elements and the rests are.
pub same_first : {A : Type 0} (x y : A) (xs ys : List A) → x ∷ xs ≡ y ∷ ys → x ≡ y
same_first x y xs ys h = cc h

same_rest : {A : Type 0} (x y : A) (xs ys : List A) → x ∷ xs ≡ y ∷ ys → xs ≡ ys
same_rest x y xs ys h = cc h

-- ---- A call

-- A walk that goes on from where it stands has passed more octets.
further_on : (octets : ℕ) (was at now : Cursor) → at ≡ begun_at octets was → is_within octets now ≡ true
    → place_from at < place_from now → (position was < position now) × (position now ≤ octets)
further_on octets was at now begun within further =
    let from : place_from at ≡ place_from (begun_at octets was) = ap place_from begun in
    let kept = within_is octets now within in
    (grind (arith, nat_tests, from, kept.0, kept.1, kept.2, further), grind (arith, nat_tests, kept.0, kept.1, kept.2))

module _ {Part Given : Type 0} {parts_of : RtcpPacket → List Part} {IsLeft : List ℕ → Cursor → List Part → Type 0}
    {Shows : Part → Given → Type 0} (datagram : List ℕ) (was at now : Cursor)
    (begun : at ≡ begun_at (length datagram) was)
  where
    -- The part that is given is the next one.
    found_by : (packets : List RtcpPacket) (index : ℕ) (part : Part) (given : Option Given)
        → IsAccepted datagram packets → HasPassed parts_of IsLeft packets datagram index was
        → slice_get (flat_map parts_of packets) index ≡ Some part
        → TakesNext parts_of IsLeft Shows datagram at now given
        → (one : Given) × (given ≡ Some one) × Shows part one
        × HasPassed parts_of IsLeft packets datagram (index + 1) now
    found_by packets index part None accepted passed is h =
        let left = left_at packets datagram index was at begun accepted passed in
        absurd (cc (sym (rest_from (flat_map parts_of packets) index part is) ∙ (h.takes _ left).0))
    found_by packets index part (Some one) accepted passed is h =
        let left = left_at packets datagram index was at begun accepted passed in
        let taken = h.takes _ left in
        let same = sym (rest_from (flat_map parts_of packets) index part is) ∙ taken.2 in (
          one,
          refl,
          subst (λ (p : Part). Shows p one) (sym (same_first _ _ _ _ same)) taken.3,
          inr (
            h.begun (some_octets datagram packets accepted),
            h.within,
            subst (Leaves parts_of IsLeft datagram now) (sym (same_rest _ _ _ _ same)) taken.4,
          ),
        )

    -- None is given where none is left.
    none_by : (packets : List RtcpPacket) (index : ℕ) (given : Option Given) → IsAccepted datagram packets
        → HasPassed parts_of IsLeft packets datagram index was → slice_get (flat_map parts_of packets) index ≡ None
        → TakesNext parts_of IsLeft Shows datagram at now given
        → (given ≡ None) × HasPassed parts_of IsLeft packets datagram index now
    none_by packets index None accepted passed is h =
        let left = left_at packets datagram index was at begun accepted passed in (
          refl,
          inr (
            h.begun (some_octets datagram packets accepted),
            h.within,
            subst (Leaves parts_of IsLeft datagram now) (sym (rest_none (flat_map parts_of packets) index is))
                (h.takes _ left).1,
          ),
        )
    none_by packets index (Some one) accepted passed is h =
        let left = left_at packets datagram index was at begun accepted passed in
        absurd (cc (sym (rest_none (flat_map parts_of packets) index is) ∙ (h.takes _ left).2))

    -- A part that is given takes the walk on.
    further_by : (given : Option Given) → TakesNext parts_of IsLeft Shows datagram at now given
        → IfSome given (λ part. (position was < position now) × (position now ≤ length datagram))
    further_by None h = tt
    further_by (Some one) h = further_on (length datagram) was at now begun h.within h.further

    -- What a call gives that does not refuse the datagram.
    pub gives : (given : Option Given) → ((fault : WireFault) → IsFirstFault datagram fault → was.next ≡ 0 → ⊥)
        → TakesNext parts_of IsLeft Shows datagram at now given
        → Gives parts_of IsLeft Shows datagram was now (Ok given)
    gives given sound h = record {
      found = λ packets index part accepted passed is.
          let found = found_by packets index part given accepted passed is h in
          (found.0, ap Ok found.1, found.2, found.3);
      none = λ packets index accepted passed is.
          let none = none_by packets index given accepted passed is h in
          (ap Ok none.0, none.1);
      refused = λ fault first begins. absurd (sound fault first begins);
      later = λ begun. refl;
      further = further_by given h;
    }

-- ---- A walk that stays in a packet

zero_or_more : (n : ℕ) → (n ≡ 0) ⊎ (n ≢ 0)
zero_or_more zero = inl refl
zero_or_more (suc n) = inr (λ none. absurd (omega (arith, none)))

module _ {Part Given : Type 0} {parts_of : RtcpPacket → List Part} {IsLeft : List ℕ → Cursor → List Part → Type 0}
    {Shows : Part → Given → Type 0} (datagram : List ℕ) (at ready now : Cursor)
    (started : at.left ≢ 0 → at.next ≢ 0) (readies : Readies parts_of IsLeft datagram at ready)
  where
    taken : (given : Option Given) → TakesHere parts_of IsLeft Shows HasNoneLeft datagram ready now given
        → (parts : List Part) → Leaves parts_of IsLeft datagram at parts
        → MatchOption given
        ((parts ≡ []) × Leaves parts_of IsLeft datagram now [])
        (λ one. (part : Part) × (others : List Part) × (parts ≡ part ∷ others) × Shows part one
        × Leaves parts_of IsLeft datagram now others)
    taken None takes parts leaves =
        let left = readies.leaves parts leaves in
        let empty : parts ≡ [] = left.1 (takes.takes parts left.0) in (
          empty,
          subst (λ (c : Cursor). Leaves parts_of IsLeft datagram c []) (sym (takes.none refl))
              (subst (Leaves parts_of IsLeft datagram ready) empty left.0),
        )
    taken (Some one) takes parts leaves = takes.takes parts (readies.leaves parts leaves).0

    on_from : (given : Option Given) → TakesHere parts_of IsLeft Shows HasNoneLeft datagram ready now given
        → IfSome given (λ part. place_from at < place_from now)
    on_from None takes = tt
    on_from (Some one) takes =
        let kept = within_is (length datagram) now takes.within in
        elim (zero_or_more at.left) [
          | inl none ↦
              let further = readies.further none takes.further.0 in
              grind (arith, nat_tests, none, further, takes.further.1, kept.0, kept.1)
          | inr some ↦
              let same = ap (λ (c : Cursor). c.place) (readies.kept some) in
              grind (arith, nat_tests, some, same, takes.further.1, kept.0, kept.1)
        ]

    begun_now : (given : Option Given) → TakesHere parts_of IsLeft Shows HasNoneLeft datagram ready now given
        → 0 < length datagram → now.next ≢ 0
    begun_now given takes octets first =
        let kept = within_is (length datagram) ready readies.within in
        let next : ready.next ≡ 0 = sym takes.next ∙ first in
        elim (zero_or_more at.left) [
          | inr some ↦
              let same = ap (λ (c : Cursor). c.next) (readies.kept some) in
              started some (sym same ∙ next)
          | inl none ↦ elim (zero_or_more ready.left) [
            | inl last ↦ absurd (omega (arith, readies.ended none last, next, octets))
            | inr some ↦ absurd (omega (arith, readies.further none some, kept.0, kept.1, next))
          ]
        ]

    -- It takes the next part.
    pub ready_takes : (given : Option Given) → TakesHere parts_of IsLeft Shows HasNoneLeft datagram ready now given
        → TakesNext parts_of IsLeft Shows datagram at now given
    ready_takes given takes = record {
      takes = taken given takes;
      within = takes.within;
      further = on_from given takes;
      begun = begun_now given takes;
    }

-- A walk takes none where none is left of its packet, and stays.
pub none_taken : {Part Given : Type 0} {parts_of : RtcpPacket → List Part}
    {IsLeft : List ℕ → Cursor → List Part → Type 0} {Shows : Part → Given → Type 0} {IsSpent : List ℕ → Cursor → Type 0}
    (datagram : List ℕ) (was : Cursor) (result : Option Given) → is_within (length datagram) was ≡ true → result ≡ None
    → ((parts : List Part) → Leaves parts_of IsLeft datagram was parts → IsSpent datagram was)
    → TakesHere parts_of IsLeft Shows IsSpent datagram was was result
none_taken datagram was None within is spent = record {
  takes = spent;
  none = λ none. refl;
  within = within;
  next = refl;
  further = tt {0};
}
none_taken datagram was (Some one) within is spent = absurd cc

-- What a call gives that refuses the datagram.
pub refuses : {Part Given : Type 0} {parts_of : RtcpPacket → List Part} {IsLeft : List ℕ → Cursor → List Part → Type 0}
    {Shows : Part → Given → Type 0} (datagram : List ℕ) (was : Cursor) (result : Result (Option Given) WireFault)
    → ((packets : List RtcpPacket) → IsAccepted datagram packets → ⊥)
    → ((fault : WireFault) → IsFirstFault datagram fault → was.next ≡ 0 → result ≡ Err fault)
    → (was.next ≢ 0 → IsOk result)
    → IfOk result (λ given. IfSome given (λ part. (position was < position was) × (position was ≤ length datagram)))
    → Gives parts_of IsLeft Shows datagram was was result
refuses datagram was result never first later further = record {
  found = λ packets index part accepted passed is. absurd (never packets accepted);
  none = λ packets index accepted passed is. absurd (never packets accepted);
  refused = λ fault is begins. (first fault is begins, refl);
  later = later;
  further = further;
}
