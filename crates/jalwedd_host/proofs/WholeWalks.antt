-- A walk that begins over an accepted datagram tells of all its parts.
use Rattle.std.proofs.Common.{◌≡◌, ℕ, ◌+◌, inl, List, [], ◌∷◌, Some, None, drop, flat_map, slice_get, refl, sym, subst}
use Rattle.rtcp_wire.specs.Grammar.{IsAccepted}
use Rattle.rtcp_wire.specs.Values.{RtcpPacket}
use Rattle.rtcp_parts.specs.declared.cursor.Cursor.{Cursor}
use Rattle.rtcp_parts.specs.Cursors.{HasPassed}
use Rattle.rtcp_parts.proofs.Calls.{rest_from, rest_none}
use Rattle.jalwedd_host.specs.Walks.{AreShown, Continues, ShowEach, ShowsAll, begins}

module _ {Part Place : Type 0} {parts_of : RtcpPacket → List Part} {IsLeft : List ℕ → Cursor → List Part → Type 0}
    {Shows : Place → Part → Type 0} (datagram : List ℕ) (packets : List RtcpPacket)
    (accepted : IsAccepted datagram packets) where
  -- A walk that has passed so many parts tells of the others.
  pub shows_from : (places : List Place) (index : ℕ) (was last end : Cursor) (before after : Place)
      → HasPassed parts_of IsLeft packets datagram index was → AreShown parts_of IsLeft Shows datagram was places last
      → Continues parts_of IsLeft Shows datagram last end 8 before after
      → ShowEach Shows places (drop index (flat_map parts_of packets))
  shows_from [] index was last end before after passed told ends =
      elim (slice_get (flat_map parts_of packets) index)
      as (λ r. slice_get (flat_map parts_of packets) index ≡ r
      → ShowEach Shows [] (drop index (flat_map parts_of packets))) [
        | None ↦ λ is. subst (ShowEach Shows []) (sym (rest_none (flat_map parts_of packets) index is)) (tt {0})
        | Some part ↦ λ is. absurd (cc (ends.found packets index part accepted
            (subst (HasPassed parts_of IsLeft packets datagram index) (sym told) passed) is).0)
      ] refl
  shows_from (place ∷ places) index was last end before after passed told ends =
      elim (slice_get (flat_map parts_of packets) index)
      as (λ r. slice_get (flat_map parts_of packets) index ≡ r
      → ShowEach Shows (place ∷ places) (drop index (flat_map parts_of packets))) [
        | None ↦ λ is. absurd (cc (told.2.none packets index accepted passed is).0)
        | Some part ↦ λ is.
            let found = told.2.found packets index part accepted passed is in
            subst (ShowEach Shows (place ∷ places)) (sym (rest_from (flat_map parts_of packets) index part is)) (
              found.1,
              shows_from places (index + 1) told.0 last end before after found.2 told.3 ends,
            )
      ] refl

pub shows_all : {Part Place : Type 0} (parts_of : RtcpPacket → List Part)
    (IsLeft : List ℕ → Cursor → List Part → Type 0) (Shows : List ℕ → Place → Part → Type 0)
    → ShowsAll parts_of IsLeft Shows
shows_all parts_of IsLeft Shows datagram packets places last end before after accepted told ends =
    shows_from datagram packets accepted places 0 begins last end before after (inl (refl, refl)) told ends
