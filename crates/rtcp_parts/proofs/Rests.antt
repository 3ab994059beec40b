-- What is left of the packet that a walk is in.
use Rattle.std.proofs.Common.{◌≡◌, ℕ, ◌+◌, true, List, ◌++◌, length, take, drop, sym, ap, ◌∙◌, append_assoc, arith}
use Rattle.std.proofs.lemmas.List.{drop-drop, length-drop, length-take-le, take-append-drop}
use Rattle.rtcp_wire.specs.Placed.{StandsIn}
use Rattle.rtcp_parts.specs.declared.cursor.Cursor.{Cursor}
use Rattle.rtcp_parts.specs.Cursors.{is_within, rest_of}
use Rattle.rtcp_parts.proofs.Calls.{within_is}

-- It reaches from the place of the walk to the padding.
pub rest_size : (datagram : List ℕ) (cursor : Cursor) → is_within (length datagram) cursor ≡ true →
    length (rest_of datagram cursor) + cursor.place ≡ cursor.end
rest_size datagram cursor h =
    let w = within_is (length datagram) cursor h in
    let first : length (take cursor.end datagram) ≡ cursor.end =
    length-take-le cursor.end datagram (omega (arith, w.1, w.2)) in
    omega (arith, length-drop cursor.place (take cursor.end datagram), first, w.0)

-- It stands where the walk is.
pub rest_stands : (datagram : List ℕ) (cursor : Cursor) → is_within (length datagram) cursor ≡ true →
    StandsIn cursor.place (rest_of datagram cursor) datagram
rest_stands datagram cursor h =
    let w = within_is (length datagram) cursor h in
    let all : List ℕ = take cursor.end datagram in
    let first : length all ≡ cursor.end = length-take-le cursor.end datagram (omega (arith, w.1, w.2)) in
    record {
      before = take cursor.place all;
      after = drop cursor.end datagram;
      parts =
          sym (take-append-drop cursor.end datagram)
          ∙ ap (λ (t : List ℕ). t ++ drop cursor.end datagram) (sym (take-append-drop cursor.place all))
          ∙ append_assoc (take cursor.place all) (drop cursor.place all) (drop cursor.end datagram);
      counted = length-take-le cursor.place all (omega (arith, first, w.0));
    }

-- A walk that goes on by so many octets leaves what follows these.
pub rest_further : (datagram : List ℕ) (was now : Cursor) (octets : ℕ) → now.place ≡ was.place + octets →
    now.end ≡ was.end → rest_of datagram now ≡ drop octets (rest_of datagram was)
rest_further datagram was now octets place end =
    (λ i. drop (place i) (take (end i) datagram)) ∙ sym (drop-drop octets was.place (take was.end datagram))
