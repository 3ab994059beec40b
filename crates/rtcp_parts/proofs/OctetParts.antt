-- Parts of parts of octets.
use Rattle.std.proofs.Common.{◌≡◌, ℕ, ◌+◌, ◌-◌, ◌≤◌, List, ◌++◌, length, take, drop, sym, ap, ◌∙◌, arith}
use Rattle.std.proofs.lemmas.List.{drop-drop, drop-take, get_or_append_left, length-drop, length-take, length-take-le, take-append-drop, take_min, take-take}
use Rattle.byteorder.specs.Endian.{big_number}
use Rattle.rtcp_wire.specs.Readings.{size_of}
use Rattle.rtcp_wire.specs.Headers.{body_of, padding_of}
use Rattle.rtcp_wire.specs.Placed.{StandsIn}

-- So many octets, after some, of octets that stand in others.
pub part_of_part : (octets : List ℕ) (at size before count : ℕ) → before + count ≤ size →
    take count (drop before (take size (drop at octets))) ≡ drop (at + before) (take (at + before + count) octets)
part_of_part octets at size before count room =
    let rest : List ℕ = drop at octets in
    let size_is : size ≡ before + (size - before) = omega (arith, room) in
    ap (λ (n : ℕ). take count (drop before (take n rest))) size_is
    ∙ ap (take count) (drop-take before (size - before) rest)
    ∙ take-take count (size - before) (drop before rest) (omega (arith, room))
    ∙ ap (take count) (drop-drop before at octets)
    ∙ sym (drop-take (at + before) count octets)

-- What stands first in the octets after some.
pub first_stands : (octets a r : List ℕ) (at : ℕ) → at ≤ length octets → drop at octets ≡ a ++ r → StandsIn at a octets
first_stands octets a r at room is = record {
  before = take at octets;
  after = r;
  parts = sym (take-append-drop at octets) ∙ ap (λ (t : List ℕ). take at octets ++ t) is;
  counted = length-take-le at octets room;
}

-- What is a prefix is as many octets as it has.
pub own_length : (count : ℕ) (part octets : List ℕ) → part ≡ take count octets → part ≡ take (length part) octets
own_length count part octets is =
    is ∙ sym (take_min count octets)
    ∙ ap (λ (n : ℕ). take n octets) (sym (ap length is ∙ length-take count octets))

-- The body of the packet that stands after so many octets, without its padding.
pub body_placed : (datagram : List ℕ) (at : ℕ) (rest octets body : List ℕ) → at ≤ length datagram
    → rest ≡ drop at datagram → octets ≡ take (size_of rest) rest → body ≡ body_of octets
    → 4 ≤ length rest → size_of rest ≤ length rest
    → (length body + 4 ≤ size_of rest) × (body ≡ drop (at + 4) (take (at + 4 + length body) datagram))
body_placed datagram at rest octets body room rest_is own is begun whole =
    let size : length octets ≡ size_of rest = ap length own ∙ length-take-le (size_of rest) rest whole in
    let few : length body ≤ length octets - 4 =
    omega (
      arith,
      ap length is,
      length-take (size_of octets - 4 - padding_of octets) (drop 4 octets),
      length-drop 4 octets,
    ) in
    let fits : length body + 4 ≤ size_of rest = omega (arith, few, size) in
    let taken : body ≡ take (length body) (drop 4 octets) =
    own_length (size_of octets - 4 - padding_of octets) body (drop 4 octets) is in (
      fits,
      taken
          ∙ ap (λ (t : List ℕ). take (length body) (drop 4 t)) (own ∙ ap (take (size_of rest)) rest_is)
          ∙ part_of_part datagram at (size_of rest) 4 (length body) (omega (arith, fits)),
    )

-- The number that the first word says, whatever follows it.
pub word_first : (x y : List ℕ) → 4 ≤ length x → big_number 4 (x ++ y) ≡ big_number 4 x
word_first x y room =
    omega (
      arith,
      get_or_append_left x y 0 0 (omega (arith, room)),
      get_or_append_left x y 0 1 (omega (arith, room)),
      get_or_append_left x y 0 2 (omega (arith, room)),
      get_or_append_left x y 0 3 (omega (arith, room)),
    )
