-- What a walk reads first, and what it reads after that.
use Rattle.std.proofs.Common.{◌≡◌, ℕ, suc, ◌*◌, ◌/◌, ◌≤◌, List, [], ◌∷◌, length, take, drop, refl, sym, ap, ◌∙◌, append-nil, arith}
use Rattle.std.proofs.lemmas.List.{take-append-drop, length-drop, length-take-le}
use Rattle.byteorder.specs.Endian.{big_number}
use Rattle.rtcp_wire.specs.Readings.{block_in, values_in}
use Rattle.rtcp_wire.specs.Walks.{blocks_in, ids_in}
use Rattle.rtcp_wire.specs.RtpHeads.{csrcs_in}
use Rattle.rtcp_wire.specs.Views.{block_values, id_values}
use Rattle.rtcp_wire.proofs.Fixed.{fixed_from, big_number-take}
use Rattle.rtcp_wire.proofs.ReadingWalks.{values_read}

-- ---- Blocks and identifiers

pub blocks_step : (octets : List ℕ) → 24 ≤ length octets →
    block_values octets ≡ block_in (take 24 octets) ∷ block_values (drop 24 octets)
blocks_step octets room =
    let one_more : length octets / 24 ≡ suc (length (drop 24 octets) / 24) =
    omega (arith, room, length-drop 24 octets) in
    ap (λ (n : ℕ). blocks_in n octets) one_more

pub ids_step : (octets : List ℕ) → 4 ≤ length octets → id_values octets ≡ big_number 4 octets ∷ id_values
    (drop 4 octets)
ids_step octets room =
    let one_more : length octets / 4 ≡ suc (length (drop 4 octets) / 4) = omega (arith, room, length-drop 4 octets) in
    ap (λ (n : ℕ). ids_in n octets) one_more
    ∙ ap (λ (id : ℕ). id ∷ id_values (drop 4 octets)) (big_number-take octets)

-- So many values are read of their own octets alone.
module _ {A : Type 0} (size count : ℕ) (value : List ℕ → A) (octets : List ℕ)
    (room : size * count ≤ length octets) where
  own_values : values_in size value count (take (size * count) octets) ≡ values_in size value count octets
  own_values =
      let own = take (size * count) octets in
      let rest = drop (size * count) octets in
      let found = fixed_from size value count own (length-take-le (size * count) octets room) in
      let alone : values_in size value count own ≡ found.0 =
      (λ i. values_in size value (sym found.1 i) (sym (append-nil own) i))
      ∙ values_read size value found.0 own [] found.2 in
      let whole : values_in size value count octets ≡ found.0 =
      (λ i. values_in size value (sym found.1 i) (sym (take-append-drop (size * count) octets) i))
      ∙ values_read size value found.0 own rest found.2 in
      alone ∙ sym whole

pub own_blocks : (count : ℕ) (octets : List ℕ) → 24 * count ≤ length octets →
    block_values (take (24 * count) octets) ≡ blocks_in count octets
own_blocks count octets room =
    let size = length-take-le (24 * count) octets room in
    let counted : length (take (24 * count) octets) / 24 ≡ count = omega (arith, size) in
    ap (λ (n : ℕ). blocks_in n (take (24 * count) octets)) counted ∙ own_values 24 count block_in octets room

pub own_ids : (count : ℕ) (octets : List ℕ) → 4 * count ≤ length octets →
    id_values (take (4 * count) octets) ≡ ids_in count octets
own_ids count octets room =
    let size = length-take-le (4 * count) octets room in
    let counted : length (take (4 * count) octets) / 4 ≡ count = omega (arith, size) in
    ap (λ (n : ℕ). ids_in n (take (4 * count) octets)) counted ∙ own_values 4 count (big_number 4) octets room

-- The identifiers of an RTP packet's sources are read as those of a BYE are.
pub csrcs_are_ids : (octets : List ℕ) → csrcs_in octets ≡ id_values octets
csrcs_are_ids [] = refl
csrcs_are_ids (a ∷ []) = refl
csrcs_are_ids (a ∷ b ∷ []) = refl
csrcs_are_ids (a ∷ b ∷ c ∷ []) = refl
csrcs_are_ids (a ∷ b ∷ c ∷ d ∷ rest) =
    ap (λ (ids : List ℕ). big_number 4 (a ∷ b ∷ c ∷ d ∷ []) ∷ ids) (csrcs_are_ids rest)
    ∙ sym (ids_step (a ∷ b ∷ c ∷ d ∷ rest) (omega arith))
