-- Parts put one after the other, or one before another, are put together.
use Rattle.std.proofs.Common.{◌≡◌, ℕ, ◌+◌, ◌-◌, ◌/◌, ◌<◌, ◌≤◌, ◌≤ℤ◌, ◌*◌, ◌%◌, ℤ, pos, negsuc, List, [], ◌∷◌, ◌++◌, length, take, drop, replicate, sym, ap, ◌∙◌, append_assoc, arith}
use Rattle.std.specs.Int.{w32, w64, cast_unsigned}
use Rattle.std.proofs.lemmas.Int.{ints}
use Rattle.std.proofs.lemmas.List.{length-append, length-take, length-drop, take-append-drop, take-take, take_at, take-append-le, drop_at, drop-drop, drop-append-le, drop-replicate, length-replicate}
use Rattle.std.proofs.lemmas.Slice.{drop-append-drop}
use Rattle.byteorder.specs.Endian.{big_bytes, low_bytes}
use Rattle.rtcp_wire.specs.Puts.{IsPut}
use Rattle.rtcp_wire.specs.Writing.{written_word}

-- ---- One part

-- The number of octets stays.
pub same_length : {old new part : List ℕ} {at end : ℕ} → IsPut old new at part end → length new ≡ length old
same_length {old} {new} {part} {at} {end} put =
    omega (
      arith,
      ap (λ (o : List ℕ). length o) put.octets,
      length-append (take at old) (part ++ drop end old),
      length-append part (drop end old),
      length-take at old,
      length-drop end old,
    )

-- What stands before the part is as it was,
before_part : {old new part : List ℕ} {at end : ℕ} → IsPut old new at part end → (n : ℕ) → n ≤ at →
    take n new ≡ take n old
before_part {old} {new} {part} {at} {end} put n within =
    ap (take n) put.octets
    ∙ take-append-le n (take at old) (part ++ drop end old) (omega (arith, length-take at old))
    ∙ take-take n at old within

-- from its place on the part and what stood after it,
from_part : {old new part : List ℕ} {at end : ℕ} → IsPut old new at part end → drop at new ≡ part ++ drop end old
from_part {old} {new} {part} {at} {end} put =
    ap (drop at) put.octets ∙ drop_at (take at old) (part ++ drop end old) at (omega (arith, length-take at old))

-- up to its end what stood before it and the part,
up_to_part : {old new part : List ℕ} {at end : ℕ} → IsPut old new at part end → take end new ≡ take at old ++ part
up_to_part {old} {new} {part} {at} {end} put =
    ap (take end) (put.octets ∙ sym (append_assoc (take at old) part (drop end old)))
    ∙ take_at (take at old ++ part) (drop end old) end
    (omega (arith, length-append (take at old) part, length-take at old))

-- and what stands after it is as it was.
pub after_part : {old new part : List ℕ} {at end : ℕ} → IsPut old new at part end → (n : ℕ) → end ≤ n →
    drop n new ≡ drop n old
after_part {old} {new} {part} {at} {end} put n beyond =
    ap (drop n) (put.octets ∙ sym (append_assoc (take at old) part (drop end old)))
    ∙ drop-append-drop end old (take at old ++ part) n beyond
    (omega (arith, length-append (take at old) part, length-take at old))

-- Octets that begin with a part.
pub part_at_start : {old new part : List ℕ} {end : ℕ} → IsPut old new 0 part end → take end new ≡ part
part_at_start {old} {new} {part} {end} put = up_to_part put

-- An empty part changes nothing.
pub nothing_put : (octets : List ℕ) (at : ℕ) → at ≤ length octets → IsPut octets octets at [] at
nothing_put octets at within =
    record { ends = omega arith; room = within; octets = sym (take-append-drop at octets) }

-- ---- Two parts

pub put_after : {old mid new first second : List ℕ} {at seam end : ℕ} → IsPut old mid at first seam →
    IsPut mid new seam second end → IsPut old new at (first ++ second) end
put_after {old} {mid} {new} {first} {second} {at} {seam} {end} one two =
    let same : length mid ≡ length old = same_length one in
    let beyond : seam ≤ end = omega (arith, two.ends) in
    record {
      ends = omega (arith, one.ends, two.ends, length-append first second);
      room = omega (arith, two.room, same);
      octets = two.octets
          ∙ (λ i. up_to_part one i ++ (second ++ after_part one end beyond i))
          ∙ append_assoc (take at old) first (second ++ drop end old)
          ∙ ap (λ (o : List ℕ). take at old ++ o) (sym (append_assoc first second (drop end old)));
    }

pub put_before : {old mid new first second : List ℕ} {at seam end : ℕ} → IsPut old mid seam second end →
    IsPut mid new at first seam → IsPut old new at (first ++ second) end
put_before {old} {mid} {new} {first} {second} {at} {seam} {end} two one =
    let within : at ≤ seam = omega (arith, one.ends) in
    record {
      ends = omega (arith, one.ends, two.ends, length-append first second);
      room = two.room;
      octets = one.octets
          ∙ (λ i. before_part two at within i ++ (first ++ from_part two i))
          ∙ ap (λ (o : List ℕ). take at old ++ o) (sym (append_assoc first second (drop end old)));
    }

-- ---- A word of zeros, and a part that ends in it

zeros_dropped : (n : ℕ) (rest : List ℕ) → n ≤ 4 → drop n (0 ∷ 0 ∷ 0 ∷ 0 ∷ rest) ≡ replicate (4 - n) 0 ++ rest
zeros_dropped n rest few =
    drop-append-le n (replicate 4 0) rest few ∙ ap (λ (zeros : List ℕ). zeros ++ rest) (drop-replicate n 4 0)

zeros_from : {old mid : List ℕ} {last end : ℕ} → IsPut old mid last (0 ∷ 0 ∷ 0 ∷ 0 ∷ []) end → (n : ℕ) →
    last ≤ n → n < end → drop n mid ≡ replicate (end - n) 0 ++ drop end old
zeros_from {old} {mid} {last} {end} zeros n from within =
    let place : last + (n - last) ≡ n = omega arith in
    let count : 4 - (n - last) ≡ end - n = omega (arith, zeros.ends) in
    ap (λ (k : ℕ). drop k mid) (sym place) ∙ sym (drop-drop (n - last) last mid)
    ∙ ap (drop (n - last)) (from_part zeros)
    ∙ zeros_dropped (n - last) (drop end old) (omega (arith, zeros.ends))
    ∙ ap (λ (k : ℕ). replicate k 0 ++ drop end old) count

-- The zeros after the part fill the word.
pub put_filled : {old mid new part : List ℕ} {at last stop end : ℕ} →
    IsPut old mid last (0 ∷ 0 ∷ 0 ∷ 0 ∷ []) end → IsPut mid new at part stop → at ≤ last → last ≤ stop → stop < end →
    IsPut old new at (part ++ replicate (end - stop) 0) end
put_filled {old} {mid} {new} {part} {at} {last} {stop} {end} zeros put within from short =
    record {
      ends = omega (
        arith,
        put.ends,
        length-append part (replicate (end - stop) 0),
        length-replicate {A = ℕ} (end - stop) 0,
      );
      room = zeros.room;
      octets = put.octets
          ∙ (λ i. before_part zeros at within i ++ (part ++ zeros_from zeros stop from short i))
          ∙ ap (λ (o : List ℕ). take at old ++ o) (sym (append_assoc part (replicate (end - stop) 0) (drop end old)));
    }

-- ---- The word of a block that says the packets lost

low_alike : (lost : ℤ) → negsuc 2147483647 ≤ℤ lost → cast_unsigned w32 lost % 16777216 ≡ low_bytes w64 3 lost
low_alike (pos n) least = omega arith
low_alike (negsuc n) least =
    let few : n ≤ 2147483647 = omega (arith, ints) in
    omega arith

split_word : (fraction low : ℕ) → fraction < 256 → low < 16777216 →
    written_word (fraction * 16777216 + low) ≡ fraction ∷ big_bytes 3 low
split_word fraction low few small =
    let whole : ℕ = fraction * 16777216 + low in
    let first : whole / 16777216 % 256 ≡ fraction = omega arith in
    let second : whole / 65536 % 256 ≡ low / 65536 % 256 = omega arith in
    let third : whole / 256 % 256 ≡ low / 256 % 256 = omega arith in
    let last : whole % 256 ≡ low % 256 = omega arith in
    λ i. first i ∷ second i ∷ third i ∷ last i ∷ []

-- The fraction stands before the packets lost.
pub lost_word : (fraction high low : ℕ) (lost : ℤ) → fraction < 256 → negsuc 2147483647 ≤ℤ lost →
    high ≡ fraction → low ≡ cast_unsigned w32 lost →
    written_word (high * 16777216 + low % 16777216) ≡ fraction ∷ big_bytes 3 (low_bytes w64 3 lost)
lost_word fraction high low lost few least same_high same_low =
    (λ i. written_word (same_high i * 16777216 + same_low i % 16777216))
    ∙ ap (λ (n : ℕ). written_word (fraction * 16777216 + n)) (low_alike lost least)
    ∙ split_word fraction (low_bytes w64 3 lost) few (omega arith)
