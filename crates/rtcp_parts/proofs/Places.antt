-- Where parts stand in a whole.
use Rattle.std.proofs.Common.{◌≡◌, ℕ, ◌+◌, ◌≤◌, List, ◌++◌, length, take, drop, sym, ap, ◌∙◌, append_assoc, arith}
use Rattle.std.proofs.lemmas.List.{length-append, take-append-drop, length-take-le}
use Rattle.rtcp_wire.specs.Placed.{StandsIn}

-- So many octets, after some others.
pub taken_stands : (before size : ℕ) (octets : List ℕ) → before ≤ length octets →
    StandsIn before (take size (drop before octets)) octets
taken_stands before size octets room = record {
  before = take before octets;
  after = drop size (drop before octets);
  parts = sym (take-append-drop before octets) ∙ ap (λ (t : List ℕ). take before octets ++ t)
      (sym (take-append-drop size (drop before octets)));
  counted = length-take-le before octets room;
}

-- A part of a part stands in the whole.
pub stands_within : (p q place : ℕ) (part middle whole : List ℕ) → StandsIn p part middle → StandsIn q middle whole →
    place ≡ p + q → StandsIn place part whole
stands_within p q place part middle whole h k is =
    let inner : middle ++ k.after ≡ h.before ++ (part ++ (h.after ++ k.after)) =
    ap (λ (t : List ℕ). t ++ k.after) h.parts ∙ append_assoc h.before (part ++ h.after) k.after
    ∙ ap (λ (t : List ℕ). h.before ++ t) (append_assoc part h.after k.after) in
    record {
      before = k.before ++ h.before;
      after = h.after ++ k.after;
      parts = k.parts ∙ ap (λ (t : List ℕ). k.before ++ t) inner
          ∙ sym (append_assoc k.before h.before (part ++ (h.after ++ k.after)));
      counted = omega (arith, length-append k.before h.before, h.counted, k.counted, is);
    }
