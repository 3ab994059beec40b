-- Items that are read one after the other, of octets that begin with items and the zero octet after them.
use Rattle.std.proofs.Common.{◌≡◌, ◌≢◌, ℕ, ◌+◌, ◌≤◌, List, [], ◌∷◌, ◌++◌, length, get_or, take, drop, refl, sym, ap, subst, ◌∙◌, append_assoc, arith}
use Rattle.std.proofs.Math.Seq.{take-append_seam, drop-append_seam}
use Rattle.std.proofs.lemmas.List.{length-append}
use Rattle.std.proofs.lemmas.List.Sums.{sum_by-append}
use Rattle.rtcp_wire.specs.Values.{ItemValue}
use Rattle.rtcp_wire.specs.Grammar.{Joins, IsItem}
use Rattle.rtcp_wire.specs.Validity.{HasItems}
use Rattle.rtcp_wire.specs.Walks.{items_after, items_size}
use Rattle.rtcp_wire.proofs.ReadingWalks.{first_item}

-- the octets after the item that stands first
abbrev pub after_item : List ℕ → List ℕ
after_item octets = drop (get_or octets 1 0) (drop 2 octets)

-- An item stands first, and the others after it.
pub record ItemStep (octets : List ℕ) : Type 0 where
  pub room : get_or octets 1 0 ≤ length (drop 2 octets)
  pub more : HasItems (after_item octets)
  pub first : items_after 0 octets ≡ record
      { kind = get_or octets 0 0; text = take (get_or octets 1 0) (drop 2 octets) } ∷ items_after 0 (after_item octets)
  pub sizes : length octets + items_size (items_after 0 (after_item octets)) ≡ length (after_item octets) + items_size
      (items_after 0 octets)

-- at an item and what follows it
here : (item : ItemValue) (rest : List ℕ) → item.kind ≢ 0 → HasItems rest →
    ItemStep (item.kind ∷ length item.text ∷ (item.text ++ rest))
here item rest some more =
    let after : drop (length item.text) (item.text ++ rest) ≡ rest = drop-append_seam item.text rest in
    let text : take (length item.text) (item.text ++ rest) ≡ item.text = take-append_seam item.text rest in
    let others = items_after 0 rest in
    let sum : items_size (item ∷ others) ≡ length item.text + 2 + items_size others =
    omega (arith, sum_by-append (λ (i : ItemValue). length i.text + 2) (item ∷ []) others) in
    let all = ap items_size (first_item item rest some) in
    record {
      room = omega (arith, length-append item.text rest);
      sizes = rw after (omega (arith, all, sum, length-append item.text rest));
      more = subst HasItems (sym after) more;
      first = first_item item rest some
          ∙ (λ i. record { kind = item.kind; text = sym text i } ∷ items_after 0 (sym after i));
    }

-- Octets that begin with no zero octet begin with an item.
pub item_step : (octets : List ℕ) → HasItems octets → get_or octets 0 0 ≢ 0 → ItemStep octets
item_step octets h some = step octets h.0 h.1.items h.1.middle h.1.parts h.1.each some
  where
    step : (octets after : List ℕ) (items : List ItemValue) (middle : List ℕ) → octets ≡ middle ++ 0 ∷ after →
        Joins IsItem items middle → get_or octets 0 0 ≢ 0 → ItemStep octets
    step octets after [] middle parts each some =
        absurd (some (ap (λ (t : List ℕ). get_or t 0 0) (parts ∙ ap (λ (t : List ℕ). t ++ 0 ∷ after) each)))
    step octets after (item ∷ items) middle parts each some =
        let rest = each.1 ++ 0 ∷ after in
        let whole : octets ≡ item.kind ∷ length item.text ∷ (item.text ++ rest) =
        parts ∙ ap (λ (t : List ℕ). t ++ 0 ∷ after) (each.2 ∙ ap (λ (t : List ℕ). t ++ each.1) each.3.1)
        ∙ ap (λ (t : List ℕ). item.kind ∷ length item.text ∷ t) (append_assoc item.text each.1 (0 ∷ after)) in
        let more : HasItems rest = (after, record { items = items; middle = each.1; parts = refl; each = each.4 }) in
        subst ItemStep (sym whole) (here item rest each.3.0 more)
