-- A check that drops entries of a list, rank by rank.
use Rattle.std.proofs.Common.{◌≡◌, ◌<◌, ◌≤◌, ◌+◌, ◌++◌, ℕ, true, false, cond, if◌then◌else◌, List, [], ◌∷◌, length, take, drop, set, slice_index_or, inl, inr, arith, refl, sym, ap, subst, ◌∙◌}
use Rattle.std.proofs.lemmas.List.{append-nil, append_assoc, length-set, drop_more, drop_all, drop-set-lt, take_more, take-set-le, get_or-set_same, get_or-set_other}
use Rattle.std.proofs.lemmas.Bool.{cases_eq}
use Rattle.rtcp_members.specs.declared.bounds.Bounds.{Bounds}
use Rattle.rtcp_members.specs.declared.counts.Counts.{Counts}
use Rattle.rtcp_members.specs.declared.entry.Entry.{Entry}
use Rattle.rtcp_members.specs.Traces.{Horizons}
use Rattle.rtcp_members.specs.ListViews.{entry_value, lapses, lapsed, outlasts, checked}
use Rattle.rtcp_members.specs.storage.Standing.{AllStandBy, AreRecounted, IsAmong, IsMeasured, IsNoLater, IsOneMore, StandsBy}
use Rattle.rtcp_members.proofs.lists.Measuring.{AreShared, share_dropped, share_kept, share_has, all_more}

-- Where a check of the first ranks has come: what stays of them is in front, and the others are as they were.
pub record IsDropping (horizons : Horizons) (items xs : List Entry) (kept at : ℕ) (counts : Counts) (bounds : Bounds) :
    Type 0 where
  pub order : kept ≤ at
  pub so_far : take kept xs ++ checked horizons (drop at xs) ≡ checked horizons items
  pub shared : AreShared counts (take kept xs) (drop at xs)
  pub stand : AllStandBy bounds (take kept xs)

module _ {horizons : Horizons} {items xs : List Entry} {kept at : ℕ} {counts : Counts} {bounds : Bounds}
    (so : IsDropping horizons items xs kept at counts bounds) where
  -- All ranks were gone through.
  module _ (past : length xs ≤ at) where
    none_left : drop at xs ≡ []
    none_left = drop_all at xs past

    pub all_dropped : take kept xs ≡ checked horizons items
    all_dropped = sym (append-nil (take kept xs)) ∙ ap (λ rest. take kept xs ++ checked horizons rest) (sym none_left)
        ∙ so.so_far

    pub all_measured : IsMeasured counts bounds (take kept xs)
    all_measured =
        let shared : AreShared counts (take kept xs) [] = subst (AreShared counts (take kept xs)) none_left so.shared in
        record {
          counted = record {
            members = omega (arith, shared.members);
            senders = omega (arith, shared.senders);
            due = omega (arith, shared.due);
          };
          stand = so.stand;
        }

  -- One more is gone through.
  module _ (less : at < length xs) {e : Entry} (read : e ≡ slice_index_or xs at e) where
    abbrev others : List Entry
    others = drop (at + 1) xs

    rest : drop at xs ≡ e ∷ others
    rest = drop_more xs at e less ∙ ap (λ (x : Entry). x ∷ others) (sym read)

    shared_left : AreShared counts (take kept xs) (e ∷ others)
    shared_left = subst (AreShared counts (take kept xs)) rest so.shared

    pub left_is_counted : IsAmong e counts
    left_is_counted = share_has counts (take kept xs) others e shared_left

    walked : take kept xs ++ cond (outlasts horizons e) (lapsed horizons.idle e ∷ checked horizons others)
        (checked horizons others) ≡ checked horizons items
    walked = ap (λ ys. take kept xs ++ checked horizons ys) (sym rest) ∙ so.so_far

    -- The front becomes this one, and what follows is as it was.
    one_more : (ys : List Entry) (stay : ℕ) (front : List Entry) (next : Counts) (lower : Bounds) → stay ≤ at + 1 →
        take stay ys ≡ front → drop (at + 1) ys ≡ others → front ++ checked horizons others ≡ checked horizons items →
        AreShared next front others → AllStandBy lower front → IsDropping horizons items ys stay (at + 1) next lower
    one_more ys stay front next lower order is_front same so_far shared stand = record {
      order = order;
      so_far = (λ i. is_front i ++ checked horizons (same i)) ∙ so_far;
      shared = subst (λ zs. AreShared next zs (drop (at + 1) ys)) (sym is_front)
          (subst (AreShared next front) (sym same) shared);
      stand = subst (AllStandBy lower) (sym is_front) stand;
    }

    pub one_dropped : (changed : Entry) (next : Counts) → outlasts horizons e ≡ false →
        IsOneMore e next counts → IsDropping horizons items (set xs at changed) kept (at + 1) next bounds
    one_dropped changed next fails fewer =
        one_more (set xs at changed) kept (take kept xs) next bounds (omega (arith, so.order))
        (take-set-le kept xs at changed so.order) (drop-set-lt (at + 1) xs at changed (omega arith))
        (ap (λ b. take kept xs ++ cond b (lapsed horizons.idle e ∷ checked horizons others) (checked horizons others))
        (sym fails) ∙ walked)
        (share_dropped counts next (take kept xs) others e shared_left fewer) so.stand

    -- It is changed, and changes places with the first of those that are not in front.
    module _ (changed : Entry) (ys : List Entry) (is : ys ≡ set (set (set xs at changed) kept
        (slice_index_or (set xs at changed) at changed)) at (slice_index_or (set xs at changed) kept changed)) where
      abbrev written : List Entry
      written = set xs at changed

      abbrev itself : Entry
      itself = slice_index_or written at changed

      abbrev first : Entry
      first = slice_index_or written kept changed

      as_written : itself ≡ changed
      as_written = get_or-set_same xs at changed changed less

      as_long : length written ≡ length xs
      as_long = length-set xs at changed

      in_front : slice_index_or ys kept changed ≡ changed
      in_front = ap (λ zs. slice_index_or zs kept changed) is ∙ elim (cases_eq kept at) [
        | inl same ↦ ap (λ n. slice_index_or (set (set written kept itself) at first) n changed) same
            ∙ get_or-set_same (set written kept itself) at first changed
            (omega (arith, less, as_long, length-set written kept itself))
            ∙ ap (λ n. slice_index_or written n changed) same ∙ as_written
        | inr unlike ↦ get_or-set_other (set written kept itself) at kept first changed unlike
            ∙ get_or-set_same written kept itself changed (omega (arith, so.order, less, as_long)) ∙ as_written
      ]

      front : take (kept + 1) ys ≡ take kept xs ++ changed ∷ []
      front =
          take_more ys kept changed (omega (
            arith,
            so.order,
            less,
            as_long,
            ap length is,
            length-set (set written kept itself) at first,
            length-set written kept itself,
          ))
          ∙ (λ i. (ap (take kept) is ∙ take-set-le kept (set written kept itself) at first so.order
          ∙ take-set-le kept written kept itself (omega arith) ∙ take-set-le kept xs at changed so.order) i
          ++ in_front i ∷ [])

      behind : drop (at + 1) ys ≡ others
      behind =
          ap (drop (at + 1)) is
          ∙ drop-set-lt (at + 1) (set written kept itself) at first (omega arith)
          ∙ drop-set-lt (at + 1) written kept itself (omega (arith, so.order))
          ∙ drop-set-lt (at + 1) xs at changed (omega arith)

      pub one_kept : (next : Counts) (lower : Bounds) → outlasts horizons e ≡ true → changed ≡ lapsed horizons.idle e →
          AreRecounted e changed counts next → IsNoLater lower bounds →
          StandsBy lower (entry_value changed) → IsDropping horizons items ys (kept + 1) (at + 1) next lower
      one_kept next lower passes lapsing recounted no_later stands =
          one_more ys (kept + 1) (take kept xs ++ changed ∷ []) next lower (omega (arith, so.order)) front behind
          (append_assoc (take kept xs) (changed ∷ []) (checked horizons others)
          ∙ ap (λ (x : Entry). take kept xs ++ x ∷ checked horizons others) lapsing
          ∙ ap (λ b. take kept xs ++ cond b (lapsed horizons.idle e ∷ checked horizons others)
          (checked horizons others)) (sym passes) ∙ walked)
          (share_kept counts next (take kept xs) others e changed shared_left recounted)
          (all_more bounds lower (take kept xs) changed so.stand no_later stands)

-- An entry keeps its SSRC in a check.
pub lapsed_ssrc : (idle : ℕ) (e : Entry) → (lapsed idle e).ssrc ≡ e.ssrc
lapsed_ssrc idle e = elim (lapses idle e) as (λ b. (if b then record e { sends = false } else e).ssrc ≡ e.ssrc) [
  | true ↦ refl
  | false ↦ refl
]
