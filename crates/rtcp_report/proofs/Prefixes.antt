-- The longest prefix of the pending sources that fits.
use Rattle.std.proofs.Common.{◌≡◌, ℕ, zero, suc, ◌+◌, ◌<◌, ◌≤◌, ◌==◌, Bool, true, false, cond, nat_le, List, length, take, drop, count_by, Option, arith, refl, sym, ap, subst, ◌∙◌}
use Rattle.std.specs.Prelude.{min}
use Rattle.std.proofs.lemmas.Bool.{eqb-true, leb-true, leb-false, le-leb}
use Rattle.std.proofs.lemmas.Bool.Decides.{nat_tests}
use Rattle.std.proofs.Math.Seq.{take-append_seam}
use Rattle.std.proofs.lemmas.List.{length-append, take_min, length-take-le, take-append-drop}
use Rattle.std.proofs.lemmas.List.Sums.{sum_by-append}
use Rattle.rtcp_members.specs.Tables.{TableValue}
use Rattle.rtcp_members.specs.Pending.{EntryRow, is_due_at, pending}
use Rattle.rtcp_members.proofs.LawLemmas.{each_is_pending_once}
use Rattle.rtcp_report.specs.Reports.{Reporter, further_count, report_size, greatest_passing, fitting}
use Rattle.rtcp_report.specs.Sizes.{block_count, reported_rows, IsLongestFitting}

further_rises : (fewer more : ℕ) → fewer ≤ more → further_count fewer ≤ further_count more
further_rises fewer more le = omega (arith, le)

-- A report with more blocks is no smaller.
pub size_rises : (reporter : Reporter) (fewer more : ℕ) → fewer ≤ more →
    report_size reporter fewer ≤ report_size reporter more
size_rises reporter fewer more le = omega (arith, le, further_rises fewer more le)

-- ---- The greatest number that passes

at_most : (test : ℕ → Bool) (most : ℕ) → greatest_passing test most ≤ most
at_most test zero = omega arith
at_most test (suc n) = let rest = at_most test n in
    elim (test (suc n)) as (λ b. cond b (suc n) (greatest_passing test n) ≤ suc n) [
      | true ↦ omega arith
      | false ↦ omega (arith, rest)
    ]

-- It passes, where 0 does.
passes : (test : ℕ → Bool) (most : ℕ) → test 0 ≡ true → test (greatest_passing test most) ≡ true
passes test zero first = first
passes test (suc n) first =
    elim (test (suc n)) as (λ b. test (suc n) ≡ b → test (cond b (suc n) (greatest_passing test n)) ≡ true) [
      | true ↦ λ is. is
      | false ↦ λ is. passes test n first
    ] refl

-- None above it does.
none_passes : (test : ℕ → Bool) (most k : ℕ) → greatest_passing test most < k → k ≤ most → test k ≡ false
none_passes test zero k above within = absurd (omega (arith, above, within))
none_passes test (suc n) k above within =
    let rest = none_passes test n k in
    elim (test (suc n)) as (λ b. test (suc n) ≡ b → cond b (suc n) (greatest_passing test n) < k → test k ≡ false) [
      | true ↦ λ is above. absurd (omega (arith, above, within))
      | false ↦ λ is above.
          elim (k == suc n) as (λ b. (k == suc n) ≡ b → test k ≡ false) [
            | true ↦ λ last. ap test (eqb-true k (suc n) last) ∙ is
            | false ↦ λ other. rest above (grind (arith, nat_tests, other, within))
          ] refl
    ] refl above

-- ---- The prefix that fits

module _ (reporter : Reporter) (limit : ℕ) where
  chosen : ℕ → ℕ
  chosen pending = block_count reporter limit pending

  chosen_within : (pending : ℕ) → chosen pending ≤ pending
  unfolding chosen
  chosen_within pending = at_most (λ blocks. nat_le (report_size reporter blocks) limit) pending

  chosen_fits : (pending : ℕ) → report_size reporter 0 ≤ limit → report_size reporter (chosen pending) ≤ limit
  unfolding chosen
  chosen_fits pending first = leb-true _ _
      (passes (λ blocks. nat_le (report_size reporter blocks) limit) pending (le-leb _ _ first))

  none_longer : (pending blocks : ℕ) → chosen pending < blocks → blocks ≤ pending → limit < report_size reporter blocks
  unfolding chosen
  none_longer pending blocks above within =
      leb-false _ _ (none_passes (λ blocks. nat_le (report_size reporter blocks) limit) pending blocks above within)

  chosen_of_rows : (rows : List EntryRow) → length (fitting reporter limit rows) ≡ chosen (length rows)
  unfolding chosen
  chosen_of_rows rows = length-take-le (chosen (length rows)) rows (chosen_within (length rows))

  pub longest_fitting : (rows : List EntryRow) → report_size reporter 0 ≤ limit →
      IsLongestFitting reporter limit rows (fitting reporter limit rows)
  unfolding chosen
  longest_fitting rows first =
      let count = chosen_of_rows rows in
      record {
        rest = drop (chosen (length rows)) rows;
        parts = sym (take-append-drop (chosen (length rows)) rows);
        fits = subst (λ (n : ℕ). report_size reporter n ≤ limit) (sym count) (chosen_fits (length rows) first);
        longest = λ blocks above within. none_longer (length rows) blocks (omega (arith, above, count)) within;
      }

  -- A longest prefix that fits is as long as the one that is chosen.
  module _ (rows prefix : List EntryRow) (is : IsLongestFitting reporter limit rows prefix) where
    whole_length : length rows ≡ length prefix + length is.rest
    whole_length = ap (λ (r : List EntryRow). length r) is.parts ∙ length-append prefix is.rest

    not_longer : length prefix ≤ chosen (length rows)
    not_longer =
        elim (nat_le (length prefix) (chosen (length rows))) as (λ b. nat_le (length prefix) (chosen (length rows))
        ≡ b → length prefix ≤ chosen (length rows)) [
          | true ↦ λ yes. leb-true _ _ yes
          | false ↦ λ fewer. absurd (omega (
            arith,
            is.fits,
            none_longer (length rows) (length prefix) (leb-false _ _ fewer)
                (omega (arith, whole_length)),
          ))
        ] refl

    not_shorter : chosen (length rows) ≤ length prefix
    not_shorter =
        let first : report_size reporter 0 ≤ limit =
        omega (arith, is.fits, size_rises reporter 0 (length prefix) (omega arith)) in
        elim (nat_le (chosen (length rows)) (length prefix)) as (λ b. nat_le (chosen (length rows)) (length prefix)
        ≡ b → chosen (length rows) ≤ length prefix) [
          | true ↦ λ yes. leb-true _ _ yes
          | false ↦ λ more. absurd (omega (
            arith,
            chosen_fits (length rows) first,
            is.longest (chosen (length rows)) (leb-false _ _ more) (chosen_within (length rows)),
          ))
        ] refl

    pub only_longest : prefix ≡ fitting reporter limit rows
    unfolding chosen
    only_longest =
        let count : length prefix ≡ chosen (length rows) = omega (arith, not_longer, not_shorter) in
        sym (take-append_seam prefix is.rest) ∙ (λ i. take (count i) (sym is.parts i))

  -- Where so many blocks fit, and no more, the prefix has as many rows, or all.
  module _ (most : ℕ) (fits : report_size reporter most ≤ limit)
      (greatest : limit < report_size reporter (most + 1)) where
    first_fits : report_size reporter 0 ≤ limit
    first_fits = omega (arith, fits, size_rises reporter 0 most (omega arith))

    no_more : (pending : ℕ) → chosen pending ≤ most
    no_more pending =
        elim (nat_le (chosen pending) most) as (λ b. nat_le (chosen pending) most ≡ b → chosen pending ≤ most) [
          | true ↦ λ is. leb-true _ _ is
          | false ↦ λ is.
              let above : most + 1 ≤ chosen pending = omega (arith, leb-false (chosen pending) most is) in
              absurd (omega (
                arith,
                greatest,
                chosen_fits pending first_fits,
                size_rises reporter (most + 1) (chosen pending) above,
              ))
        ] refl

    no_fewer : (pending : ℕ) → min most pending ≤ chosen pending
    no_fewer pending =
        elim (nat_le (min most pending) (chosen pending)) as (λ b. nat_le (min most pending) (chosen pending) ≡ b →
        min most pending ≤ chosen pending) [
          | true ↦ λ is. leb-true _ _ is
          | false ↦ λ is.
              let larger : limit < report_size reporter (min most pending) = none_longer pending (min most pending)
              (leb-false (min most pending) (chosen pending) is) (omega arith) in
              absurd (omega (arith, fits, larger, size_rises reporter (min most pending) most (omega arith)))
        ] refl

    chosen_is : (pending : ℕ) → chosen pending ≡ min most pending
    chosen_is pending = omega (arith, no_more pending, no_fewer pending, chosen_within pending)

    pub front_is : (rows : List EntryRow) → fitting reporter limit rows ≡ take most rows
    unfolding chosen
    front_is rows = ap (λ (n : ℕ). take n rows) (chosen_is (length rows)) ∙ take_min most rows

-- ---- None twice

count_of : ℕ → List EntryRow → ℕ
count_of ssrc rows = count_by (λ (row : EntryRow). row.0 == ssrc) rows

count_prefix : (ssrc most : ℕ) (rows : List EntryRow) → count_of ssrc (take most rows) ≤ count_of ssrc rows
unfolding count_of
count_prefix ssrc most rows =
    let one : EntryRow → ℕ = λ row. cond (row.0 == ssrc) 1 0 in
    let parts : count_of ssrc rows ≡ count_of ssrc (take most rows) + count_of ssrc (drop most rows) =
    ap (count_of ssrc) (sym (take-append-drop most rows)) ∙ sum_by-append one (take most rows) (drop most rows) in
    omega (arith, parts)

pub none_twice : (reporter : Reporter) (limit : ℕ) (last : Option ℕ) (table : TableValue) (ssrc : ℕ) →
    count_by (λ (row : EntryRow). row.0 == ssrc) (reported_rows reporter limit last table) ≤ 1
unfolding count_of
none_twice reporter limit last table ssrc =
    let one : (b : Bool) → cond b 1 0 ≤ 1 = λ b. elim b as (λ b. cond b 1 0 ≤ 1) [
      | true ↦ omega arith
      | false ↦ omega arith
    ] in
    let waits : count_of ssrc (pending last table) ≡ cond (is_due_at ssrc table) 1 0 =
    each_is_pending_once last table ssrc in
    omega (
      arith,
      count_prefix ssrc (block_count reporter limit (length (pending last table))) (pending last table),
      waits,
      one (is_due_at ssrc table),
    )
