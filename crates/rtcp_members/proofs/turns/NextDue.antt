-- The first pending SSRC is that of a source of which a block is due.
use Rattle.std.proofs.Common.{◌≡◌, ℕ, true, IsTrue, rules, List, [], ◌∷◌, Option, Some, unwrap_or, refl, ap, ◌∙◌}
use Rattle.rtcp_members.specs.Tables.{TableValue}
use Rattle.rtcp_members.specs.Pending.{EntryRow, first_ssrc, is_due_at, pending}
use Rattle.rtcp_members.proofs.turns.Turns.{due_row}

due_of_first : (last : Option ℕ) (table : TableValue) (ssrc : ℕ) (rows : List EntryRow) → pending last table ≡ rows →
    Some ssrc ≡ first_ssrc rows → is_due_at ssrc table ≡ true
due_of_first last table ssrc [] is e = absurd cc
due_of_first last table ssrc (row ∷ rows) is e = ap (λ s. is_due_at s table) (ap (λ o. unwrap_or o ssrc) e)
    ∙ due_row last table row rows is

pub next_is_due : (last : Option ℕ) (table : TableValue) (ssrc : ℕ) → Some ssrc ≡ first_ssrc (pending last table) →
    IsTrue (is_due_at ssrc table)
next_is_due last table ssrc e = search (rules, due_of_first last table ssrc (pending last table) refl e)
