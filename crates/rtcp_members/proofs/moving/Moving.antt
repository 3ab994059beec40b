-- Counts of entries tell whether members or senders are as many as before: of a list, and of its table.
use Rattle.std.proofs.Common.{◌≡◌, ◌==◌, ◌&&◌, ℕ, Bool, true, false, not, List, refl, sym, ap, ◌∙◌}
use Rattle.std.proofs.lemmas.Bool.{eqb-false}
use Rattle.rtcp_members.specs.declared.counts.Counts.{Counts}
use Rattle.rtcp_members.specs.declared.entry.Entry.{Entry}
use Rattle.rtcp_members.specs.Entries.{is_member, is_sender}
use Rattle.rtcp_members.specs.ListViews.{table_of, tally_of}
use Rattle.rtcp_members.specs.Roles.{counts_differ}
use Rattle.rtcp_members.specs.storage.Shelves.{tallies_differ}
use Rattle.rtcp_members.specs.storage.SortedViews.{IsRising}
use Rattle.rtcp_members.specs.storage.Standing.{AreCounts, roles_differ}
use Rattle.rtcp_members.specs.Tables.{TableValue, members_in, senders_in}
use Rattle.rtcp_members.proofs.sorted.Rising.{rising_apart}
use Rattle.rtcp_members.proofs.lists.Tallies.{counted_in}

differ : (members before_members senders before_senders : ℕ) → Bool
differ members before_members senders before_senders =
    not ((members == before_members) && (senders == before_senders))

same_differ : {m m' n n' s s' t t' : ℕ} → m ≡ m' → n ≡ n' → s ≡ s' → t ≡ t' → differ m n s t ≡ differ m' n' s' t'
same_differ {m} {m'} {n} {n'} {s} {s'} {t} {t'} one two three four =
    ap (λ x. differ x n s t) one ∙ ap (λ x. differ m' x s t) two
    ∙ ap (λ x. differ m' n' x t) three ∙ ap (λ x. differ m' n' s' x) four

pub moved_in_list : {before after : Counts} {entries next : List Entry} → AreCounts before entries →
    AreCounts after next → roles_differ before after ≡ tallies_differ entries next
unfolding differ
moved_in_list were are =
    same_differ are.members were.members are.senders were.senders

pub moved_in_table : (capacity : ℕ) (entries next : List Entry) (table : TableValue) → IsRising entries →
    IsRising next → table_of capacity entries ≡ table →
    tallies_differ entries next ≡ counts_differ table (table_of capacity next)
unfolding differ
moved_in_table capacity entries next table rising still is =
    let apart = rising_apart entries rising in
    let later = rising_apart next still in
    same_differ (sym (counted_in is_member capacity next later))
    (sym (counted_in is_member capacity entries apart) ∙ ap members_in is)
    (sym (counted_in is_sender capacity next later))
    (sym (counted_in is_sender capacity entries apart) ∙ ap senders_in is)

-- Those of the same list are as many.
pub none_differ : (entries : List Entry) → false ≡ tallies_differ entries entries
none_differ entries = λ i. not (is_itself (tally_of is_member entries) i && is_itself (tally_of is_sender entries) i)
  where
    is_itself : (n : ℕ) → true ≡ (n == n)
    is_itself n = elim (n == n) as (λ b. (n == n) ≡ b → true ≡ b) [
      | true ↦ λ is. refl
      | false ↦ λ is. absurd (eqb-false n n is refl)
    ] refl
