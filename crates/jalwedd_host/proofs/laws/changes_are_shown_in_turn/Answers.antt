use Rattle.std.proofs.Common.{◌≡◌, ◌+◌, suc, map, slice_get, sym, ap, ◌∙◌, arith}
use Rattle.jalwedd_host.specs.Changes.{changes_between, listed_by}
use Rattle.jalwedd_host.proofs.Turns.{first_from, first_of_all, next_of_rising}
use Rattle.jalwedd_host.proofs.laws.changes_are_shown_in_turn.Goals as goal

pub returns-clause-first : goal.returns-clause-first
returns-clause-first c before after = first_of_all (changes_between before after)

pub returns-clause-next : goal.returns-clause-next
returns-clause-next c before after index change at =
    let all = changes_between before after in
    let from : change.ssrc + 1 ≡ suc change.ssrc = omega arith in
    let next : index + 1 ≡ suc index = omega arith in
    let rising = c.changes_have_each_once.ensures.rising (map listed_by before) (map listed_by after) in
    ap (λ n. first_from n all) from ∙ next_of_rising 0 index all change rising at ∙ sym (ap (slice_get all) next)
