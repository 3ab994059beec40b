-- All that a participant sends in a window, its BYEs included: at most nine compounds are no reports.
use Rattle.std.proofs.Common.{◌≡◌, ℕ, ◌+◌, ◌*◌, ◌≤◌, ◌&&◌, not, Bool, true, false, cond, List, [], ◌∷◌, length, filter, All, Option, refl, ap, arith}
use Rattle.std.proofs.lemmas.List.Elements.{All-head, All-tail}
use Rattle.std.proofs.lemmas.List.Sums.{sum_by-cons}
use Rattle.rtcp_engine.specs.state.Taken.{IsHistory}
use Rattle.rtcp_engine.specs.bounds.Sent.{Sent, is_report, reports_in, sent_at}
use Rattle.rtcp_engine.specs.bounds.Spacing.{first_leave, is_last_bye, is_change_bye, EndsWithBye}
use Rattle.rtcp_engine.proofs.LawLemmas.{sent_compounds_keep_apart}
use Rattle.rtcp_session.specs.Windows.{Joined, is_inside, reports_within, compounds_within}
use Rattle.rtcp_session.specs.Crowds.{total_reports, total_compounds}
use Rattle.rtcp_session.proofs.Pacing.{more_if, filter_cons}

-- ---- Kinds

-- those in a window that are reports
abbrev kept : (Sent → Bool) → List Sent → List Sent
kept test sent = filter test (reports_in sent)

one_report : (test : Sent → Bool) (sent : Sent) (earlier : List Sent) →
    length (kept test (sent ∷ earlier)) ≡ more_if (is_report sent && test sent) (length (kept test earlier))
one_report test sent earlier = by (is_report sent)
  where
    by : (reports : Bool) → length (filter test (cond reports (sent ∷ reports_in earlier) (reports_in earlier)))
        ≡ more_if (reports && test sent) (length (kept test earlier))
    by true = filter_cons test sent (reports_in earlier)
    by false = refl

one_of_three : (inside reports changes : Bool) (all n last change : ℕ) → all ≤ n + last + change
    → more_if inside all ≤ more_if (reports && inside) n + more_if (not reports && not changes) last + more_if
    (not reports && changes) change
one_of_three true true true all n last change h = omega (arith, h)
one_of_three true true false all n last change h = omega (arith, h)
one_of_three true false true all n last change h = omega (arith, h)
one_of_three true false false all n last change h = omega (arith, h)
one_of_three false true true all n last change h = omega (arith, h)
one_of_three false true false all n last change h = omega (arith, h)
one_of_three false false true all n last change h = omega (arith, h)
one_of_three false false false all n last change h = omega (arith, h)

three_kinds : (test : Sent → Bool) (sent : List Sent) → length (filter test sent) ≤ length (kept test sent) + length
    (filter is_last_bye sent) + length (filter is_change_bye sent)
three_kinds test [] = omega arith
three_kinds test (sent ∷ earlier) =
    let all = filter_cons test sent earlier in
    let reports = one_report test sent earlier in
    let last = filter_cons is_last_bye sent earlier in
    let change = filter_cons is_change_bye sent earlier in
    let parts = one_of_three (test sent) (is_report sent) sent.changes (length (filter test earlier))
    (length (kept test earlier)) (length (filter is_last_bye earlier)) (length (filter is_change_bye earlier))
    (three_kinds test earlier) in
    omega (arith, all, reports, last, change, parts)

none_of : (sent : List Sent) → All (λ sent. is_last_bye sent ≡ false) sent → length (filter is_last_bye sent) ≡ 0
none_of [] h = refl
none_of (sent ∷ earlier) h =
    let P : Sent → Type 0 = λ (sent : Sent). is_last_bye sent ≡ false in
    let rest = none_of earlier (All-tail P sent earlier h) in
    let here = ap (λ (counts : Bool). more_if counts (length (filter is_last_bye earlier)))
    (All-head P sent earlier h) in
    let all = filter_cons is_last_bye sent earlier in
    omega (arith, all, here, rest)

at_most_one : (counts : Bool) (n : ℕ) → n ≡ 0 → more_if counts n ≤ 1
at_most_one true n h = omega (arith, h)
at_most_one false n h = omega (arith, h)

pub one_last : (leave : Option ℕ) (sent : List Sent) → EndsWithBye leave sent → length (filter is_last_bye sent) ≤ 1
one_last leave [] h = omega arith
one_last leave (newest ∷ earlier) h =
    let all = filter_cons is_last_bye newest earlier in
    let most = at_most_one (is_last_bye newest) (length (filter is_last_bye earlier)) (none_of earlier h.0) in
    omega (arith, all, most)

-- ---- In a window

pub nine_more : (joined : Joined) (from width : ℕ) → IsHistory joined.history →
    length (compounds_within from width joined) ≤ length (reports_within from width joined) + 9
nine_more joined from width is =
    let sent : List Sent = sent_at joined.history in
    let bounds = sent_compounds_keep_apart joined.history is in
    let kinds = three_kinds (is_inside from width joined.start) sent in
    let last = one_last (first_leave joined.history.acts) sent bounds.leaves_once in
    let few : length (filter is_change_bye sent) ≤ 8 = bounds.few_changes in
    omega (arith, kinds, last, few)

abbrev Stands : Joined → Type 0
Stands joined = IsHistory joined.history

pub nine_more_each : (from width : ℕ) (all : List Joined) → All Stands all →
    total_compounds from width all ≤ total_reports from width all + 9 * length all
nine_more_each from width [] h = omega arith
nine_more_each from width (joined ∷ others) h =
    let one = nine_more joined from width (All-head Stands joined others h) in
    let rest = nine_more_each from width others (All-tail Stands joined others h) in
    let compounds = sum_by-cons (λ (joined : Joined). length (compounds_within from width joined)) joined others in
    let reports = sum_by-cons (λ (joined : Joined). length (reports_within from width joined)) joined others in
    omega (arith, one, rest, compounds, reports)
