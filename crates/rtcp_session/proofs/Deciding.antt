-- Each report that was sent has what it was decided by, and its interval is that of its load.
use Rattle.std.proofs.Common.{◌≡◌, ℕ, ◌≤◌, nat_le, Bool, true, false, cond, List, [], ◌∷◌, ◌++◌, map, get_or, filter, All, Option, Some, None, is_some, option_map, if◌then◌else◌, refl, sym, ap, ◌∙◌, arith, subst}
use Rattle.std.proofs.lemmas.List.{map-append}
use Rattle.std.proofs.lemmas.List.Elements.{All-nil, All-cons, All-append, All-head, All-map, All-filter, All-tail, filter-append}
use Rattle.std.specs.Option.{option_or}
use Rattle.rtcp_timer.specs.Loads.{interval_of, minimum_of}
use Rattle.rtcp_timer.proofs.LawLemmas.{interval_has_minimum}
use Rattle.rtcp_engine.specs.declared.changes.IdentifierChange.{IdentifierChange}
use Rattle.rtcp_engine.specs.answers.Setups.{Setup}
use Rattle.rtcp_engine.specs.answers.Acts.{Act, rtcp, rtp, arrived, rtp_sent, ticked, left, configured, moment_of, forgotten, OutValue}
use Rattle.rtcp_engine.specs.answers.OwnStreams.{has_sent}
use Rattle.rtcp_engine.specs.answers.Outcomes.{Outcome, load_of, member_count}
use Rattle.rtcp_engine.specs.answers.Ticks.{checked, report_due}
use Rattle.rtcp_engine.specs.answers.Reporting.{bye_octets}
use Rattle.rtcp_engine.specs.answers.Leaving.{Life, present, backing_off, finished, few_members, is_bye_due, sent_nothing, leaving_interval}
use Rattle.rtcp_engine.specs.answers.Lives.{bye_out, out_by, own_bye, report_out}
use Rattle.rtcp_engine.specs.answers.Changes.{NewIdentifier, Session, bye_of_change, change_by, changed_by}
use Rattle.rtcp_engine.specs.answers.Histories.{History, session_of}
use Rattle.rtcp_engine.specs.bounds.Sent.{Sent, interval_by, is_report, reports_in, sent_with, sent_by, sent_over, sent_at}
use Rattle.rtcp_engine.proofs.LawLemmas.{changes_bring_one_bye}
use Rattle.rtcp_session.specs.Windows.{later_ones, Decided, load_at, outcome_by, decided_with, decided_by, decided_over, decided_at, Joined, is_inside, reports_within, decided_within, later_within}

-- ---- Acts without a report

none_of_bye : (t interval : ℕ) (changes due : Bool) (octets : List ℕ) →
    reports_in (sent_with t interval changes (if due then Some (bye_out octets) else None)) ≡ []
none_of_bye t interval changes true octets = refl
none_of_bye t interval changes false octets = refl

none_of_leave : (t : ℕ) (nothing_sent few : Bool) (octets : List ℕ)
    → reports_in (sent_with t 0 false
    (option_map bye_out (if nothing_sent then None else (if few then Some octets else None)))) ≡ []
none_of_leave t true few octets = refl
none_of_leave t false true octets = refl
none_of_leave t false false octets = refl

none_of_change : (setup : Setup) (t interval : ℕ) (changes : Bool) (life : Life) →
    reports_in (sent_with t interval changes (own_bye setup life)) ≡ []
none_of_change setup t interval changes (present outcome) = none_of_bye t interval changes (has_sent outcome.own)
    (bye_octets setup)
none_of_change setup t interval changes (backing_off outcome backoff) = none_of_bye t interval changes
    (has_sent outcome.own) (bye_octets setup)
none_of_change setup t interval changes (finished outcome) = refl

none_alone : (setup : Setup) (act : Act) (life : Life) → outcome_by setup act life ≡ None →
    reports_in (sent_with (moment_of act) (interval_by setup act life) false (out_by setup act life)) ≡ []
none_alone setup (arrived moment peer word datagram) (present outcome) h = refl
none_alone setup (rtp_sent moment timestamp octets) (present outcome) h = refl
none_alone setup (ticked moment first_word second_word) (present outcome) h = absurd cc
none_alone setup (left moment word) (present outcome) h = none_of_leave moment (sent_nothing outcome)
    (nat_le (member_count setup outcome) few_members) (bye_octets setup)
none_alone setup (configured moment settings) (present outcome) h = refl
none_alone setup (forgotten moment ssrc) (present outcome) h = refl
none_alone setup (arrived moment peer word (rtcp size reading)) (backing_off outcome backoff) h = refl
none_alone setup (arrived moment peer word (rtp reading)) (backing_off outcome backoff) h = refl
none_alone setup (rtp_sent moment timestamp octets) (backing_off outcome backoff) h = refl
none_alone setup (ticked moment first_word second_word) (backing_off outcome backoff) h =
    none_of_bye moment (leaving_interval setup backoff) false (is_bye_due setup moment first_word backoff)
    (bye_octets setup)
none_alone setup (left moment word) (backing_off outcome backoff) h = refl
none_alone setup (configured moment settings) (backing_off outcome backoff) h = refl
none_alone setup (forgotten moment ssrc) (backing_off outcome backoff) h = refl
none_alone setup act (finished outcome) h = refl

none_by : (session : Session) (act : Act) (change : Option NewIdentifier) → change_by session act ≡ change →
    outcome_by session.setup act session.life ≡ None → let now = changed_by change session in
    reports_in (sent_with (moment_of act) (if is_some change then 0 else interval_by session.setup act session.life)
    (is_some change) (option_or (bye_of_change change session) (out_by now.setup act now.life))) ≡ []
none_by session act None is h = none_alone session.setup act session.life h
none_by session act (Some new) is h =
    ap (λ (out : Option OutValue). reports_in (sent_with (moment_of act) 0 true out)) (brought session act new is)
    ∙ none_of_change session.setup (moment_of act) 0 true session.life
  where
    brought : (session : Session) (act : Act) (new : NewIdentifier) → change_by session act ≡ Some new →
        let now = changed_by (Some new) session in
        option_or (bye_of_change (Some new) session) (out_by now.setup act now.life) ≡ own_bye session.setup
        session.life
    brought session act new is =
        sym (ap (λ (change : Option NewIdentifier). let now = changed_by change session in
        option_or (bye_of_change change session) (out_by now.setup act now.life)) is)
        ∙ changes_bring_one_bye session act new is

-- ---- Reports with what they were decided by

abbrev pub report_of : Decided → Sent
report_of decided = decided.report

abbrev pub decided_as : Setup → Outcome → Sent → Decided
decided_as setup outcome report = record { report = report; setup = setup; outcome = outcome }

same_reports : (setup : Setup) (outcome : Outcome) (reports : List Sent) →
    map report_of (map (decided_as setup outcome) reports) ≡ reports
same_reports setup outcome [] = refl
same_reports setup outcome (report ∷ earlier) = ap (λ (others : List Sent). report ∷ others)
    (same_reports setup outcome earlier)

reports_of_found : (setup : Setup) (found : Option Outcome) (reports : List Sent) → (found ≡ None → reports ≡ []) →
    map report_of (decided_with setup found reports) ≡ reports
reports_of_found setup None reports h = sym (h refl)
reports_of_found setup (Some outcome) reports h = same_reports setup outcome reports

reports_over : (setup : Setup) (word : ℕ) (acts : List Act) → map report_of (decided_over setup word acts) ≡ reports_in
    (sent_over setup word acts)
reports_over setup word [] = refl
reports_over setup word (act ∷ earlier) =
    let before = session_of setup word earlier in
    let here : map report_of (decided_by before act) ≡ reports_in (sent_by before act) =
    reports_of_found before.setup (outcome_by before.setup act before.life) (reports_in (sent_by before act))
    (none_by before act (change_by before act) refl) in
    map-append report_of (decided_by before act) (decided_over setup word earlier)
    ∙ ap (λ (some : List Sent). some ++ map report_of (decided_over setup word earlier)) here
    ∙ ap (λ (others : List Sent). reports_in (sent_by before act) ++ others) (reports_over setup word earlier)
    ∙ sym (filter-append is_report (sent_by before act) (sent_over setup word earlier))

pub reports_decided : (history : History) → map report_of (decided_at history) ≡ reports_in (sent_at history)
reports_decided history = reports_over history.setup history.word history.acts

-- ---- Intervals

abbrev pub IsOfLoad : Decided → Type 0
IsOfLoad decided = decided.report.interval ≡ interval_of (load_at decided)

one_interval : (setup : Setup) (outcome : Outcome) (report : Sent) →
    report.interval ≡ interval_of (load_of setup outcome) → (kept : Bool) →
    All IsOfLoad (map (decided_as setup outcome) (cond kept (report ∷ []) []))
one_interval setup outcome report is true = All-cons IsOfLoad (decided_as setup outcome report) [] is (All-nil IsOfLoad)
one_interval setup outcome report is false = All-nil IsOfLoad

sent_intervals : (setup : Setup) (outcome : Outcome) (t interval : ℕ) (changes : Bool) →
    interval ≡ interval_of (load_of setup outcome) → (out : Option OutValue)
    → All IsOfLoad (map (decided_as setup outcome) (reports_in (sent_with t interval changes out)))
sent_intervals setup outcome t interval changes is None = All-nil IsOfLoad
sent_intervals setup outcome t interval changes is (Some out) =
    let report : Sent = record { moment = t; interval = interval; out = out; changes = changes } in
    one_interval setup outcome report is (is_report report)

intervals_by : (setup : Setup) (changes : List IdentifierChange) (act : Act) (life : Life) →
    All IsOfLoad (decided_by (record { setup = setup; changes = changes; life = life }) act)
intervals_by setup changes (ticked moment first_word second_word) (present outcome) =
    let now = checked setup moment outcome in
    sent_intervals setup now moment (interval_of (load_of setup now)) false refl
    (option_map report_out (report_due setup moment first_word now))
intervals_by setup changes act life = All-nil IsOfLoad

intervals_over : (setup : Setup) (word : ℕ) (acts : List Act) → All IsOfLoad (decided_over setup word acts)
intervals_over setup word [] = All-nil IsOfLoad
intervals_over setup word (act ∷ earlier) =
    let before = session_of setup word earlier in
    All-append IsOfLoad (decided_by before act) (decided_over setup word earlier)
    (intervals_by before.setup before.changes act before.life) (intervals_over setup word earlier)

pub intervals_decided : (history : History) → All IsOfLoad (decided_at history)
intervals_decided history = intervals_over history.setup history.word history.acts

some_minimum : (initial : Bool) → 1 ≤ minimum_of initial
some_minimum true = omega arith
some_minimum false = omega arith

pub some_interval : (decided : Decided) → IsOfLoad decided → 1 ≤ decided.report.interval
some_interval decided is =
    let least = interval_has_minimum (load_at decided) in
    let some = some_minimum (load_at decided).initial in
    subst (λ (n : ℕ). 1 ≤ n) (sym is) (omega (arith, least, some))

-- No interval is 0.
pub some_intervals : (history : History) → All (λ report. 1 ≤ report.interval) (reports_in (sent_at history))
some_intervals history =
    subst (All (λ (report : Sent). 1 ≤ report.interval)) (reports_decided history)
    (All-map (λ (report : Sent). 1 ≤ report.interval) report_of (decided_at history)
    (λ k d inside. some_interval (get_or (decided_at history) k d) (intervals_decided history k d inside)))

-- ---- What holds of each

pub all_such : (Q : Setup → Outcome → Type 0) (setup : Setup) (outcome : Outcome) → Q setup outcome →
    (reports : List Sent)
    → All (λ decided. Q decided.setup decided.outcome) (map (decided_as setup outcome) reports)
all_such Q setup outcome is [] = All-nil (λ (decided : Decided). Q decided.setup decided.outcome)
all_such Q setup outcome is (report ∷ earlier) =
    All-cons (λ (decided : Decided). Q decided.setup decided.outcome) (decided_as setup outcome report)
    (map (decided_as setup outcome) earlier) is (all_such Q setup outcome is earlier)

pub such_by : (Q : Setup → Outcome → Type 0) (setup : Setup) (changes : List IdentifierChange) (act : Act) (life : Life)
    → ((moment : ℕ) (outcome : Outcome) → life ≡ present outcome → Q setup (checked setup moment outcome))
    → All (λ decided. Q decided.setup decided.outcome)
    (decided_by (record { setup = setup; changes = changes; life = life }) act)
such_by Q setup changes (ticked moment first_word second_word) (present outcome) each =
    all_such Q setup (checked setup moment outcome) (each moment outcome refl) _
such_by Q setup changes act life each = All-nil (λ (decided : Decided). Q decided.setup decided.outcome)

-- What holds after the check of any tick, over acts of such a kind, holds of each report.
pub such_over : (H : List Act → Type 0) (Q : Setup → Outcome → Type 0) (setup : Setup) (word : ℕ)
    → ((act : Act) (earlier : List Act) → H (act ∷ earlier) → H earlier)
    → ((moment : ℕ) (earlier : List Act) (outcome : Outcome) → H earlier →
    (session_of setup word earlier).life ≡ present outcome
    → let now = (session_of setup word earlier).setup in Q now (checked now moment outcome))
    → (acts : List Act) → H acts → All (λ decided. Q decided.setup decided.outcome) (decided_over setup word acts)
such_over H Q setup word shorter each [] h = All-nil (λ (decided : Decided). Q decided.setup decided.outcome)
such_over H Q setup word shorter each (act ∷ earlier) h =
    let before = session_of setup word earlier in
    let rest = shorter act earlier h in
    All-append (λ (decided : Decided). Q decided.setup decided.outcome) (decided_by before act)
    (decided_over setup word earlier)
    (such_by Q before.setup before.changes act before.life (λ moment outcome is. each moment earlier outcome rest is))
    (such_over H Q setup word shorter each earlier rest)

-- ---- In a window

kept_same : (test : Sent → Bool) (decided : Decided) (rest : List Decided) (others : List Sent) →
    map report_of rest ≡ others → (kept : Bool)
    → map report_of (cond kept (decided ∷ rest) rest) ≡ cond kept (report_of decided ∷ others) others
kept_same test decided rest others same true = ap (λ (reports : List Sent). report_of decided ∷ reports) same
kept_same test decided rest others same false = same

filter_same : (test : Sent → Bool) (all : List Decided) →
    map report_of (filter (λ decided. test (report_of decided)) all) ≡ filter test (map report_of all)
filter_same test [] = refl
filter_same test (decided ∷ rest) = kept_same test decided _ _ (filter_same test rest) (test (report_of decided))

pub reports_decided_within : (from width : ℕ) (joined : Joined) → map report_of (decided_within from width joined)
    ≡ reports_within from width joined
reports_decided_within from width joined =
    let test = is_inside from width joined.start in
    filter_same test (decided_at joined.history) ∙ ap (filter test) (reports_decided joined.history)

later_all : {A : Type 0} (P : A → Type 0) (all : List A) → All P all → All P (later_ones all)
later_all {A} P [] h = All-nil P
later_all {A} P (newest ∷ []) h = All-nil P
later_all {A} P (newest ∷ before ∷ earlier) h =
    All-cons P newest (later_ones (before ∷ earlier)) (All-head P newest (before ∷ earlier) h)
    (later_all P (before ∷ earlier) (All-tail P newest (before ∷ earlier) h))

-- What holds of each report holds of the later ones in a window.
pub each_later : (P : Decided → Type 0) (from width : ℕ) (joined : Joined) → All P (decided_at joined.history) →
    All P (later_within from width joined)
each_later P from width joined h =
    later_all P (decided_within from width joined)
    (All-filter (λ decided. is_inside from width joined.start decided.report) P (decided_at joined.history) h)

pub later_intervals : (from width : ℕ) (joined : Joined) → All IsOfLoad (later_within from width joined)
later_intervals from width joined = each_later IsOfLoad from width joined (intervals_decided joined.history)
