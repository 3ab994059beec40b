-- What follows for all that was sent: how far apart it lies, how much lies in a window, and what comes last.
use Rattle.std.proofs.Common.{◌≡◌, ℕ, suc, ◌+◌, ◌-◌, ◌*◌, ◌/◌, ◌<◌, ◌≤◌, ◌&&◌, not, ◌⊎◌, inl, inr, nat_le, Bool, true, false, cond, List, [], ◌∷◌, length, filter, All, Option, refl, sym, ap, ◌∙◌, arith, subst, max}
use Rattle.std.proofs.lemmas.Bool.{cases_lt, le-leb, lt-leb}
use Rattle.std.proofs.lemmas.List.Elements.{All-nil, All-cons}
use Rattle.rtcp_timer.specs.Departures.{last_departure}
use Rattle.rtcp_timer.specs.Loads.{minimum_of}
use Rattle.rtcp_timer.specs.Schedules.{Happening, IsInOrder, newest_transmission, schedule_at}
use Rattle.rtcp_timer.proofs.LawLemmas.{last_lies_between-not_before_sent, last_lies_between-not_after_departure}
use Rattle.rtcp_engine.specs.answers.Outcomes.{Outcome, timing_of}
use Rattle.rtcp_engine.specs.answers.Leaving.{Backoff, Life, present, backing_off, finished, leaving_timing}
use Rattle.rtcp_engine.specs.bounds.Sent.{Sent, is_report, reports_in, sent_at}
use Rattle.rtcp_engine.specs.answers.Histories.{History, last_moment, life_at}
use Rattle.rtcp_engine.specs.state.Taken.{IsHistory}
use Rattle.rtcp_engine.specs.bounds.Spacing.{newest_moment, AreSpaced, is_between, first_leave, is_last_bye, EndsWithBye, LiesAfter, AllFit, KeepsBounds}
use Rattle.rtcp_engine.proofs.NewIdentifiers.{few_changes}
use Rattle.rtcp_engine.proofs.Sending.{none_sent, AllStay, AreReports, EndsSo, IsLast, KeepsApart, Stays, TakesPart, BacksOff, session_keeps_apart}

-- ---- Reports alone

last_is_none : (limit : ℕ) (leave : Option ℕ) (bye : Sent) (earlier : List Sent) → IsLast limit leave bye →
    reports_in (bye ∷ earlier) ≡ reports_in earlier
last_is_none limit leave bye earlier h = ap (λ (b : Bool). cond b (bye ∷ reports_in earlier) (reports_in earlier))
    h.kind

ending_reports : (limit : ℕ) (leave : Option ℕ) (sent : List Sent) → EndsSo limit leave sent →
    AreReports limit (reports_in sent)
ending_reports limit leave [] h = absurd h
ending_reports limit leave (bye ∷ earlier) h = subst (AreReports limit) (sym (last_is_none limit leave bye earlier h.0))
    h.1.reports

reports_apart : (limit t : ℕ) (leave : Option ℕ) (sent : List Sent) (life : Life) → KeepsApart limit t leave life sent →
    AreReports limit (reports_in sent)
reports_apart limit t leave sent (finished outcome) (inl h) = h.reports
reports_apart limit t leave sent (finished outcome) (inr h) = ending_reports limit leave sent h
reports_apart limit t leave sent life h = h.kept.reports

spaced : (limit : ℕ) (reports : List Sent) → AreReports limit reports → AreSpaced reports
spaced limit [] h = tt
spaced limit (newest ∷ earlier) h = (h.0.spaced, spaced limit earlier h.1)

least_interval : (initial : Bool) → 2500000 ≤ minimum_of initial
least_interval true = omega arith
least_interval false = omega arith

none_too_soon : (limit : ℕ) (reports : List Sent) → AreReports limit reports →
    All (λ report. 1026037 ≤ report.moment) reports
none_too_soon limit [] h = All-nil (λ (report : Sent). 1026037 ≤ report.moment)
none_too_soon limit (newest ∷ earlier) h =
    All-cons (λ (report : Sent). 1026037 ≤ report.moment) newest earlier
    (omega (arith, h.0.spaced, h.0.least, least_interval (none_sent earlier)))
    (none_too_soon limit earlier h.1)

-- ---- Windows

-- Reports that lie in a window lie so far apart that only so many fit.
abbrev Fills : (from until newest count : ℕ) → Type 0
Fills from until newest count =
    (count ≡ 0) ⊎ ((2052074 * (count - 1) + from ≤ newest) × (2052074 * (count - 1) + from ≤ until) × (1 ≤ count))

both : {a b c d : Bool} → a ≡ c → b ≡ d → (a && b) ≡ (c && d)
both p q = λ i. p i && q i

abbrev FillsBy : (from until moment count : ℕ) → Bool → Type 0
FillsBy from until moment count inside = Fills from until moment (cond inside (suc count) count)

fills_more : (from until before moment count : ℕ) → Fills from until before count → before ≤ moment →
    (1 ≤ count → before + 2052074 ≤ moment)
    → FillsBy from until moment count (nat_le from moment && nat_le moment until)
fills_more from until before moment count so_far order gap =
    elim (cases_lt moment from) [
      | inl below ↦ subst (FillsBy from until moment count) (sym (both (lt-leb from moment below) refl))
          (too_early below so_far)
      | inr inside ↦
          elim (cases_lt until moment) [
            | inl above ↦ subst (FillsBy from until moment count)
                (sym (both (le-leb from moment inside) (lt-leb moment until above))) (too_late so_far)
            | inr within ↦ subst (FillsBy from until moment count)
                (sym (both (le-leb from moment inside) (le-leb moment until within))) (one_more inside within so_far)
          ]
    ]
  where
    too_early : moment < from → Fills from until before count → Fills from until moment count
    too_early below (inl none) = inl none
    too_early below (inr some) = absurd (omega (arith, below, some.0, order))

    too_late : Fills from until before count → Fills from until moment count
    too_late (inl none) = inl none
    too_late (inr some) = inr (omega (arith, some.0, order), some.1, some.2)

    one_more : from ≤ moment → moment ≤ until → Fills from until before count → Fills from until moment (suc count)
    one_more inside within (inl none) = inr (
      omega (arith, none, inside),
      omega (arith, none, inside, within),
      omega arith,
    )
    one_more inside within (inr some) =
        let far = gap some.2 in
        inr (omega (arith, some.0, some.2, far), omega (arith, some.0, some.2, far, within), omega arith)

kept_or_not : (inside : Bool) (newest : Sent) (earlier : List Sent) → length (cond inside (newest ∷ earlier) earlier)
    ≡ cond inside (suc (length earlier)) (length earlier)
kept_or_not true newest earlier = refl
kept_or_not false newest earlier = refl

fills_cons : (from until : ℕ) (newest : Sent) (earlier : List Sent) →
    FillsBy from until newest.moment (length (filter (is_between from until) earlier)) (is_between from until newest)
    → Fills from until newest.moment (length (filter (is_between from until) (newest ∷ earlier)))
fills_cons from until newest earlier h =
    subst (Fills from until newest.moment)
    (sym (kept_or_not (is_between from until newest) newest (filter (is_between from until) earlier))) h

fills : (limit from until : ℕ) (reports : List Sent) → AreReports limit reports →
    Fills from until (newest_moment reports) (length (filter (is_between from until) reports))
fills limit from until [] h = inl refl
fills limit from until (newest ∷ []) h =
    fills_cons from until newest []
    (fills_more from until 0 newest.moment 0 (inl refl) (omega arith) (λ some. absurd (omega (arith, some))))
fills limit from until (newest ∷ before ∷ earlier) h =
    let far : before.moment + 2052074 ≤ newest.moment = omega (arith, h.0.spaced, h.0.least) in
    fills_cons from until newest (before ∷ earlier)
    (fills_more from until before.moment newest.moment (length (filter (is_between from until) (before ∷ earlier)))
    (fills limit from until (before ∷ earlier) h.1) (omega (arith, far)) (λ some. far))

few_fit : (from width newest count : ℕ) → Fills from (from + width) newest count → count ≤ 1 + width / 2052074
few_fit from width newest count (inl none) = omega (arith, none)
few_fit from width newest count (inr some) = omega (arith, some.1, some.2)

-- ---- Ends and sizes

-- Neither a report nor the BYE of an identifier that is given up is the one of leaving.
no_last : (limit : ℕ) (compound : Sent) → Stays limit compound → is_last_bye compound ≡ false
no_last limit compound h = by_kind (is_report compound) refl
  where
    by_kind : (reports : Bool) → is_report compound ≡ reports → (not reports && not compound.changes) ≡ false
    by_kind true is = refl
    by_kind false is = ap not (h.kind is)

none_last : (limit : ℕ) (sent : List Sent) → AllStay limit sent → All (λ compound. is_last_bye compound ≡ false) sent
none_last limit [] h = All-nil (λ (compound : Sent). is_last_bye compound ≡ false)
none_last limit (newest ∷ earlier) h = All-cons (λ (compound : Sent). is_last_bye compound ≡ false) newest earlier
    (no_last limit newest h.0) (none_last limit earlier h.1)

kept_end : (limit : ℕ) (leave : Option ℕ) (sent : List Sent) → AllStay limit sent → EndsWithBye leave sent
kept_end limit leave [] h = tt
kept_end limit leave (newest ∷ earlier) h =
    (none_last limit earlier h.1, λ last. absurd (cc (sym last ∙ no_last limit newest h.0)))

bye_ends : (limit : ℕ) (leave : Option ℕ) (sent : List Sent) → EndsSo limit leave sent → EndsWithBye leave sent
bye_ends limit leave [] h = absurd h
bye_ends limit leave (bye ∷ earlier) h = (none_last limit earlier h.1.all, λ is. h.0.late)

kept_fit : (limit : ℕ) (sent : List Sent) → AllStay limit sent → AllFit limit sent
kept_fit limit [] h = All-nil (λ (compound : Sent). length compound.out.octets ≤ limit)
kept_fit limit (newest ∷ earlier) h = All-cons (λ (compound : Sent). length compound.out.octets ≤ limit) newest earlier
    h.0.fits (kept_fit limit earlier h.1)

bye_fits : (limit : ℕ) (leave : Option ℕ) (sent : List Sent) → EndsSo limit leave sent → AllFit limit sent
bye_fits limit leave [] h = absurd h
bye_fits limit leave (bye ∷ earlier) h = All-cons (λ (compound : Sent). length compound.out.octets ≤ limit) bye earlier
    h.0.fits (kept_fit limit earlier h.1.all)

-- ---- The last transmission

-- what was sent over a history, in the life that it comes to
apart_in : (history : History) (life : Life) → IsHistory history → life_at history ≡ life →
    KeepsApart history.setup.limit (last_moment history.acts) (first_leave history.acts) life (sent_at history)
apart_in history life is same =
    subst (λ (l : Life). KeepsApart history.setup.limit (last_moment history.acts) (first_leave history.acts) l
    (sent_at history)) same
    (session_keeps_apart history.setup history.word history.acts is.usable is.taken)

between : (events : List Happening) (sent : ℕ) → IsInOrder events → newest_transmission events ≡ sent →
    LiesAfter sent events (schedule_at events)
between events sent in_order newest = (
  subst (λ (n : ℕ). n ≤ (schedule_at events).last) newest (last_lies_between-not_before_sent events in_order),
  subst (λ (n : ℕ). (schedule_at events).last ≤ max n (last_departure events)) newest
      (last_lies_between-not_after_departure events),
)

pub last_in_present : (history : History) (outcome : Outcome) → IsHistory history → life_at history ≡ present outcome
    → LiesAfter (newest_moment (reports_in (sent_at history))) outcome.happenings (timing_of outcome)
last_in_present history outcome is life =
    let part : TakesPart history.setup.limit (last_moment history.acts) (first_leave history.acts) outcome
    (sent_at history) = apart_in history (present outcome) is life in
    between outcome.happenings (newest_moment (reports_in (sent_at history))) part.up_to.in_order part.newest

pub last_in_backoff : (history : History) (outcome : Outcome) (backoff : Backoff) → IsHistory history →
    life_at history ≡ backing_off outcome backoff
    → LiesAfter backoff.since backoff.happenings (leaving_timing backoff)
last_in_backoff history outcome backoff is life =
    let waiting : BacksOff history.setup.limit (last_moment history.acts) (first_leave history.acts) backoff
    (sent_at history) = apart_in history (backing_off outcome backoff) is life in
    between backoff.happenings backoff.since waiting.up_to.in_order waiting.newest

-- ---- Of a life

ends_in : (limit t : ℕ) (leave : Option ℕ) (sent : List Sent) (life : Life) → KeepsApart limit t leave life sent →
    EndsWithBye leave sent
ends_in limit t leave sent (finished outcome) (inl h) = kept_end limit leave sent h.all
ends_in limit t leave sent (finished outcome) (inr h) = bye_ends limit leave sent h
ends_in limit t leave sent life h = kept_end limit leave sent h.kept.all

limit_in : (limit t : ℕ) (leave : Option ℕ) (sent : List Sent) (life : Life) → KeepsApart limit t leave life sent →
    AllFit limit sent
limit_in limit t leave sent (finished outcome) (inl h) = kept_fit limit sent h.all
limit_in limit t leave sent (finished outcome) (inr h) = bye_fits limit leave sent h
limit_in limit t leave sent life h = kept_fit limit sent h.kept.all

-- ---- All together

pub bounds_of : (history : History) → IsHistory history → KeepsBounds history
bounds_of history is =
    let limit : ℕ = history.setup.limit in
    let now : ℕ = last_moment history.acts in
    let leave : Option ℕ = first_leave history.acts in
    let sent : List Sent = sent_at history in
    let life : Life = life_at history in
    let apart : KeepsApart limit now leave life sent = apart_in history life is refl in
    let reports : AreReports limit (reports_in sent) = reports_apart limit now leave sent life apart in
    record {
      spaced = spaced limit (reports_in sent) reports;
      first = none_too_soon limit (reports_in sent) reports;
      window = λ from width. few_fit from width (newest_moment (reports_in sent)) _
          (fills limit from (from + width) (reports_in sent) reports);
      leaves_once = ends_in limit now leave sent life apart;
      few_changes = few_changes history.setup history.word history.acts is.taken;
      limit = limit_in limit now leave sent life apart;
    }
