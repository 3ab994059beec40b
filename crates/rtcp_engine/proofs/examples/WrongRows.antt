-- What would be wrong: each statement here is a law with a number moved or a part left out, and there is a session
-- where it does not hold. The participant is that of the other rows.
use Rattle.std.proofs.Common.{◌≡◌, ◌⊎◌, ℕ, zero, suc, ◌+◌, ◌*◌, ◌/◌, ◌<◌, ◌≤◌, ◌^◌, List, [], ◌∷◌, length, All, Option, Some, None, Ok, unwrap_or, true, false, refl, ap, arith, inl, inr}
use Rattle.std.specs.Option.{option_or}
use Rattle.std.proofs.lemmas.List.Elements.{All-head, All-map}
use Rattle.rtcp_wire.specs.Values.{ChunkValue, rr, sdes, bye}
use Rattle.rtcp_members.specs.Traces.{TraceStep}
use Rattle.rtcp_members.specs.Stays.{stay_of}
use Rattle.rtcp_members.specs.Listings.{StateValue, state_in_stay}
use Rattle.rtcp_engine.specs.answers.Setups.{IsUsable}
use Rattle.rtcp_engine.specs.answers.Acts.{Datagram, rtcp, Act, arrived, rtp_sent, ticked, left}
use Rattle.rtcp_engine.specs.answers.Answers.{followed_by, refusal_after}
use Rattle.rtcp_engine.specs.answers.Changes.{is_taken, new_identifier}
use Rattle.rtcp_engine.specs.answers.Histories.{History, last_moment, life_at, session_at, setup_at}
use Rattle.rtcp_engine.specs.bounds.InTime.{BringsOut, longest_wait}
use Rattle.rtcp_engine.specs.answers.Leaving.{Backoff, Life, present, backing_off, finished, backoff_from, leaving_timing}
use Rattle.rtcp_engine.specs.answers.Lives.{ListsInLife}
use Rattle.rtcp_engine.specs.answers.Outcomes.{Outcome}
use Rattle.rtcp_engine.specs.bounds.Sent.{Sent, reports_in, sent_at}
use Rattle.rtcp_engine.specs.bounds.Spacing.{HalfPasses, newest_moment, count_within, leave_moment, first_leave, is_last_bye, EndsWithBye, LiesAfter}
use Rattle.rtcp_engine.specs.state.States.{ParticipantValue, StandsAt}
use Rattle.rtcp_engine.specs.state.Taken.{IsHistory, NamesFew}
use Rattle.rtcp_engine.proofs.LawLemmas.{usable_is_unrefused}
use Rattle.rtcp_engine.proofs.AnswerLemmas.{taken_history}
use Rattle.rtcp_engine.proofs.examples.Rows.{setup, start, items_a, named_came}

abbrev history_of : List Act → History
history_of acts = record { setup = setup; word = 0; acts = acts }

usable : IsUsable setup
usable = (usable_is_unrefused setup).1 refl

start_stands : IsHistory start
start_stands = record { usable = usable; word = omega arith; taken = tt }

-- ---- Reports, each as soon as it may come

abbrev once : History
once = history_of (ticked 1026037 0 0 ∷ [])

once_stands : IsHistory once
once_stands = record { usable = usable; word = omega arith; taken = (refl, (omega arith, omega arith), tt) }

abbrev twice : History
twice = history_of (ticked 3078111 0 0 ∷ ticked 1026037 0 0 ∷ [])

twice_stands : IsHistory twice
twice_stands = record {
  usable = usable;
  word = omega arith;
  taken = (refl, (omega arith, omega arith), (refl, (omega arith, omega arith), tt));
}

first_report_later : ((history : History) → IsHistory history →
    All (λ report. 1026038 ≤ report.moment) (reports_in (sent_at history))) → ⊥
first_report_later law =
    let P : ℕ → Type 0 = λ (moment : ℕ). 1026038 ≤ moment in
    let moments : All P (1026037 ∷ []) =
    All-map P (λ (report : Sent). report.moment) (reports_in (sent_at once)) (law once once_stands) in
    let later : 1026038 ≤ 1026037 = All-head P 1026037 [] moments in
    omega (arith, later)

fewer_in_a_window : ((history : History) (from width : ℕ) → IsHistory history →
    count_within from width (reports_in (sent_at history)) ≤ 1 + width / 2052075) → ⊥
fewer_in_a_window law =
    let two : 2 ≤ 1 = law twice 1026037 2052074 twice_stands in
    omega (arith, two)

-- as far apart as for an interval that is a microsecond longer
abbrev AreFurther : List Sent → Type 0
AreFurther [] = Unit {0}
AreFurther (report ∷ earlier) =
    HalfPasses (newest_moment earlier) report.moment (report.interval + 1) × AreFurther earlier

reports_further_apart : ((history : History) → IsHistory history → AreFurther (reports_in (sent_at history))) → ⊥
reports_further_apart law =
    let passes : 100000 * 2500001 ≤ 2 * 121828 * 1026037 = (law once once_stands).0 in
    omega (arith, passes)

-- ---- A fall of the members puts a report off

abbrev fallen : History
fallen = history_of (arrived 3026037 1 0 (rtcp 16 (Ok (rr 1 [] [] ∷ bye (1 ∷ []) None ∷ []))) ∷ ticked 1026037 0
    4294967295 ∷ named_came 0 1 ∷ [])

fallen_stands : IsHistory fallen
fallen_stands = record {
  usable = usable;
  word = omega arith;
  taken = (refl, omega arith, (refl, (omega arith, omega arith), (refl, omega arith, tt)));
}

abbrev its_outcome : Life → Outcome
its_outcome (present outcome) = outcome
its_outcome (backing_off outcome backoff) = outcome
its_outcome (finished outcome) = outcome

overdue_without_falls : ((history : History) (outcome : Outcome) (moment first_word second_word : ℕ) →
    IsHistory history → life_at history ≡ present outcome →
    newest_moment (reports_in (sent_at history)) + longest_wait history (ticked moment first_word second_word)
    ≤ moment →
    BringsOut history (ticked moment first_word second_word)) → ⊥
overdue_without_falls law =
    let out : false ≡ true =
    law fallen (its_outcome (life_at fallen)) 7182258 4294967295 0 fallen_stands refl (omega arith) in
    absurd cc

-- ---- A leave with 50 others, after a packet

abbrev others : ℕ → List ChunkValue
others zero = []
others (suc n) = record { id = suc n; items = items_a } ∷ others n

abbrev crowded : List Act
crowded = arrived 0 1 0 (rtcp 8 (Ok (rr 1 [] [] ∷ sdes (others 50) ∷ []))) ∷ rtp_sent 0 0 0 ∷ []

abbrev leaving : History
leaving = history_of (left 10000000 0 ∷ crowded)

leaving_stands : IsHistory leaving
leaving_stands = record {
  usable = usable;
  word = omega arith;
  taken = (refl, omega arith, (refl, omega arith, (refl, (omega arith, omega arith), tt)));
}

backoff_begins_later : ((history : History) (outcome : Outcome) (backoff : Backoff) → IsHistory history →
    life_at history ≡ backing_off outcome backoff →
    LiesAfter (backoff.since + 1) backoff.happenings (leaving_timing backoff)) → ⊥
backoff_begins_later law =
    let outcome = its_outcome (life_at (history_of crowded)) in
    let lies = law leaving outcome (backoff_from setup 10000000 0 outcome) leaving_stands refl in
    let after : 10000001 ≤ 10000000 = lies.0 in
    omega (arith, after)

-- The BYE comes as soon as it may.
abbrev said : History
said = history_of (ticked 11026037 0 0 ∷ left 10000000 0 ∷ crowded)

said_stands : IsHistory said
said_stands = record {
  usable = usable;
  word = omega arith;
  taken = (refl, (omega arith, omega arith), leaving_stands.taken);
}

-- no sooner than a microsecond after that
abbrev IsLater : (leave : Option ℕ) → Sent → Type 0
IsLater None sent = ⊥
IsLater (Some leave) sent =
    (sent.moment ≡ leave) ⊎ (HalfPasses leave sent.moment sent.interval × (leave + 1026038 ≤ sent.moment))

abbrev EndsLater : (leave : Option ℕ) → List Sent → Type 0
EndsLater leave [] = Unit {0}
EndsLater leave (newest ∷ earlier) =
    All (λ sent. is_last_bye sent ≡ false) earlier × (is_last_bye newest ≡ true → IsLater leave newest)

bye_later_in_a_backoff : ((history : History) → IsHistory history →
    EndsLater (first_leave history.acts) (sent_at history)) → ⊥
bye_later_in_a_backoff law = late ((law said said_stands).1 refl)
  where
    late : (◌≡◌ {A = ℕ} 11026037 10000000) ⊎ ((100000 * 2500000 ≤ 2 * 121828 * 1026037) × (11026038 ≤ 11026037)) → ⊥
    late (inl same) = omega (arith, same)
    late (inr later) = omega (arith, later.1)

-- the moment of the newest leave
abbrev last_leave : List Act → Option ℕ
last_leave [] = None
last_leave (act ∷ earlier) = option_or (leave_moment act) (last_leave earlier)

-- a second leave in the backoff
abbrev asked_again : History
asked_again = history_of (ticked 11026037 0 0 ∷ left 11000000 0 ∷ left 10000000 0 ∷ crowded)

asked_again_stands : IsHistory asked_again
asked_again_stands = record {
  usable = usable;
  word = omega arith;
  taken = (refl, (omega arith, omega arith), (refl, omega arith, leaving_stands.taken));
}

last_leave_counts : ((history : History) → IsHistory history →
    EndsWithBye (last_leave history.acts) (sent_at history)) → ⊥
last_leave_counts law = late ((law asked_again asked_again_stands).1 refl)
  where
    late : ((◌≡◌ {A = ℕ} 11026037 11000000) × (◌≡◌ {A = ℕ} 2500000 0))
        ⊎ ((100000 * 2500000 ≤ 2 * 121828 * 26037) × (12026037 ≤ 11026037)) → ⊥
    late (inl same) = omega (arith, same.0)
    late (inr later) = omega (arith, later.1)

-- ---- What is told of a source that was heard at the latest call

abbrev heard : History
heard = history_of (named_came 0 0 ∷ [])

heard_stands : IsHistory heard
heard_stands = record { usable = usable; word = omega arith; taken = (refl, omega arith, tt) }

abbrev its_stay : List TraceStep
its_stay = unwrap_or (stay_of 1024 (its_outcome (life_at heard)).trace 0) []

told_only_before_the_latest : ((history : History) → IsHistory history → (after : Option ℕ) (state : StateValue) →
    ListsInLife (setup_at history) after (life_at history) (Some state) →
    state.heard < last_moment history.acts) → ⊥
told_only_before_the_latest law =
    let sooner : 0 < 0 = law heard heard_stands None (state_in_stay 0 its_stay)
    (record {
      above = refl;
      least = λ ssrc is below. absurd (omega (arith, below));
      stay = its_stay;
      present = refl;
      says = refl;
    }) in
    omega (arith, sooner)

-- ---- An identifier that is taken is not taken again

abbrev names_another : Datagram
names_another = rtcp 8 (Ok (rr 7 [] [] ∷ []))

new_identifier_is_taken : ((history : History) (datagram : Datagram) (word : ℕ) → IsHistory history →
    word < 2 ^ 32 → NamesFew datagram →
    is_taken (session_at history) datagram (new_identifier word (session_at history) datagram)
    ≡ is_taken (session_at history) datagram word) → ⊥
new_identifier_is_taken law =
    let same : false ≡ true = law start names_another 170 start_stands (omega arith) (omega arith) in
    absurd cc

-- ---- A call that is taken always leaves a participant with one call more.

taken_call_changes_nothing : (old new : ParticipantValue) (history : History) (act : Act) →
    refusal_after history act ≡ None → StandsAt old history → StandsAt new (followed_by history act) → new ≡ old → ⊥
taken_call_changes_nothing old new history act taken before after same =
    let followed = taken_history history act taken in
    let more = ap (λ (it : History). length it.acts) followed in
    let calls = ap (λ (it : ParticipantValue). it.presence.calls) same in
    omega (arith, before.calls, after.calls, more, calls)
