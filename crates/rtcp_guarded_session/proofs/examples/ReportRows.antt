-- A session in which all premises of the law hold: two members of the origin 1 say BYE, and the participant reports.
use Rattle.std.proofs.Common.{◌≡◌, ℕ, ◌+◌, ◌*◌, ◌<◌, ◌≤◌, ◌++◌, List, [], ◌∷◌, length, map, refl, arith, inl, inr}
use Rattle.std.proofs.lemmas.Bool.{cases_lt}
use Rattle.rtcp_clock.specs.Intervals.{longest_draw}
use Rattle.rtcp_engine.specs.answers.Acts.{Act, ticked}
use Rattle.rtcp_engine.specs.bounds.Sent.{reports_in, sent_at}
use Rattle.rtcp_guard.specs.Histories.{IsWithinHold}
use Rattle.rtcp_guarded.specs.Guarded.{GuardedHistory, told, passed_at}
use Rattle.rtcp_session.specs.Falls.{AllWaitAtMost, HasTick, TicksWithin}
use Rattle.rtcp_guarded_session.specs.Goodbyes.{IsStretch, LosesNone, departures_from, other_departures}
use Rattle.rtcp_guarded_session.proofs.examples.GoodbyeRows.{after, leaves, named, usable}

-- With the usual settings, eight sources and a hold of a minute, a participant whose interval is the minimum reports
-- within the minute where it ticks each half second.
minute_is_enough : (8 + 0 + 1) * (longest_draw 5000000 + 500000) ≤ 60000000
minute_is_enough = omega arith

-- ---- Ticks each ten seconds

abbrev to_first : List Act
to_first = leaves 9000000 1 7 ∷ named 1 1 8 ∷ named 1 1 7 ∷ []

abbrev to_second : List Act
to_second = leaves 19000000 1 8 ∷ ticked 10000000 0 0 ∷ to_first

abbrev to_third : List Act
to_third = ticked 20000000 0 0 ∷ to_second

abbrev to_fourth : List Act
to_fourth = ticked 30000000 0 0 ∷ to_third

abbrev to_last : List Act
to_last = ticked 40000000 0 0 ∷ to_fourth

abbrev acts : List Act
acts = ticked 50000000 0 0 ∷ to_last

abbrev session : GuardedHistory
session = after (map told acts)

all_passed : (passed_at session).acts ≡ acts
all_passed = refl

both_left : departures_from 1 0 51000000 (passed_at session) ≡ 2
both_left = refl

no_others : other_departures (1 ∷ []) 0 51000000 (passed_at session) ≡ 0
no_others = refl

-- ---- The premises

in_a_minute : {P : Type 0} (moment : ℕ) → moment ≤ 60000000 → P → IsWithinHold 60000000 0 moment
in_a_minute moment before given = record { from = omega arith; until = before }

is_stretch : IsStretch 0 (map told acts) (after [])
is_stretch = record {
  passed = record {
    usable = usable;
    word = omega arith;
    taken = (
      refl,
      (omega arith, omega arith),
      (
        refl,
        (omega arith, omega arith),
        (
          refl,
          (omega arith, omega arith),
          (
            refl,
            (omega arith, omega arith),
            (
              refl,
              omega arith,
              (
                refl,
                (omega arith, omega arith),
                (
                  refl,
                  omega arith,
                  (refl, omega arith, (refl, omega arith, tt)),
                ),
              ),
            ),
          ),
        ),
      ),
    );
  };
  few = (omega arith, (omega arith, (omega arith, (omega arith, tt))));
  begins = omega arith;
  within = (
    in_a_minute 50000000 (omega arith),
    (
      in_a_minute 40000000 (omega arith),
      (
        in_a_minute 30000000 (omega arith),
        (
          in_a_minute 20000000 (omega arith),
          (
            in_a_minute 19000000 (omega arith),
            (
              in_a_minute 10000000 (omega arith),
              (
                in_a_minute 9000000 (omega arith),
                (
                  in_a_minute 1 (omega arith),
                  (in_a_minute 1 (omega arith), tt),
                ),
              ),
            ),
          ),
        ),
      ),
    ),
  );
}

loses_none : LosesNone 1 (map told acts) (after [])
loses_none = tt

waits : let passed = passed_at session in AllWaitAtMost 7000000 0 passed.setup passed.word passed.acts
waits = (
  λ _. ((_, refl), omega arith),
  (
    λ _. ((_, refl), omega arith),
    (
      λ _. ((_, refl), omega arith),
      (
        λ _. ((_, refl), omega arith),
        (
          λ _. tt,
          (
            λ _. ((_, refl), omega arith),
            (
              λ _. tt,
              (
                λ _. tt,
                (λ _. tt, tt),
              ),
            ),
          ),
        ),
      ),
    ),
  ),
)

at_tick : (moment tick : ℕ) (later earlier : List Act) → acts ≡ later ++ ticked tick 0 0 ∷ earlier → moment ≤ tick →
    tick ≤ moment + 10000000 → HasTick moment (moment + 10000000) acts
at_tick moment tick later earlier parts since before = record {
  moment = tick;
  first_word = 0;
  second_word = 0;
  later = later;
  earlier = earlier;
  parts = parts;
  after = since;
  before = before;
}

-- moments by which a tick comes
abbrev HasNext : (moment : ℕ) → Type 0
HasNext moment = HasTick moment (moment + 10000000) acts

after_40 : (moment : ℕ) → 40000000 < moment → moment ≤ 41000000 → HasNext moment
after_40 moment late before = at_tick moment 50000000 [] to_last refl (omega arith) (omega arith)

after_30 : (moment : ℕ) → 30000000 < moment → moment ≤ 41000000 → HasNext moment
after_30 moment late before = elim (cases_lt 40000000 moment) [
  | inl later ↦ after_40 moment later before
  | inr soon ↦ at_tick moment 40000000 (ticked 50000000 0 0 ∷ []) to_fourth refl (omega arith) (omega arith)
]

after_20 : (moment : ℕ) → 20000000 < moment → moment ≤ 41000000 → HasNext moment
after_20 moment late before = elim (cases_lt 30000000 moment) [
  | inl later ↦ after_30 moment later before
  | inr soon ↦ at_tick moment 30000000 (ticked 50000000 0 0 ∷ ticked 40000000 0 0 ∷ []) to_third refl (omega arith)
      (omega arith)
]

after_10 : (moment : ℕ) → 10000000 < moment → moment ≤ 41000000 → HasNext moment
after_10 moment late before = elim (cases_lt 20000000 moment) [
  | inl later ↦ after_20 moment later before
  | inr soon ↦ at_tick moment 20000000 (ticked 50000000 0 0 ∷ ticked 40000000 0 0 ∷ ticked 30000000 0 0 ∷ []) to_second
      refl (omega arith) (omega arith)
]

often : TicksWithin 10000000 0 51000000 (passed_at session).acts
often moment since before = elim (cases_lt 10000000 moment) [
  | inl later ↦ after_10 moment later (omega arith)
  | inr soon ↦ at_tick moment 10000000 (ticked 50000000 0 0 ∷ ticked 40000000 0 0 ∷ ticked 30000000 0 0
      ∷ ticked 20000000 0 0 ∷ leaves 19000000 1 8 ∷ []) to_first refl (omega arith) (omega arith)
]

-- as many waits as the origin may have sources, and one more
room : 0 + (2 + 0 + 1) * (7000000 + 10000000) ≤ 51000000
room = omega arith

-- and so a report came
reports : length (reports_in (sent_at (passed_at session))) ≡ 5
reports = refl
