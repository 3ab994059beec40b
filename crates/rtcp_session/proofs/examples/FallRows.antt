-- What would be wrong of falls: the law with a part left out.
use Rattle.std.proofs.Common.{◌≡◌, ℕ, ◌+◌, ◌*◌, ◌≤◌, ◌++◌, List, [], ◌∷◌, refl, arith}
use Rattle.rtcp_engine.specs.answers.Histories.{History}
use Rattle.rtcp_engine.specs.state.Taken.{IsHistory}
use Rattle.rtcp_engine.specs.bounds.Sent.{Sent, reports_in, sent_at}
use Rattle.rtcp_session.specs.Falls.{AllWaitAtMost, HasReport, TicksWithin, falls_within}
use Rattle.rtcp_session.proofs.examples.CrowdRows.{stands, who_hears}

-- ---- A participant that was not told of anything yet

abbrev pub told : History
told = (who_hears 187 170).history

abbrev pub untold : History
untold = record { setup = told.setup; word = told.word; acts = [] }

pub untold_stands : IsHistory untold
untold_stands = let whole : IsHistory told = stands told refl in
    record { usable = whole.usable; word = whole.word; taken = tt }

pub has_none : (from until : ℕ) → HasReport from until [] → ⊥
has_none from until h = by h.later h.report h.earlier h.parts
  where
    by : (later : List Sent) (report : Sent) (earlier : List Sent) → [] ≡ later ++ report ∷ earlier → ⊥
    by [] report earlier is = absurd cc
    by (newest ∷ later) report earlier is = absurd cc

-- As many waits as there are falls are too few.
no_wait_less : ((history : History) (wait lag from until falls : ℕ) → IsHistory history →
    AllWaitAtMost wait from history.setup history.word history.acts →
    TicksWithin lag from until history.acts →
    falls_within history.setup history.word from until history.acts ≤ falls → from + falls * (wait + lag) ≤ until
    → HasReport from until (reports_in (sent_at history))) → ⊥
no_wait_less law =
    has_none 1 1 (law untold 1 1 1 1 0 untold_stands tt (λ moment after before. absurd (omega (arith, after, before)))
    (omega arith) (omega arith))

-- Where nobody ticks, nothing is sent.
no_tick_less : ((history : History) (wait from until falls : ℕ) → IsHistory history →
    AllWaitAtMost wait from history.setup history.word history.acts →
    falls_within history.setup history.word from until history.acts ≤ falls → from + (falls + 1) * wait ≤ until
    → HasReport from until (reports_in (sent_at history))) → ⊥
no_tick_less law = has_none 1 2 (law untold 1 1 2 0 untold_stands tt (omega arith) (omega arith))
