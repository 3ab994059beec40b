-- What a tick makes of a session (RFC 3550, 6.3.4 to 6.3.6): a check of the members, and a report where one
-- is due.
use Rattle.std.specs.Prelude.{ℕ, ◌+◌, ◌-◌, ◌*◌, ◌&&◌, Bool, nat_le, List, ◌∷◌, if◌then◌else◌, length, Option, Some, None}
use Rattle.rtcp_clock.specs.Intervals.{drawn_interval}
use Rattle.rtcp_members.specs.Present.{Horizons, check_made, source_forgotten, with_blocks}
use Rattle.rtcp_timer.specs.Schedules.{Happening, transmitted, tried, recounted}
use Rattle.rtcp_engine.specs.answers.Setups.{Setup}
use Rattle.rtcp_engine.specs.answers.OwnStreams.{check_passed, report_sent}
use Rattle.rtcp_engine.specs.answers.Outcomes.{Outcome, member_count, interval_at, check_interval, timing_of}
use Rattle.rtcp_engine.specs.answers.Reporting.{reported_at, report_octets}

-- The members are counted again, since some may have departed (6.3.4).
abbrev pub with_recount : Setup → (t : ℕ) → Outcome → Outcome
with_recount setup t outcome =
    record outcome { happenings = recounted t (member_count setup outcome) ∷ outcome.happenings }

-- The horizons of a check (6.3.5, 6.3.7): five intervals for a source, two for its packets, and five seconds
-- for one that left.
abbrev pub horizons_of : (t interval : ℕ) → Horizons
horizons_of t interval =
    record { silent = t - 5 * interval; idle = t - 2 * interval; gone = t + 1 - 5000000 }

-- A check drops those who are silent for too long, and the members are counted again.
abbrev pub checked : Setup → (t : ℕ) → Outcome → Outcome
checked setup t outcome =
    let horizons = horizons_of t (check_interval setup t outcome) in
    with_recount setup t (record outcome {
      trace = check_made horizons ∷ outcome.trace;
      own = check_passed horizons.idle ∷ outcome.own;
    })

abbrev pub with_report : Setup → (t : ℕ) → Outcome → Outcome
with_report setup t outcome =
    record outcome {
      trace = with_blocks (reported_at setup t outcome) outcome.trace;
      own = report_sent ∷ outcome.own;
      sizes = length (report_octets setup t outcome) ∷ outcome.sizes;
      reports = outcome.reports + 1;
    }

-- An interval is drawn, for the next transmission or to see whether one is due (6.3.6).
abbrev pub with_draw : (how : (moment interval members : ℕ) → Happening) → Setup → (t word : ℕ) → Outcome → Outcome
with_draw how setup t word outcome =
    let drawn = how t (drawn_interval (interval_at setup outcome) word) (member_count setup outcome) in
    record outcome { happenings = drawn ∷ outcome.happenings }

-- ---- What functions do one after the other: each unfolds to a part of what stands above, or of a tick (Lives)

abbrev pub with_forgotten : (ssrc : ℕ) → Outcome → Outcome
with_forgotten ssrc outcome = record outcome { trace = source_forgotten ssrc ∷ outcome.trace }

abbrev pub without_source : Setup → (t ssrc : ℕ) → Outcome → Outcome
without_source setup t ssrc outcome = with_recount setup t (with_forgotten ssrc outcome)

abbrev pub with_check : Horizons → Outcome → Outcome
with_check horizons outcome =
    record outcome {
      trace = check_made horizons ∷ outcome.trace;
      own = check_passed horizons.idle ∷ outcome.own;
    }

abbrev pub without_silent : Setup → (t : ℕ) → Outcome → Outcome
without_silent setup t outcome = with_check (horizons_of t (check_interval setup t outcome)) outcome

-- Whether the moment of the next report has come.
abbrev pub has_come : (t : ℕ) → Outcome → Bool
has_come t outcome = nat_le (timing_of outcome).next t

-- Whether the interval that is drawn now has passed since the last report (6.3.6).
abbrev pub has_passed : Setup → (t word : ℕ) → Outcome → Bool
has_passed setup t word outcome =
    nat_le ((timing_of outcome).last + drawn_interval (interval_at setup outcome) word) t

abbrev pub is_report_due : Setup → (t word : ℕ) → Outcome → Bool
is_report_due setup t word outcome = has_come t outcome && has_passed setup t word outcome

-- the octets of the report, if one is due
abbrev pub report_due : Setup → (t word : ℕ) → Outcome → Option (List ℕ)
report_due setup t word outcome =
    if is_report_due setup t word outcome then Some (report_octets setup t outcome) else None

-- The next interval is drawn.
abbrev pub drawn_anew : Setup → (t word : ℕ) → Outcome → Outcome
drawn_anew = with_draw transmitted

abbrev pub reported : Setup → (t word : ℕ) → Outcome → Outcome
reported setup t word outcome = drawn_anew setup t word (with_report setup t outcome)

-- It is not due yet, and the next moment to ask is later.
abbrev pub put_off : Setup → (t word : ℕ) → Outcome → Outcome
put_off = with_draw tried

-- what asking whether a report is due leaves, if none is sent
abbrev pub tried_at : Setup → (t word : ℕ) → Outcome → Outcome
tried_at setup t word outcome = if has_come t outcome then put_off setup t word outcome else outcome

abbrev pub after_check : Setup → (t first_word second_word : ℕ) → Outcome → Outcome
after_check setup t first_word second_word outcome =
    if has_come t outcome
    then (if has_passed setup t first_word outcome
    then reported setup t second_word outcome
    else put_off setup t first_word outcome)
    else outcome

abbrev pub after_tick : Setup → (t first_word second_word : ℕ) → Outcome → Outcome
after_tick setup t first_word second_word outcome =
    after_check setup t first_word second_word (checked setup t outcome)
