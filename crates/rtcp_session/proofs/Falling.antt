-- Few falls put off few reports: as long as none comes, each longest wait with its lag has a fall of its own.
use Rattle.std.proofs.Common.{◌≡◌, ℕ, zero, suc, ◌+◌, ◌*◌, ◌<◌, ◌≤◌, ◌⊎◌, ◌&&◌, ◌++◌, nat_le, nat_lt, Bool, true, false, IsTrue, List, [], ◌∷◌, Option, Some, None, is_some, option_map, if◌then◌else◌, inl, inr, refl, sym, ap, subst, ◌∙◌, arith}
use Rattle.std.proofs.lemmas.Bool.{cases_lt, lt-ltb, le-leb, ltb-true, leb-true}
use Rattle.std.proofs.lemmas.List.{append_assoc}
use Rattle.std.proofs.lemmas.List.Elements.{filter-append}
use Rattle.rtcp_engine.specs.answers.Setups.{Setup}
use Rattle.rtcp_engine.specs.answers.Acts.{Act, ticked, moment_of, OutValue}
use Rattle.rtcp_engine.specs.answers.Outcomes.{Outcome}
use Rattle.rtcp_engine.specs.answers.Leaving.{Life, present}
use Rattle.rtcp_engine.specs.answers.Lives.{report_out}
use Rattle.rtcp_engine.specs.answers.Changes.{Session}
use Rattle.rtcp_engine.specs.declared.changes.IdentifierChange.{IdentifierChange}
use Rattle.rtcp_engine.specs.answers.Histories.{History, brought_by, last_moment, session_for, session_of}
use Rattle.rtcp_engine.specs.state.Taken.{AllTaken, IsHistory}
use Rattle.rtcp_engine.specs.bounds.Sent.{Sent, is_report, reports_in, sent_at, sent_by, sent_over, sent_with}
use Rattle.rtcp_engine.specs.bounds.Spacing.{newest_moment}
use Rattle.rtcp_engine.specs.bounds.InTime.{AllInTime, HasWaited, IsInTime, is_fall, last_fall, longest_wait}
use Rattle.rtcp_engine.proofs.LawLemmas.{sends_in_time}
use Rattle.rtcp_session.specs.Falls.{AllWaitAtMost, HasReport, HasTick, TicksWithin, WaitsAtMost, falls_within}
use Rattle.rtcp_session.proofs.Taking.{in_time}

-- ---- Counts of falls

never : false ≡ true → ⊥
never e = absurd cc

-- A fall lies in one of two stretches at most, and then in both together.
in_parts : (a_m m_b b_m m_c : Bool) → (m_b ≡ true → m_c ≡ true) → (b_m ≡ true → a_m ≡ true) →
    (m_b ≡ true → b_m ≡ true → ⊥)
    → (if a_m && m_b then 1 else 0) + (if b_m && m_c then 1 else 0) ≤ (if a_m && m_c then 1 else 0)
in_parts true true true m_c later sooner apart = absurd (apart refl refl)
in_parts true true false true later sooner apart = omega arith
in_parts true true false false later sooner apart = absurd (never (later refl))
in_parts true false true m_c later sooner apart = omega arith
in_parts true false false m_c later sooner apart = omega arith
in_parts false m_b true m_c later sooner apart = absurd (never (sooner refl))
in_parts false m_b false m_c later sooner apart = omega arith

one_apart : (fell : Bool) (a b c m : ℕ) → a ≤ b → b ≤ c →
    (if fell && (nat_lt a m && nat_le m b) then 1 else 0) + (if fell && (nat_lt b m && nat_le m c) then 1 else 0)
    ≤ (if fell && (nat_lt a m && nat_le m c) then 1 else 0)
one_apart false a b c m ab bc = omega arith
one_apart true a b c m ab bc =
    in_parts (nat_lt a m) (nat_le m b) (nat_lt b m) (nat_le m c)
    (λ is. le-leb m c (omega (arith, leb-true m b is, bc)))
    (λ is. lt-ltb a m (omega (arith, ltb-true b m is, ab)))
    (λ is is_not. omega (arith, leb-true m b is, ltb-true b m is_not))

counts_one : (a b : Bool) → a ≡ true → b ≡ true → 1 ≤ (if a && b then 1 else 0)
counts_one true true is also = omega arith
counts_one true false is also = absurd (never also)
counts_one false b is also = absurd (never is)

one_fall : (fell : Bool) (m older rest from until : ℕ) → from < (if fell then m else older) →
    (if fell then m else older) ≤ until → (from < older → older ≤ until → 1 ≤ rest)
    → 1 ≤ (if fell && (nat_lt from m && nat_le m until) then 1 else 0) + rest
one_fall true m older rest from until after before earlier =
    let counted = counts_one (nat_lt from m) (nat_le m until) (lt-ltb from m after) (le-leb m until before) in
    omega (arith, counted)
one_fall false m older rest from until after before earlier = omega (arith, earlier after before)

-- ---- Reports

newest_if : (b : Bool) (sent : Sent) (rest : List Sent) (m : ℕ) → sent.moment ≤ m → newest_moment rest ≤ m →
    newest_moment (if b then sent ∷ rest else rest) ≤ m
newest_if true sent rest m here older = here
newest_if false sent rest m here older = older

newest_with : (m interval : ℕ) (changes : Bool) (out : Option OutValue) (older : List Sent) →
    newest_moment (reports_in older) ≤ m → newest_moment (reports_in (sent_with m interval changes out ++ older)) ≤ m
newest_with m interval changes None older before = before
newest_with m interval changes (Some out) older before =
    let sent : Sent = record { moment = m; interval = interval; out = out; changes = changes } in
    newest_if (is_report sent) sent (reports_in older) m (omega arith) before

newest_lies : (from until : ℕ) (reports : List Sent) → from < newest_moment reports → newest_moment reports ≤ until →
    HasReport from until reports
newest_lies from until [] after before = absurd (omega (arith, after))
newest_lies from until (newest ∷ earlier) after before =
    record {
      report = newest;
      later = [];
      earlier = earlier;
      parts = refl;
      after = omega (arith, after);
      before = before;
    }

-- a report that is due
due_report : (m interval : ℕ) (due : Option (List ℕ)) (older : List Sent) →
    IsTrue (is_some (option_map report_out due))
    → HasReport m m (reports_in (sent_with m interval false (option_map report_out due) ++ older))
due_report m interval None older brings = absurd (never brings)
due_report m interval (Some octets) older brings = record {
  report = record { moment = m; interval = interval; out = report_out octets; changes = false };
  later = [];
  earlier = reports_in older;
  parts = refl;
  after = omega arith;
  before = omega arith;
}

wider : (from until low high : ℕ) (reports : List Sent) → from ≤ low → high ≤ until → HasReport low high reports →
    HasReport from until reports
wider from until low high reports after before h = record {
  report = h.report;
  later = h.later;
  earlier = h.earlier;
  parts = h.parts;
  after = omega (arith, after, h.after);
  before = omega (arith, before, h.before);
}

module _ (setup : Setup) (word : ℕ) where
  abbrev history_of : List Act → History
  history_of acts = record { setup = setup; word = word; acts = acts }

  abbrev reports_over : List Act → List Sent
  reports_over acts = reports_in (sent_over setup word acts)

  -- ---- Longer histories

  reports_further : (from until : ℕ) (later acts : List Act) → HasReport from until (reports_over acts) →
      HasReport from until (reports_over (later ++ acts))
  reports_further from until [] acts h = h
  reports_further from until (act ∷ later) acts h =
      let so_far = reports_further from until later acts h in
      let here : List Sent = sent_by (session_of setup word (later ++ acts)) act in
      record {
        report = so_far.report;
        later = reports_in here ++ so_far.later;
        earlier = so_far.earlier;
        parts = filter-append is_report here (sent_over setup word (later ++ acts))
            ∙ ap (λ (others : List Sent). reports_in here ++ others) so_far.parts
            ∙ sym (append_assoc (reports_in here) so_far.later (so_far.report ∷ so_far.earlier));
        after = so_far.after;
        before = so_far.before;
      }

  waits_there : (wait from : ℕ) (later : List Act) (act : Act) (earlier : List Act) →
      AllWaitAtMost wait from setup word (later ++ act ∷ earlier) → from ≤ moment_of act →
      WaitsAtMost wait (history_of earlier) act
  waits_there wait from [] act earlier h after = h.0 after
  waits_there wait from (newer ∷ later) act earlier h after = waits_there wait from later act earlier h.1 after

  in_time_there : (later : List Act) (act : Act) (earlier : List Act) →
      AllInTime setup word (later ++ act ∷ earlier) → IsInTime (history_of earlier) act
  in_time_there [] act earlier h = h.0
  in_time_there (newer ∷ later) act earlier h = in_time_there later act earlier h.1

  taken_there : (later acts : List Act) → AllTaken setup word (later ++ acts) → AllTaken setup word acts
  taken_there [] acts h = h
  taken_there (newer ∷ later) acts h = taken_there later acts h.2

  falls_further : (from until : ℕ) (later acts : List Act) →
      falls_within setup word from until acts ≤ falls_within setup word from until (later ++ acts)
  falls_further from until [] acts = omega arith
  falls_further from until (act ∷ later) acts = omega (arith, falls_further from until later acts)

  -- ---- Falls

  falls_apart : (a b c : ℕ) → a ≤ b → b ≤ c → (acts : List Act) →
      falls_within setup word a b acts + falls_within setup word b c acts ≤ falls_within setup word a c acts
  falls_apart a b c ab bc [] = omega arith
  falls_apart a b c ab bc (act ∷ earlier) =
      let now = session_for (session_of setup word earlier) act in
      omega (
        arith,
        falls_apart a b c ab bc earlier,
        one_apart (is_fall now.setup act now.life) a b c (moment_of act) ab bc,
      )

  fall_counted : (from until : ℕ) (acts : List Act) → from < last_fall setup word acts →
      last_fall setup word acts ≤ until → 1 ≤ falls_within setup word from until acts
  fall_counted from until [] after before = absurd (omega (arith, after))
  fall_counted from until (act ∷ earlier) after before =
      let now = session_for (session_of setup word earlier) act in
      one_fall (is_fall now.setup act now.life) (moment_of act) (last_fall setup word earlier)
      (falls_within setup word from until earlier) from until after before (fall_counted from until earlier)

  fall_past : (acts : List Act) → AllTaken setup word acts → last_fall setup word acts ≤ last_moment acts
  fall_past [] taken = omega arith
  fall_past (act ∷ earlier) taken =
      let now = session_for (session_of setup word earlier) act in
      by (is_fall now.setup act now.life) (last_fall setup word earlier) (last_moment earlier) (moment_of act)
      (fall_past earlier taken.2) (in_time (history_of earlier) act taken.0)
    where
      by : (fell : Bool) (older latest m : ℕ) → older ≤ latest → latest ≤ m → (if fell then m else older) ≤ m
      by true older latest m before order = omega arith
      by false older latest m before order = omega (arith, before, order)

  report_past : (acts : List Act) → AllTaken setup word acts → newest_moment (reports_over acts) ≤ last_moment acts
  report_past [] taken = omega arith
  report_past (act ∷ earlier) taken =
      let before = session_of setup word earlier in
      newest_with (moment_of act) _ _ (brought_by before act) (sent_over setup word earlier)
      (omega (arith, report_past earlier taken.2, in_time (history_of earlier) act taken.0))

  -- ---- A tick

  module _ (moment first_word second_word : ℕ) (earlier : List Act) where
    abbrev tick : Act
    tick = ticked moment first_word second_word

    brings : (changes : List IdentifierChange) (own : Setup) (life : Life) (outcome : Outcome) (older : List Sent) →
        life ≡ present outcome →
        let session : Session = record { setup = own; changes = changes; life = life } in
        IsTrue (is_some (brought_by session tick)) →
        HasReport moment moment (reports_in (sent_by session tick ++ older))
    brings changes own life outcome older is =
        subst (λ (l : Life). let session : Session = record { setup = own; changes = changes; life = l } in
        IsTrue (is_some (brought_by session tick)) →
        HasReport moment moment (reports_in (sent_by session tick ++ older)))
        (sym is) (due_report moment _ _ older)

    waited : (wait fall : ℕ) (sent : List Sent) (life : Life) (outcome : Outcome) → life ≡ present outcome →
        newest_moment (reports_in sent) + wait ≤ moment → fall + wait ≤ moment → HasWaited wait moment fall sent life
    waited wait fall sent life outcome is report fell =
        subst (HasWaited wait moment fall sent) (sym is) (report, fell)

    -- It brings a report, or one came since, or a fall did.
    by_tick : (wait since : ℕ) → WaitsAtMost wait (history_of earlier) tick → IsInTime (history_of earlier) tick →
        AllTaken setup word (tick ∷ earlier) → since + wait ≤ moment →
        HasReport since moment (reports_over (tick ∷ earlier))
        ⊎ ((since < last_fall setup word (tick ∷ earlier)) × (last_fall setup word (tick ∷ earlier) ≤ moment))
    by_tick wait since waits timely taken late =
        let older : List Sent = sent_over setup word earlier in
        let newest : ℕ = newest_moment (reports_over earlier) in
        let fall : ℕ = last_fall setup word (tick ∷ earlier) in
        let order : last_moment earlier ≤ moment = in_time (history_of earlier) tick taken.0 in
        elim (cases_lt moment (newest + wait)) [
          | inl recent ↦ inl (reports_further since moment (tick ∷ []) earlier
              (newest_lies since moment (reports_over earlier) (omega (arith, recent, late))
              (omega (arith, report_past earlier taken.2, order))))
          | inr long ↦ elim (cases_lt moment (fall + wait)) [
            | inl fell ↦ inr (omega (arith, fell, late), fall_past (tick ∷ earlier) taken)
            | inr calm ↦
                (let life = waits.0 in
                let session = session_of setup word earlier in
                let out = timely (waited (longest_wait (history_of earlier) tick) fall older session.life life.0 life.1
                (omega (arith, long, waits.1)) (omega (arith, calm, waits.1))) in
                inl (wider since moment moment moment (reports_over (tick ∷ earlier)) (omega (arith, late))
                (omega arith)
                (brings session.changes session.setup session.life life.0 older life.1 out)))
          ]
        ]

  -- ---- All ticks

  module _ (acts : List Act) (taken : AllTaken setup word acts) (timely : AllInTime setup word acts)
      (wait lag from until : ℕ) (waits : AllWaitAtMost wait from setup word acts)
      (often : TicksWithin lag from until acts)
    where
      abbrev IsNext : (since moment : ℕ) → Type 0
      IsNext since moment =
          HasReport since moment (reports_over acts) ⊎ (1 ≤ falls_within setup word since moment acts)

      next : (since : ℕ) (tick : HasTick (since + wait) (since + wait + lag) acts) → from ≤ since →
          IsNext since tick.moment
      next since tick after =
          let moment : ℕ = tick.moment in
          let here : Act = ticked moment tick.first_word tick.second_word in
          let these : List Act = here ∷ tick.earlier in
          let all_taken : AllTaken setup word (tick.later ++ these) = subst (AllTaken setup word) tick.parts taken in
          let all_timely : AllInTime setup word (tick.later ++ these) = subst (AllInTime setup word) tick.parts
          timely in
          let all_wait : AllWaitAtMost wait from setup word (tick.later ++ these) =
          subst (AllWaitAtMost wait from setup word) tick.parts waits in
          subst (λ (t : List Act).
          HasReport since moment (reports_over t) ⊎ (1 ≤ falls_within setup word since moment t)) (sym tick.parts)
          (elim (by_tick moment tick.first_word tick.second_word tick.earlier wait since
          (waits_there wait from tick.later here tick.earlier all_wait (omega (arith, after, tick.after)))
          (in_time_there tick.later here tick.earlier all_timely) (taken_there tick.later these all_taken) tick.after) [
            | inl report ↦ inl (reports_further since moment tick.later these report)
            | inr fall ↦ inr (omega (
              arith,
              fall_counted since moment these fall.0 fall.1,
              falls_further since moment tick.later these,
            ))
          ])

      at_report : (falls since : ℕ) (tick : HasTick (since + wait) (since + wait + lag) acts) → from ≤ since →
          since + (falls + 1) * (wait + lag) ≤ until → HasReport since tick.moment (reports_over acts) →
          HasReport from until (reports_over acts)
      at_report falls since tick after room report =
          let short : wait + lag ≤ (falls + 1) * (wait + lag) = omega arith in
          wider from until since tick.moment (reports_over acts) after (omega (arith, tick.before, room, short)) report

      tick_after : (falls since : ℕ) → from ≤ since → since + (falls + 1) * (wait + lag) ≤ until →
          HasTick (since + wait) (since + wait + lag) acts
      tick_after falls since after room =
          let short : wait + lag ≤ (falls + 1) * (wait + lag) = omega arith in
          often (since + wait) (omega (arith, after)) (omega (arith, room, short))

      among : (falls since : ℕ) → from ≤ since → since + (falls + 1) * (wait + lag) ≤ until →
          falls_within setup word since until acts ≤ falls → HasReport from until (reports_over acts)
      among zero since after room few =
          let tick = tick_after 0 since after room in
          elim (next since tick after) [
            | inl report ↦ at_report 0 since tick after room report
            | inr fall ↦
                (let within : tick.moment ≤ until = omega (arith, tick.before, room) in
                let parted = falls_apart since tick.moment until (omega (arith, tick.after)) within acts in
                absurd (omega (arith, fall, few, parted)))
          ]
      among (suc falls) since after room few =
          let tick = tick_after (suc falls) since after room in
          elim (next since tick after) [
            | inl report ↦ at_report (suc falls) since tick after room report
            | inr fall ↦
                (let rest : tick.moment + (falls + 1) * (wait + lag) ≤ until = omega (arith, tick.before, room) in
                let within : tick.moment ≤ until = omega (arith, rest) in
                let parted = falls_apart since tick.moment until (omega (arith, tick.after)) within acts in
                among falls tick.moment (omega (arith, after, tick.after)) rest (omega (arith, fall, few, parted)))
          ]

pub reports_between : (history : History) (wait lag from until falls : ℕ) → IsHistory history →
    AllWaitAtMost wait from history.setup history.word history.acts →
    TicksWithin lag from until history.acts →
    falls_within history.setup history.word from until history.acts ≤ falls →
    from + (falls + 1) * (wait + lag) ≤ until
    → HasReport from until (reports_in (sent_at history))
reports_between history wait lag from until falls is waits often few room =
    among history.setup history.word history.acts is.taken (sends_in_time history is) wait lag from until waits often
    falls from (omega arith) room few
