-- What a participant sends keeps its distances and its limit, whatever it is told.
use Rattle.std.proofs.lemmas.Bool.{ne_eqb}
use Rattle.std.proofs.Common.{◌≡◌, ℕ, ◌+◌, ◌^◌, ◌<◌, ◌≤◌, ◌&&◌, ◌==◌, ◌⊎◌, inl, inr, nat_lt, nat_le, Bool, true, false, is_some, List, [], ◌∷◌, ◌++◌, length, All, Option, Some, None, option_map, Ok, Err, if◌then◌else◌, refl, sym, ap, ◌∙◌, arith, subst}
use Rattle.std.proofs.lemmas.Bool.{leb-true, and_parts, cond_both, ltb-false}
use Rattle.std.proofs.lemmas.Option.{slice_get_cases}
use Rattle.std.specs.List.{slice_get}
use Rattle.std.specs.Option.{option_or}
use Rattle.rtcp_clock.specs.Intervals.{drawn_interval}
use Rattle.rtcp_clock.proofs.LawLemmas.{draw_within_bounds}
use Rattle.rtcp_report.specs.Reports.{packets_with}
use Rattle.rtcp_report.specs.Sizes.{IsShort}
use Rattle.rtcp_report.proofs.LawLemmas.{compounds_are_small-report, compounds_are_small-empty, compounds_are_small-bye, reports_are_of_stays-blocks}
use Rattle.rtcp_timer.specs.Loads.{minimum_of}
use Rattle.rtcp_timer.specs.Schedules as schedules
use Rattle.rtcp_timer.specs.Schedules.{Happening, transmitted, tried, recounted, IsDue, IsInOrder, newest_transmission, schedule_at}
use Rattle.rtcp_timer.proofs.LawLemmas.{interval_has_minimum, never_due_too_soon}
use Rattle.rtcp_members.specs.Pending.{pending_rows_at}
use Rattle.rtcp_wire.specs.Values.{ItemValue, ReportBlock}
use Rattle.rtcp_wire.specs.Writing.{written_all}
use Rattle.rtcp_engine.specs.declared.refusal.Refusal.{Refusal}
use Rattle.rtcp_engine.specs.declared.refusal.Refusal.TheVariants.{Backwards}
use Rattle.rtcp_engine.specs.answers.Setups.{Setup, IsExtraItem, IsUsable}
use Rattle.rtcp_engine.specs.answers.Acts.{rtcp, rtp, Act, arrived, rtp_sent, ticked, left, configured, moment_of, forgotten, OutValue}
use Rattle.rtcp_engine.specs.answers.Outcomes.{Outcome, interval_at, load_of, member_count}
use Rattle.rtcp_engine.specs.answers.Ticks.{checked, has_come, has_passed, reported, put_off}
use Rattle.rtcp_engine.specs.answers.OwnStreams.{has_sent, stream_at}
use Rattle.rtcp_engine.specs.answers.Reporting.{bye_octets, report_octets, extra_item, reporter_at, last_reported_in}
use Rattle.rtcp_engine.specs.answers.Changes.{NewIdentifier, Session, bye_of_change, change_by, changed_by, changed_to}
use Rattle.rtcp_engine.specs.answers.Histories.{History, last_moment, session_of}
use Rattle.rtcp_engine.specs.answers.Answers.{refusal_after}
use Rattle.rtcp_engine.specs.state.Taken.{HasWords, AllTaken}
use Rattle.rtcp_engine.specs.answers.Leaving.{Backoff, Life, present, backing_off, finished, backoff_from, bye_count, few_members, is_bye_due, sent_nothing, after_wait, leaving_count, leaving_interval, leaving_load, leaving_timing}
use Rattle.rtcp_engine.specs.answers.Lives.{while_present, while_backing_off, lived, bye_out, out_by, own_bye, report_out, with_new_ssrc}
use Rattle.rtcp_engine.specs.bounds.Sent.{Sent, interval_by, is_report, reports_in, sent_by, sent_over, sent_with}
use Rattle.rtcp_engine.specs.bounds.Spacing.{HalfPasses, newest_moment, leave_moment, first_leave, IsInDueTime}
use Rattle.rtcp_engine.proofs.Changing.{bye_alone, nothing_more, same_but_name_and_settings, usable_in, usable_with_ssrc}
use Rattle.rtcp_engine.proofs.AnswerLemmas.{unrefused}

-- ---- Draws

-- A draw is at least half its interval over 1.21828.
half_passes : (from until interval word : ℕ) → word < 2 ^ 32 → from + drawn_interval interval word ≤ until →
    HalfPasses from until interval
half_passes from until interval word fits passed =
    let least = (draw_within_bounds interval word fits).0 in
    omega (arith, least, passed)

-- ---- Lists of reports

abbrev pub none_sent : List Sent → Bool
none_sent [] = true
none_sent (newest ∷ earlier) = false

-- a report after those before it
pub record IsNext (limit : ℕ) (report : Sent) (earlier : List Sent) : Type 0 where
  pub kind : is_report report ≡ true
  pub spaced : HalfPasses (newest_moment earlier) report.moment report.interval
  pub least : minimum_of (none_sent earlier) ≤ report.interval
  pub fits : length report.out.octets ≤ limit

abbrev pub AreReports : (limit : ℕ) → List Sent → Type 0
AreReports limit [] = Unit {0}
AreReports limit (report ∷ earlier) = IsNext limit report earlier × AreReports limit earlier

-- what a participant sends that stays: a report, or the BYE of an identifier that it gave up
pub record Stays (limit : ℕ) (compound : Sent) : Type 0 where
  pub kind : is_report compound ≡ false → compound.changes ≡ true
  pub fits : length compound.out.octets ≤ limit

abbrev pub AllStay : (limit : ℕ) → List Sent → Type 0
AllStay limit [] = Unit {0}
AllStay limit (newest ∷ earlier) = Stays limit newest × AllStay limit earlier

pub record AreKept (limit : ℕ) (sent : List Sent) : Type 0 where
  pub reports : AreReports limit (reports_in sent)
  pub all : AllStay limit sent

-- the BYE with which a participant leaves
pub record IsLast (limit : ℕ) (leave : Option ℕ) (bye : Sent) : Type 0 where
  pub kind : is_report bye ≡ false
  pub leaves : bye.changes ≡ false
  pub late : IsInDueTime leave bye
  pub fits : length bye.out.octets ≤ limit

abbrev pub EndsSo : (limit : ℕ) → (leave : Option ℕ) → List Sent → Type 0
EndsSo limit leave [] = ⊥
EndsSo limit leave (bye ∷ earlier) = IsLast limit leave bye × AreKept limit earlier

-- ---- Lives

-- happenings up to a moment
pub record AreUpTo (t : ℕ) (happenings : List Happening) : Type 0 where
  pub in_order : IsInOrder happenings
  pub past : schedules.newest_moment happenings ≤ t

pub record TakesPart (limit t : ℕ) (leave : Option ℕ) (outcome : Outcome) (sent : List Sent) : Type 0 where
  pub up_to : AreUpTo t outcome.happenings
  pub newest : newest_transmission outcome.happenings ≡ newest_moment (reports_in sent)
  pub initial : (outcome.reports == 0) ≡ none_sent (reports_in sent)
  pub stays : leave ≡ None
  pub kept : AreKept limit sent

pub record BacksOff (limit t : ℕ) (leave : Option ℕ) (backoff : Backoff) (sent : List Sent) : Type 0 where
  pub up_to : AreUpTo t backoff.happenings
  pub newest : newest_transmission backoff.happenings ≡ backoff.since
  pub left_then : leave ≡ Some backoff.since
  pub kept : AreKept limit sent

-- what was sent in a life, up to a moment
abbrev pub KeepsApart : (limit t : ℕ) → (leave : Option ℕ) → Life → List Sent → Type 0
KeepsApart limit t leave (present outcome) sent = TakesPart limit t leave outcome sent
KeepsApart limit t leave (backing_off outcome backoff) sent = BacksOff limit t leave backoff sent
KeepsApart limit t leave (finished outcome) sent = AreKept limit sent ⊎ EndsSo limit leave sent

-- ---- Sizes

short_read : (items : List ItemValue) (place : ℕ) → All IsExtraItem items → IsShort (slice_get items place)
short_read items place short =
    elim (slice_get_cases items place).1 [
      | inl found ↦ subst IsShort (sym found.2) (ap_le found.3 (short place found.0 found.1).1)
      | inr none ↦ subst IsShort (sym none.1) tt
    ]
  where
    ap_le : {one other : ItemValue} → one ≡ other → length one.text ≤ 255 → length other.text ≤ 255
    ap_le {one} {other} same h = subst (λ (item : ItemValue). length item.text ≤ 255) same h

short_if : (turn : Bool) (found : Option ItemValue) → IsShort found → IsShort (if turn then found else None)
short_if true found short = short
short_if false found short = tt

report_is_within : (setup : Setup) (t : ℕ) (outcome : Outcome) → IsUsable setup →
    length (report_octets setup t outcome) ≤ setup.limit
report_is_within setup t outcome usable =
    let extra = short_if _ _ (short_read setup.settings.extras _ usable.extras) in
    let empty = compounds_are_small-empty setup.ssrc
    (stream_at setup.settings.ntp_base setup.settings.rate t outcome.own)
    setup.cname (extra_item setup.settings.extras (outcome.reports + 1)) usable.cname.1 extra in
    let last = last_reported_in outcome.trace in
    subst (λ (blocks : List ReportBlock). length (written_all (packets_with (reporter_at setup t outcome) blocks))
    ≤ setup.limit)
    (reports_are_of_stays-blocks (reporter_at setup t outcome) setup.limit t last setup.capacity outcome.trace)
    (compounds_are_small-report (reporter_at setup t outcome) setup.limit t
    (pending_rows_at last setup.capacity outcome.trace) (omega (arith, empty, usable.limit.0)))

bye_is_within : (setup : Setup) → IsUsable setup → length (bye_octets setup) ≤ setup.limit
bye_is_within setup usable = omega (
  arith,
  compounds_are_small-bye setup.ssrc setup.cname usable.cname.1,
  usable.limit.0,
)

-- ---- Happenings

later : {t : ℕ} {happenings : List Happening} → (u : ℕ) → t ≤ u → AreUpTo t happenings → AreUpTo u happenings
later {t} {happenings} u order h = record { in_order = h.in_order; past = omega (arith, order, h.past) }

one_more : {t : ℕ} {happenings : List Happening} → (happening : Happening) → t ≤ schedules.happening_moment happening →
    AreUpTo t happenings
    → AreUpTo (schedules.happening_moment happening) (happening ∷ happenings)
one_more {t} {happenings} happening order h = record {
  in_order = (omega (arith, order, h.past), h.in_order);
  past = omega arith;
}

-- ---- Taking part

-- an act that brings nothing, and is no leave
passes : {limit t : ℕ} {leave : Option ℕ} {outcome : Outcome} {sent : List Sent} → (act : Act) (new : Outcome) →
    TakesPart limit t leave outcome sent
    → leave_moment act ≡ None → AreUpTo (moment_of act) new.happenings →
    newest_transmission new.happenings ≡ newest_transmission outcome.happenings → new.reports ≡ outcome.reports
    → TakesPart limit (moment_of act) (option_or leave (leave_moment act)) new sent
passes {limit} {t} {leave} {outcome} {sent} act new h stays up_to newest reports = record {
  up_to = up_to;
  newest = newest ∙ h.newest;
  initial = ap (λ (n : ℕ). n == 0) reports ∙ h.initial;
  stays = ap (λ (l : Option ℕ). option_or l (leave_moment act)) h.stays ∙ stays;
  kept = h.kept;
}

-- a check that was made, in a tick
checks : {limit t : ℕ} {leave : Option ℕ} {outcome : Outcome} {sent : List Sent} → (setup : Setup) (moment : ℕ) →
    t ≤ moment → TakesPart limit t leave outcome sent
    → TakesPart limit moment leave (checked setup moment outcome) sent
checks {limit} {t} {leave} {outcome} {sent} setup moment order h = record {
  up_to = one_more (recounted moment _) order h.up_to;
  newest = h.newest;
  initial = h.initial;
  stays = h.stays;
  kept = h.kept;
}

-- a report that is due keeps its distance from the one before it
next_report : (setup : Setup) (t word : ℕ) (leave : Option ℕ) (now : Outcome) (sent : List Sent) → IsUsable setup →
    word < 2 ^ 32 → TakesPart setup.limit t leave now sent
    → IsDue (schedule_at now.happenings) t (drawn_interval (interval_at setup now) word)
    → IsNext setup.limit (record {
      moment = t;
      interval = interval_at setup now;
      out = report_out (report_octets setup t now);
      changes = false;
    }) (reports_in sent)
next_report setup t word leave now sent usable fits h due =
    let interval = interval_at setup now in
    let apart = never_due_too_soon now.happenings t (drawn_interval interval word) h.up_to.in_order due in
    record {
      kind = refl;
      spaced = half_passes (newest_moment (reports_in sent)) t interval word fits
          (subst (λ (from : ℕ). from + drawn_interval interval word ≤ t) h.newest apart);
      least = subst (λ (initial : Bool). minimum_of initial ≤ interval) h.initial
          (interval_has_minimum (load_of setup now));
      fits = report_is_within setup t now usable;
    }

true_is_false : true ≡ false → ⊥
true_is_false e = cc

tick_by : (setup : Setup) (t first_word second_word : ℕ) (leave : Option ℕ) (now : Outcome) (sent : List Sent)
    (come passed : Bool) → IsUsable setup → first_word < 2 ^ 32
    → (come ≡ true → passed ≡ true →
    IsDue (schedule_at now.happenings) t (drawn_interval (interval_at setup now) first_word)) →
    TakesPart setup.limit t leave now sent
    → TakesPart setup.limit t leave
    (if come then (if passed then reported setup t second_word now else put_off setup t first_word now) else now)
    (sent_with t (interval_at setup now) false
    (option_map report_out (if come && passed then Some (report_octets setup t now) else None)) ++ sent)
tick_by setup t first_word second_word leave now sent true true usable fits due h = record {
  up_to = one_more (transmitted t _ _) (omega arith) h.up_to;
  newest = refl;
  initial = ne_eqb (now.reports + 1) 0 (λ none. absurd (omega (arith, none)));
  stays = h.stays;
  kept =
      let next = next_report setup t first_word leave now sent usable fits h (due refl refl) in
      record {
        reports = (next, h.kept.reports);
        all = (record { kind = λ no. absurd (true_is_false no); fits = next.fits }, h.kept.all);
      };
}
tick_by setup t first_word second_word leave now sent true false usable fits due h = record {
  up_to = one_more (tried t _ _) (omega arith) h.up_to;
  newest = h.newest;
  initial = h.initial;
  stays = h.stays;
  kept = h.kept;
}
tick_by setup t first_word second_word leave now sent false passed usable fits due h = h

-- the BYE with which a participant is gone
last_bye : (setup : Setup) (leave : Option ℕ) (asked t interval : ℕ) → IsUsable setup → leave ≡ Some asked →
    ((t ≡ asked) × (interval ≡ 0)) ⊎ (HalfPasses asked t interval × (asked + 1026037 ≤ t))
    → IsLast setup.limit leave (record {
      moment = t;
      interval = interval;
      out = bye_out (bye_octets setup);
      changes = false;
    })
last_bye setup leave asked t interval usable is passed = record {
  kind = refl;
  leaves = refl;
  late = subst (λ (l : Option ℕ). IsInDueTime l
      (record { moment = t; interval = interval; out = bye_out (bye_octets setup); changes = false }))
      (sym is) passed;
  fits = bye_is_within setup usable;
}

leave_by : (setup : Setup) (t u word : ℕ) (leave : Option ℕ) (outcome : Outcome) (sent : List Sent)
    (nothing_sent few : Bool) → IsUsable setup → t ≤ u → TakesPart setup.limit t leave outcome sent
    → KeepsApart setup.limit u (option_or leave (Some u))
    (if nothing_sent then finished outcome else
    (if few then finished outcome else backing_off outcome (backoff_from setup u word outcome)))
    (sent_with u 0 false (option_map bye_out
    (if nothing_sent then None else (if few then Some (bye_octets setup) else None))) ++ sent)
leave_by setup t u word leave outcome sent true few usable order h = inl h.kept
leave_by setup t u word leave outcome sent false true usable order h =
    inr (
      last_bye setup (option_or leave (Some u)) u u 0 usable (ap (λ (l : Option ℕ). option_or l (Some u)) h.stays)
          (inl (refl, refl)),
      h.kept,
    )
leave_by setup t u word leave outcome sent false false usable order h = record {
  up_to = one_more (transmitted u _ 1) order h.up_to;
  newest = refl;
  left_then = ap (λ (l : Option ℕ). option_or l (Some u)) h.stays;
  kept = h.kept;
}

stays_on : {limit t : ℕ} {leave other : Option ℕ} {outcome : Outcome} {sent : List Sent} → leave ≡ other →
    TakesPart limit t leave outcome sent → TakesPart limit t other outcome sent
stays_on {limit} {t} {leave} {other} {outcome} {sent} same h =
    subst (λ (l : Option ℕ). TakesPart limit t l outcome sent) same h

-- what an act brings that changes no identifier
abbrev sent_alone : Setup → Act → Life → List Sent
sent_alone setup act life = sent_with (moment_of act) (interval_by setup act life) false (out_by setup act life)

still_present : (setup : Setup) (t : ℕ) (leave : Option ℕ) (act : Act) (outcome : Outcome) (sent : List Sent) →
    IsUsable setup → t ≤ moment_of act → HasWords act → TakesPart setup.limit t leave outcome sent
    → KeepsApart setup.limit (moment_of act) (option_or leave (leave_moment act)) (while_present setup act outcome)
    (sent_alone setup act (present outcome) ++ sent)
still_present setup t leave (arrived moment peer drawn (rtcp size (Ok packets))) outcome sent usable order words h =
    passes (arrived moment peer drawn (rtcp size (Ok packets))) _ h refl (one_more (recounted moment _) order h.up_to)
    refl refl
still_present setup t leave (arrived moment peer drawn (rtcp size (Err fault))) outcome sent usable order words h =
    passes (arrived moment peer drawn (rtcp size (Err fault))) outcome h refl (later moment order h.up_to) refl refl
still_present setup t leave (arrived moment peer drawn (rtp (Ok head))) outcome sent usable order words h =
    passes (arrived moment peer drawn (rtp (Ok head))) _ h refl (later moment order h.up_to) refl refl
still_present setup t leave (arrived moment peer drawn (rtp (Err fault))) outcome sent usable order words h =
    passes (arrived moment peer drawn (rtp (Err fault))) outcome h refl (later moment order h.up_to) refl refl
still_present setup t leave (rtp_sent moment timestamp octets) outcome sent usable order words h =
    passes (rtp_sent moment timestamp octets) _ h refl (later moment order h.up_to) refl refl
still_present setup t leave (ticked moment first_word second_word) outcome sent usable order words h =
    let now = checked setup moment outcome in
    stays_on (h.stays ∙ sym (ap (λ (l : Option ℕ). option_or l None) h.stays))
    (tick_by setup moment first_word second_word leave now sent (has_come moment now)
    (has_passed setup moment first_word now) usable words.0
    (λ come passed. record { came = leb-true _ moment come; passed = leb-true _ moment passed })
    (checks setup moment order h))
still_present setup t leave (left moment word) outcome sent usable order words h =
    leave_by setup t moment word leave outcome sent (sent_nothing outcome)
    (nat_le (member_count setup outcome) few_members) usable order h
still_present setup t leave (configured moment settings) outcome sent usable order words h =
    passes (configured moment settings) _ h refl (later moment order h.up_to) refl refl
still_present setup t leave (forgotten moment ssrc) outcome sent usable order words h =
    passes (forgotten moment ssrc) _ h refl (one_more (recounted moment _) order h.up_to) refl refl

-- ---- Backing off

waits : {limit t : ℕ} {leave : Option ℕ} {backoff : Backoff} {sent : List Sent} → (act : Act) (new : Backoff) →
    BacksOff limit t leave backoff sent
    → new.since ≡ backoff.since → AreUpTo (moment_of act) new.happenings →
    newest_transmission new.happenings ≡ newest_transmission backoff.happenings
    → BacksOff limit (moment_of act) (option_or leave (leave_moment act)) new sent
waits {limit} {t} {leave} {backoff} {sent} act new h since up_to newest = record {
  up_to = up_to;
  newest = newest ∙ h.newest ∙ sym since;
  left_then = ap (λ (l : Option ℕ). option_or l (leave_moment act)) h.left_then ∙ ap Some (sym since);
  kept = h.kept;
}

-- one of two that it may become
waits_as : {limit t : ℕ} {leave : Option ℕ} {one other : Backoff} {sent : List Sent} → (test : Bool) →
    BacksOff limit t leave one sent → BacksOff limit t leave other sent →
    BacksOff limit t leave (if test then one else other) sent
waits_as {limit} {t} {leave} {one} {other} {sent} test h k =
    cond_both test one other (λ (backoff : Backoff). BacksOff limit t leave backoff sent) (λ _. h) (λ _. k)

bye_by : (setup : Setup) (t : ℕ) (leave : Option ℕ) (act : Act) (word : ℕ) (outcome : Outcome) (backoff : Backoff)
    (sent : List Sent) (due : Bool) → IsUsable setup → t ≤ moment_of act → word < 2 ^ 32
    → (due ≡ true → IsDue (schedule_at backoff.happenings) (moment_of act)
    (drawn_interval (leaving_interval setup backoff) word)) → BacksOff setup.limit t leave backoff sent
    → KeepsApart setup.limit (moment_of act) (option_or leave (leave_moment act))
    (if due then finished outcome else backing_off outcome (after_wait setup (moment_of act) word backoff))
    (sent_with (moment_of act) (leaving_interval setup backoff) false
    (if due then Some (bye_out (bye_octets setup)) else None) ++ sent)
bye_by setup t leave act word outcome backoff sent true usable order fits due h =
    let moment = moment_of act in
    let interval = leaving_interval setup backoff in
    let apart = never_due_too_soon backoff.happenings moment (drawn_interval interval word) h.up_to.in_order
    (due refl) in
    let half = half_passes backoff.since moment interval word fits
    (subst (λ (from : ℕ). from + drawn_interval interval word ≤ moment) h.newest apart) in
    let least : 2500000 ≤ interval =
    interval_has_minimum (leaving_load setup (leaving_count backoff) backoff.bye_compounds) in
    inr (
      last_bye setup (option_or leave (leave_moment act)) backoff.since moment interval usable
          (ap (λ (l : Option ℕ). option_or l (leave_moment act)) h.left_then)
          (inr (half, omega (arith, half, least))),
      h.kept,
    )
bye_by setup t leave act word outcome backoff sent false usable order fits due h =
    waits_as (nat_le (leaving_timing backoff).next (moment_of act))
    (waits act _ h refl (one_more (tried (moment_of act) _ _) order h.up_to) refl)
    (waits act backoff h refl (later (moment_of act) order h.up_to) refl)

still_backing_off : (setup : Setup) (t : ℕ) (leave : Option ℕ) (act : Act) (outcome : Outcome) (backoff : Backoff)
    (sent : List Sent) → IsUsable setup → t ≤ moment_of act → HasWords act → BacksOff setup.limit t leave backoff sent
    → KeepsApart setup.limit (moment_of act) (option_or leave (leave_moment act))
    (while_backing_off setup act outcome backoff) (sent_alone setup act (backing_off outcome backoff) ++ sent)
still_backing_off setup t leave (arrived moment peer drawn (rtcp size (Ok packets))) outcome backoff sent usable order
    words h =
    let act = arrived moment peer drawn (rtcp size (Ok packets)) in
    let up_to = later moment order h.up_to in
    waits_as (bye_count packets == 0) (waits act backoff h refl up_to refl) (waits act _ h refl up_to refl)
still_backing_off setup t leave (arrived moment peer drawn (rtcp size (Err fault))) outcome backoff sent usable order
    words h =
    waits (arrived moment peer drawn (rtcp size (Err fault))) backoff h refl (later moment order h.up_to) refl
still_backing_off setup t leave (arrived moment peer drawn (rtp reading)) outcome backoff sent usable order words h =
    waits (arrived moment peer drawn (rtp reading)) backoff h refl (later moment order h.up_to) refl
still_backing_off setup t leave (rtp_sent moment timestamp octets) outcome backoff sent usable order words h =
    waits (rtp_sent moment timestamp octets) backoff h refl (later moment order h.up_to) refl
still_backing_off setup t leave (ticked moment first_word second_word) outcome backoff sent usable order words h =
    bye_by setup t leave (ticked moment first_word second_word) first_word outcome backoff sent
    (is_bye_due setup moment first_word backoff) usable order words.0
    (λ due. let parts = and_parts _ _ due in
    record { came = leb-true _ moment parts.0; passed = leb-true _ moment parts.1 }) h
still_backing_off setup t leave (left moment word) outcome backoff sent usable order words h =
    waits (left moment word) backoff h refl (later moment order h.up_to) refl
still_backing_off setup t leave (configured moment settings) outcome backoff sent usable order words h =
    waits (configured moment settings) backoff h refl (later moment order h.up_to) refl
still_backing_off setup t leave (forgotten moment ssrc) outcome backoff sent usable order words h =
    waits (forgotten moment ssrc) backoff h refl (later moment order h.up_to) refl

-- ---- Changes of identifier

-- the BYE of the old one, if it is handed out
abbrev change_sent : (setup : Setup) (moment : ℕ) (heard : Bool) → List Sent
change_sent setup moment heard = sent_with moment 0 true (if heard then Some (bye_out (bye_octets setup)) else None)

change_kept : (setup : Setup) (moment : ℕ) (heard : Bool) (sent : List Sent) → IsUsable setup →
    AreKept setup.limit sent → AreKept setup.limit (change_sent setup moment heard ++ sent)
change_kept setup moment true sent usable h =
    record { reports = h.reports; all = (record { kind = λ no. refl; fits = bye_is_within setup usable }, h.all) }
change_kept setup moment false sent usable h = h

change_reports : (setup : Setup) (moment : ℕ) (heard : Bool) (sent : List Sent) →
    reports_in (change_sent setup moment heard ++ sent) ≡ reports_in sent
change_reports setup moment true sent = refl
change_reports setup moment false sent = refl

change_apart : (setup : Setup) (t moment : ℕ) (leave : Option ℕ) (life : Life) (sent : List Sent) → IsUsable setup →
    t ≤ moment → KeepsApart setup.limit t leave life sent
    → KeepsApart setup.limit moment leave (with_new_ssrc setup life)
    (sent_with moment 0 true (own_bye setup life) ++ sent)
change_apart setup t moment leave (present outcome) sent usable order h = record {
  up_to = later moment order h.up_to;
  newest = h.newest ∙ sym (ap newest_moment (change_reports setup moment (has_sent outcome.own) sent));
  initial = h.initial ∙ sym (ap none_sent (change_reports setup moment (has_sent outcome.own) sent));
  stays = h.stays;
  kept = change_kept setup moment (has_sent outcome.own) sent usable h.kept;
}
change_apart setup t moment leave (backing_off outcome backoff) sent usable order h =
    let up_to = later moment order h.up_to in
    let kept = change_kept setup moment (has_sent outcome.own) sent usable h.kept in
    waits_as (has_sent outcome.own)
    (record { up_to = up_to; newest = h.newest; left_then = h.left_then; kept = kept })
    (record { up_to = up_to; newest = h.newest; left_then = h.left_then; kept = kept })
change_apart setup t moment leave (finished outcome) sent usable order h = h

-- ---- Sessions

still_in_due_time : (leave : Option ℕ) (act : Act) (bye : Sent) → IsInDueTime leave bye →
    IsInDueTime (option_or leave (leave_moment act)) bye
still_in_due_time None act bye late = absurd late
still_in_due_time (Some moment) act bye late = late

still_ends : (limit : ℕ) (leave : Option ℕ) (act : Act) (sent : List Sent) → EndsSo limit leave sent →
    EndsSo limit (option_or leave (leave_moment act)) sent
still_ends limit leave act [] h = absurd h
still_ends limit leave act (bye ∷ earlier) h = (
  record { kind = h.0.kind; leaves = h.0.leaves; late = still_in_due_time leave act bye h.0.late; fits = h.0.fits },
  h.1,
)

keeps_apart : (setup : Setup) (t : ℕ) (leave : Option ℕ) (act : Act) (life : Life) (sent : List Sent) → IsUsable setup →
    t ≤ moment_of act → HasWords act → KeepsApart setup.limit t leave life sent
    → KeepsApart setup.limit (moment_of act) (option_or leave (leave_moment act)) (lived setup act life)
    (sent_alone setup act life ++ sent)
keeps_apart setup t leave act (present outcome) sent usable order words h = still_present setup t leave act outcome sent
    usable order words h
keeps_apart setup t leave act (backing_off outcome backoff) sent usable order words h =
    still_backing_off setup t leave act outcome backoff sent usable order words h
keeps_apart setup t leave act (finished outcome) sent usable order words (inl kept) = inl kept
keeps_apart setup t leave act (finished outcome) sent usable order words (inr ends) =
    inr (still_ends setup.limit leave act sent ends)

-- one act, after the change that it brings
step_apart : (session : Session) (t : ℕ) (leave : Option ℕ) (act : Act) (sent : List Sent)
    (change : Option NewIdentifier) → change_by session act ≡ change → IsUsable session.setup → t ≤ moment_of act →
    HasWords act
    → KeepsApart session.setup.limit t leave session.life sent → let now = changed_by change session in
    KeepsApart session.setup.limit (moment_of act) (option_or leave (leave_moment act)) (lived now.setup act now.life)
    (sent_with (moment_of act) (if is_some change then 0 else interval_by session.setup act session.life)
    (is_some change) (option_or (bye_of_change change session) (out_by now.setup act now.life)) ++ sent)
step_apart session t leave act sent None is usable order words h = keeps_apart session.setup t leave act session.life
    sent usable order words h
step_apart session t leave act sent (Some new) is usable order words h =
    let now = changed_to new session in
    let moment = moment_of act in
    let before = sent_with moment 0 true (own_bye session.setup session.life) ++ sent in
    let P : List Sent → Type 0 = KeepsApart session.setup.limit moment (option_or leave (leave_moment act))
    (lived now.setup act now.life) in
    let apart = keeps_apart now.setup moment leave act now.life before (usable_with_ssrc new.ssrc session.setup usable)
    (omega arith) words (change_apart session.setup t moment leave session.life sent usable order h) in
    let alone : P before = subst (λ (out : Option OutValue). P
    (sent_with moment (interval_by now.setup act now.life) false out ++ before))
    (nothing_more session act new is now.setup now.life) apart in
    subst (λ (out : Option OutValue). P (sent_with moment 0 true out ++ sent)) (sym (bye_alone session act new is))
    alone

pub in_order : (back : Bool) (others : Option Refusal) → (if back then Some Backwards else others) ≡ None → back ≡ false
in_order true others none = absurd cc
in_order false others none = refl

-- an act that is taken does not lie before the last one
pub in_time : (history : History) (act : Act) → refusal_after history act ≡ None →
    last_moment history.acts ≤ moment_of act
in_time history act none = ltb-false (moment_of act) (last_moment history.acts)
    (in_order (nat_lt (moment_of act) (last_moment history.acts)) _ (unrefused history act none).0)

pub session_keeps_apart : (setup : Setup) (word : ℕ) (acts : List Act) → IsUsable setup → AllTaken setup word acts
    → KeepsApart setup.limit (last_moment acts) (first_leave acts) (session_of setup word acts).life
    (sent_over setup word acts)
session_keeps_apart setup word [] usable taken = record {
  up_to = record { in_order = (omega arith, tt); past = omega arith };
  newest = refl;
  initial = refl;
  stays = refl;
  kept = record { reports = tt; all = tt };
}
session_keeps_apart setup word (act ∷ earlier) usable taken =
    let before = session_of setup word earlier in
    let same = ap (λ (s : Setup). s.limit) (same_but_name_and_settings setup word earlier) in
    let earlier_apart = subst (λ (limit : ℕ). KeepsApart limit (last_moment earlier) (first_leave earlier) before.life
    (sent_over setup word earlier)) (sym same) (session_keeps_apart setup word earlier usable taken.2) in
    subst (λ (limit : ℕ). KeepsApart limit (moment_of act) (option_or (first_leave earlier) (leave_moment act))
    (session_of setup word (act ∷ earlier)).life (sent_by before act ++ sent_over setup word earlier)) same
    (step_apart before (last_moment earlier) (first_leave earlier) act (sent_over setup word earlier)
    (change_by before act) refl (usable_in setup word earlier usable taken.2)
    (in_time (record { setup = setup; word = word; acts = earlier }) act taken.0) taken.1 earlier_apart)
