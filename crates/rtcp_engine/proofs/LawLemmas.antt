-- The laws of this crate as lemmas, for the proofs of the crates above: each has the name of its law, and of the
-- clause where the law has several.
use Rattle.std.proofs.Common.{length, ◌≡◌, ◌↔◌, map, ℕ, ◌≤◌, ◌^◌, Bool, false, is_some, option_map, List, [], ◌∷◌, ◌++◌, IfSome, Option, Some, None, Result, Ok, Err, if◌then◌else◌, refl, sym, ap, ◌∙◌, arith, inl, inr}
use Rattle.std.specs.Option.{option_or}
use Rattle.std.proofs.lemmas.Bool.{lt-ltb, le-ltb, cases_lt}
use Rattle.rtcp_wire.proofs.LawLemmas as wire
use Rattle.rtcp_members.specs.Traces.{TraceStep, block_made_of, with_blocks}
use Rattle.rtcp_members.specs.Stays.{is_before}
use Rattle.rtcp_members.specs.Pending.{EntryRow, last_reported}
use Rattle.rtcp_members.specs.Listings.{StateValue}
use Rattle.rtcp_wire.specs.declared.fault.WireFault.{WireFault}
use Rattle.rtcp_wire.specs.declared.rtp.fault.RtpFault.{RtpFault}
use Rattle.rtcp_wire.specs.Values.{RtcpPacket, RtpValue}
use Rattle.rtcp_wire.specs.Readings.{rtcp_in}
use Rattle.rtcp_wire.specs.RtpReadings.{rtp_in}
use Rattle.rtcp_engine.specs.declared.refusal.Refusal.{Refusal}
use Rattle.rtcp_engine.specs.answers.Setups.{Setup, SettingsValue, IsUsable, settings_of, with_settings}
use Rattle.rtcp_engine.specs.answers.Refused.{error_in}
use Rattle.rtcp_engine.specs.answers.Acts.{Act, configured, moment_of, IsReading, IsRtpReading, IsTotal, IsUnique, OutValue, answer_unless}
use Rattle.rtcp_engine.specs.answers.Leaving.{Life, present}
use Rattle.rtcp_engine.specs.answers.Lives.{ListsInLife, lived, out_by, own_bye, with_pace_in, next_in_life}
use Rattle.rtcp_engine.specs.answers.Changes.{NewIdentifier, Session, bye_of_change, change_by, changed_by}
use Rattle.rtcp_engine.specs.answers.OwnStreams.{OwnStep, packet_sent, check_passed, report_sent, counts_anew, sending_since}
use Rattle.rtcp_engine.specs.bounds.OwnClock.{latest_settings, told_by}
use Rattle.rtcp_engine.specs.bounds.OwnSending.{OutlastsChecks, IsSendingSince}
use Rattle.rtcp_engine.specs.answers.Outcomes.{Outcome}
use Rattle.rtcp_engine.specs.answers.Reporting.{last_reported_in, reporter_at}
use Rattle.rtcp_engine.specs.answers.Histories.{History, brought_by, last_moment, life_at, session_at, setup_at, with_act}
use Rattle.rtcp_engine.specs.answers.Answers.{step_by, answer_of, followed_by, refusal_after}
use Rattle.rtcp_engine.specs.state.Taken.{IsHistory}
use Rattle.rtcp_engine.specs.bounds.Sent.{reports_in, deciding_interval, sent_at, sent_with, handed_out, reports_of}
use Rattle.rtcp_engine.proofs.Changing.{bye_alone, latest_of}
use Rattle.rtcp_engine.proofs.Past.{latest_in_range, listed_after}
use Rattle.rtcp_engine.proofs.Usable.{usable_of_unrefused, unrefused_of_usable}
use Rattle.rtcp_engine.proofs.Counting.{reports_counted}
use Rattle.rtcp_engine.specs.bounds.InTime.{AllInTime}
use Rattle.rtcp_engine.proofs.Waiting.{all_in_time}
pub use Rattle.rtcp_engine.proofs.Windows.{last_in_present as last_lies_after_what_was_sent-present}
pub use Rattle.rtcp_engine.proofs.Windows.{last_in_backoff as last_lies_after_what_was_sent-backing_off}
pub use Rattle.rtcp_engine.proofs.Windows.{bounds_of as sent_compounds_keep_apart}
pub use Rattle.rtcp_engine.proofs.Changing.{same_but_name_and_settings as setups_keep_the_rest-setup}
pub use Rattle.rtcp_engine.proofs.Changing.{usable_in as setups_keep_the_rest-usable}
pub use Rattle.rtcp_engine.proofs.Usable.{settings_refused as settings_are_refused_as_setups}
pub use Rattle.rtcp_engine.proofs.OneClock.{one_clock as one_clock_without_others}
pub use Rattle.rtcp_engine.proofs.Past.{walk_after as listed_moments_have_passed-all}
pub use Rattle.rtcp_engine.proofs.PaceEnds.{same_pace as former_paces_end-same}
pub use Rattle.rtcp_engine.proofs.PaceEnds.{end_stays as former_paces_end-stays}
pub use Rattle.rtcp_engine.proofs.PaceEnds.{end_of_session as former_paces_end-end}
pub use Rattle.rtcp_engine.proofs.PaceEnds.{alone_after as former_paces_end-alone}
pub use Rattle.rtcp_engine.proofs.PaceEnds.{dropped_after as former_paces_end-dropped}
pub use Rattle.rtcp_engine.proofs.NewIdentifiers.{new_is_free as new_identifiers_are_free-free}
pub use Rattle.rtcp_engine.proofs.ChangeRest.{ssrc_alone as changes_touch_the_identifier_alone-setup}
pub use Rattle.rtcp_engine.proofs.ChangeRest.{rest_stays as changes_touch_the_identifier_alone-rest}

-- ---- Readings

pub one_reading-computed : (octets : List ℕ) → IsReading octets (rtcp_in octets)
one_reading-computed octets = by_case (rtcp_in octets) refl
  where
    by_case : (reading : Result (List RtcpPacket) WireFault) → rtcp_in octets ≡ reading → IsReading octets reading
    by_case (Ok packets) is = (wire.readings_are_computed-accepted octets packets).1 is
    by_case (Err fault) is = (wire.readings_are_computed-faulty octets fault).1 is

pub one_reading-always : IsTotal IsReading
one_reading-always octets = (rtcp_in octets, one_reading-computed octets)

pub one_reading-once : IsUnique IsReading
one_reading-once octets (Ok ps) (Ok qs) h k = ap Ok (wire.one_reading octets ps qs h k)
one_reading-once octets (Ok ps) (Err fault) h k = absurd (wire.accepted_or_faulty-never_both octets ps fault h k)
one_reading-once octets (Err fault) (Ok qs) h k = absurd (wire.accepted_or_faulty-never_both octets qs fault k h)
one_reading-once octets (Err fault) (Err other) h k = ap Err (wire.one_fault octets fault other h k)

pub one_reading-rtp_computed : (octets : List ℕ) → IsRtpReading octets (rtp_in octets)
one_reading-rtp_computed octets = by_case (rtp_in octets) refl
  where
    by_case : (reading : Result RtpValue RtpFault) → rtp_in octets ≡ reading → IsRtpReading octets reading
    by_case (Ok head) is = (wire.rtp_readings_are_computed-head octets head).1 is
    by_case (Err fault) is = (wire.rtp_readings_are_computed-fault octets fault).1 is

pub one_reading-rtp_always : IsTotal IsRtpReading
one_reading-rtp_always octets = (rtp_in octets, one_reading-rtp_computed octets)

pub one_reading-rtp_once : IsUnique IsRtpReading
one_reading-rtp_once octets (Ok g) (Ok h) a b = ap Ok (wire.one_head octets g h a b)
one_reading-rtp_once octets (Ok g) (Err fault) a b = absurd (wire.packet_or_fault-never_both octets g fault a b)
one_reading-rtp_once octets (Err fault) (Ok h) a b = absurd (wire.packet_or_fault-never_both octets h fault b a)
one_reading-rtp_once octets (Err fault) (Err other) a b = ap Err (wire.one_rtp_fault octets fault other a b)

-- ---- Setups

pub usable_is_unrefused : (setup : Setup) → IsUsable setup ↔ (error_in setup ≡ None)
usable_is_unrefused setup = (unrefused_of_usable setup, usable_of_unrefused setup)

-- ---- Histories

-- ---- The own stream

-- a check that leaves a sender
kept : (sending : Option ℕ) (idle moment : ℕ) → (if is_before sending idle then None else sending) ≡ Some moment →
    (sending ≡ Some moment) × (idle ≤ moment)
kept None idle moment h = absurd cc
kept (Some at) idle moment h =
    elim (cases_lt at idle) [
      | inl below ↦ absurd (none_is_some moment
          (sym (ap (λ (b : Bool). if b then None else Some at) (lt-ltb at idle below)) ∙ h))
      | inr above ↦ (let same : Some at ≡ Some moment =
          sym (ap (λ (b : Bool). if b then None else Some at) (le-ltb at idle above)) ∙ h in
          let moments : at ≡ moment = cc in
          (same, omega (arith, above, moments)))
    ]
  where
    none_is_some : (n : ℕ) → None ≡ Some n → ⊥
    none_is_some n e = cc

sends_since : (own : List OwnStep) (moment : ℕ) → sending_since own ≡ Some moment → IsSendingSince own moment
sends_since [] moment h = absurd cc
sends_since (packet_sent at timestamp octets ∷ earlier) moment h =
    let same : at ≡ moment = cc in
    record {
      since = [];
      timestamp = timestamp;
      octets = octets;
      before = earlier;
      parts = ap (λ (m : ℕ). packet_sent m timestamp octets ∷ earlier) same;
      recent = tt;
    }
sends_since (check_passed idle ∷ earlier) moment h =
    let both = kept (sending_since earlier) idle moment h in
    let rest = sends_since earlier moment both.0 in
    record {
      since = check_passed idle ∷ rest.since;
      timestamp = rest.timestamp;
      octets = rest.octets;
      before = rest.before;
      parts = ap (λ (t : List OwnStep). check_passed idle ∷ t) rest.parts;
      recent = (both.1, rest.recent);
    }
sends_since (report_sent ∷ earlier) moment h =
    let rest = sends_since earlier moment h in
    record {
      since = report_sent ∷ rest.since;
      timestamp = rest.timestamp;
      octets = rest.octets;
      before = rest.before;
      parts = ap (λ (t : List OwnStep). report_sent ∷ t) rest.parts;
      recent = rest.recent;
    }
sends_since (counts_anew ∷ earlier) moment h =
    let rest = sends_since earlier moment h in
    record {
      since = counts_anew ∷ rest.since;
      timestamp = rest.timestamp;
      octets = rest.octets;
      before = rest.before;
      parts = ap (λ (t : List OwnStep). counts_anew ∷ t) rest.parts;
      recent = rest.recent;
    }

lasts : (since : List OwnStep) (moment timestamp octets : ℕ) (before : List OwnStep) → OutlastsChecks moment since →
    sending_since (since ++ packet_sent moment timestamp octets ∷ before) ≡ Some moment
lasts [] moment timestamp octets before h = refl
lasts (packet_sent at other size ∷ since) moment timestamp octets before h = absurd h
lasts (check_passed idle ∷ since) moment timestamp octets before h =
    ap (λ (s : Option ℕ). if is_before s idle then None else s) (lasts since moment timestamp octets before h.1)
    ∙ ap (λ (b : Bool). if b then None else Some moment) (le-ltb moment idle h.0)
lasts (report_sent ∷ since) moment timestamp octets before h = lasts since moment timestamp octets before h
lasts (counts_anew ∷ since) moment timestamp octets before h = lasts since moment timestamp octets before h

pub own_sending_lasts : (own : List OwnStep) (moment : ℕ) →
    (sending_since own ≡ Some moment) ↔ IsSendingSince own moment
own_sending_lasts own moment = (
  sends_since own moment,
  λ h. ap sending_since h.parts ∙ lasts h.since moment h.timestamp h.octets h.before h.recent,
)

-- ---- Reports

is_some_map : {A B : Type 0} → (f : A → B) (found : Option A) → is_some (option_map f found) ≡ is_some found
is_some_map {A} {B} f None = refl
is_some_map {A} {B} f (Some x) = refl

handed_by : (history : History) (act : Act) (refusal : Option Refusal)
    → sent_at (elim refusal [ None ↦ with_act history act | Some reason ↦ history ])
    ≡ handed_out (moment_of act) (deciding_interval (session_at history) act)
    (answer_unless refusal (step_by history act)) ++ sent_at history
handed_by history act None =
    let before = session_at history in
    sym (ap (λ (changes : Bool). sent_with (moment_of act) (deciding_interval before act) changes
    (brought_by before act) ++ sent_at history)
    (is_some_map (λ (new : NewIdentifier). new.ssrc) (change_by before act)))
handed_by history act (Some reason) = refl

pub answers_hand_out_compounds : (history : History) (act : Act)
    → sent_at (followed_by history act) ≡ handed_out (moment_of act) (deciding_interval (session_at history) act)
    (answer_of history act) ++ sent_at history
answers_hand_out_compounds history act = handed_by history act (refusal_after history act)

pub sent_reports_are_counted : (history : History) → reports_of (life_at history) ≡ length
    (reports_in (sent_at history))
sent_reports_are_counted history = reports_counted history.setup history.word history.acts

pub last_block_is_newest : (rows : List EntryRow) (trace : List TraceStep) →
    last_reported_in (with_blocks (map (λ (row : EntryRow). row.0) rows) trace)
    ≡ last_reported (last_reported_in trace) rows
last_block_is_newest [] trace = refl
last_block_is_newest (row ∷ rows) trace = last_block_is_newest rows (block_made_of row.0 ∷ trace)

-- ---- Distances, sizes and the BYE

pub sends_in_time : (history : History) → IsHistory history → AllInTime history.setup history.word history.acts
sends_in_time history is = all_in_time history.setup history.word history.acts is.usable is.word is.taken

pub changes_bring_one_bye : (session : Session) (act : Act) (new : NewIdentifier) →
    change_by session act ≡ Some new → brought_by session act ≡ own_bye session.setup session.life
changes_bring_one_bye session act new is =
    ap (λ (change : Option NewIdentifier). let now = changed_by change session in
    option_or (bye_of_change change session) (out_by now.setup act now.life)) is
    ∙ bye_alone session act new is

-- ---- Settings

settings_live : (setup : Setup) (moment : ℕ) (settings : SettingsValue) (life : Life) →
    lived setup (configured moment settings) life ≡ with_pace_in setup settings moment life
settings_live setup moment settings (present outcome) = refl
settings_live setup moment settings life = refl

settings_send : (setup : Setup) (moment : ℕ) (settings : SettingsValue) (life : Life) →
    out_by setup (configured moment settings) life ≡ None
settings_send setup moment settings (present outcome) = refl
settings_send setup moment settings life = refl

pub settings_touch_the_setup_alone-life : (history : History) (moment : ℕ) (settings : SettingsValue) →
    life_at (with_act history (configured moment settings))
    ≡ with_pace_in (setup_at history) settings moment (life_at history)
settings_touch_the_setup_alone-life history moment settings =
    settings_live (setup_at history) moment settings (life_at history)

same_next : (setup : Setup) (settings : SettingsValue) (moment : ℕ) (life : Life) →
    next_in_life (with_pace_in setup settings moment life) ≡ next_in_life life
same_next setup settings moment (present outcome) = refl
same_next setup settings moment life = refl

pub settings_touch_the_setup_alone-next : (history : History) (moment : ℕ) (settings : SettingsValue) →
    next_in_life (life_at (with_act history (configured moment settings))) ≡ next_in_life (life_at history)
settings_touch_the_setup_alone-next history moment settings =
    ap next_in_life (settings_touch_the_setup_alone-life history moment settings)
    ∙ same_next (setup_at history) settings moment (life_at history)

pub settings_touch_the_setup_alone-sent : (history : History) (moment : ℕ) (settings : SettingsValue) →
    sent_at (with_act history (configured moment settings)) ≡ sent_at history
settings_touch_the_setup_alone-sent history moment settings =
    let act = configured moment settings in
    ap (λ (out : Option OutValue). sent_with moment (deciding_interval (session_at history) act) false out
    ++ sent_at history)
    (settings_send (setup_at history) moment settings (life_at history))

pub settings_touch_the_setup_alone-setup : (history : History) (moment : ℕ) (settings : SettingsValue) →
    setup_at (with_act history (configured moment settings)) ≡ with_settings settings (setup_at history)
settings_touch_the_setup_alone-setup history moment settings = refl

pub reports_go_by_the_latest_settings-latest : (history : History) → settings_of (setup_at history)
    ≡ latest_settings (settings_of history.setup) history.acts
reports_go_by_the_latest_settings-latest history = latest_of history.setup history.word history.acts

pub reports_go_by_the_latest_settings-told : (history : History) (outcome : Outcome) (t : ℕ) →
    life_at history ≡ present outcome → (reporter_at (setup_at history) t outcome).sent
    ≡ told_by (latest_settings (settings_of history.setup) history.acts) t outcome.own
reports_go_by_the_latest_settings-told history outcome t is =
    ap (λ (settings : SettingsValue). told_by settings t outcome.own) (reports_go_by_the_latest_settings-latest history)

-- ---- What is told of sources

pub listed_moments_have_passed-left : (history : History) → IsHistory history →
    (after : Option ℕ) (state : StateValue) →
    ListsInLife (setup_at history) after (life_at history) (Some state) →
    IfSome state.left (λ left. left ≤ last_moment history.acts)
listed_moments_have_passed-left history is after state tells = (listed_after history is after state tells).left

pub listed_moments_have_passed-last_report : (history : History) → IsHistory history →
    (after : Option ℕ) (state : StateValue) →
    ListsInLife (setup_at history) after (life_at history) (Some state) →
    IfSome state.last_report (λ last_report. last_report.moment ≤ last_moment history.acts)
listed_moments_have_passed-last_report history is after state tells =
    (listed_after history is after state tells).last_report

pub listed_moments_have_passed-range : (history : History) → IsHistory history → last_moment history.acts ≤ 2 ^ 50
listed_moments_have_passed-range history is = latest_in_range history.setup history.word history.acts is.taken

-- ---- Extra items
