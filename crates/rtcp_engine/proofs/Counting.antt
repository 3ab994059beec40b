-- The reports that a session counts are those that it sent.
use Rattle.std.proofs.Common.{◌≡◌, ℕ, ◌&&◌, Bool, true, false, is_some, nat_le, List, [], ◌∷◌, ◌++◌, length, arith, Option, Some, None, option_map, Ok, if◌then◌else◌, refl, sym, ap, ◌∙◌}
use Rattle.std.specs.Option.{option_or}
use Rattle.rtcp_engine.specs.answers.Setups.{Setup}
use Rattle.rtcp_engine.specs.answers.Acts.{rtcp, rtp, Act, arrived, ticked, left, moment_of, OutValue}
use Rattle.rtcp_engine.specs.answers.OwnStreams.{has_sent}
use Rattle.rtcp_engine.specs.answers.Outcomes.{Outcome, interval_at, member_count}
use Rattle.rtcp_engine.specs.answers.Ticks.{checked, has_come, has_passed, reported, put_off}
use Rattle.rtcp_engine.specs.answers.Reporting.{bye_octets, report_octets}
use Rattle.rtcp_engine.specs.answers.Leaving.{Backoff, Life, present, backing_off, finished, few_members, is_bye_due, sent_nothing, after_wait, backoff_from, leaving_interval}
use Rattle.rtcp_engine.specs.answers.Lives.{lived, bye_out, out_by, own_bye, report_out, with_new_ssrc}
use Rattle.rtcp_engine.specs.answers.Changes.{NewIdentifier, Session, bye_of_change, change_by, changed_by, changed_to}
use Rattle.rtcp_engine.specs.answers.Histories.{session_of}
use Rattle.rtcp_engine.specs.bounds.Sent.{Sent, interval_by, reports_in, sent_with, sent_over, reports_of}
use Rattle.rtcp_engine.proofs.Changing.{bye_alone, nothing_more}

abbrev counted : List Sent → ℕ
counted sent = length (reports_in sent)

tick_by : (setup : Setup) (t first_word second_word : ℕ) (now : Outcome) (sent : List Sent) (come passed : Bool) →
    now.reports ≡ counted sent
    → (if come then (if passed then reported setup t second_word now else put_off setup t first_word now) else
    now).reports
    ≡ counted (sent_with t (interval_at setup now) false
    (option_map report_out (if come && passed then Some (report_octets setup t now) else None)) ++ sent)
tick_by setup t first_word second_word now sent true true h =
    omega (arith, h)
tick_by setup t first_word second_word now sent come passed h = h

leave_by : (setup : Setup) (t word : ℕ) (outcome : Outcome) (sent : List Sent) (nothing_sent few : Bool) →
    outcome.reports ≡ counted sent
    → reports_of (if nothing_sent then finished outcome else
    (if few then finished outcome else backing_off outcome (backoff_from setup t word outcome)))
    ≡ counted (sent_with t 0 false
    (option_map bye_out (if nothing_sent then None else (if few then Some (bye_octets setup) else None))) ++ sent)
leave_by setup t word outcome sent true few h = h
leave_by setup t word outcome sent false true h = h
leave_by setup t word outcome sent false false h = h

bye_by : (setup : Setup) (t word interval : ℕ) (outcome : Outcome) (backoff : Backoff) (sent : List Sent) (due : Bool) →
    outcome.reports ≡ counted sent
    → reports_of (if due then finished outcome else backing_off outcome (after_wait setup t word backoff))
    ≡ counted (sent_with t interval false (if due then Some (bye_out (bye_octets setup)) else None) ++ sent)
bye_by setup t word interval outcome backoff sent true h = h
bye_by setup t word interval outcome backoff sent false h = h

heard_by : (setup : Setup) (t : ℕ) (heard : Bool) (outcome : Outcome) (sent : List Sent) →
    outcome.reports ≡ counted sent
    → outcome.reports ≡ counted (sent_with t 0 true (if heard then Some (bye_out (bye_octets setup)) else None) ++ sent)
heard_by setup t true outcome sent h = h
heard_by setup t false outcome sent h = h

one_change : (setup : Setup) (t : ℕ) (life : Life) (sent : List Sent) → reports_of life ≡ counted sent →
    reports_of (with_new_ssrc setup life) ≡ counted (sent_with t 0 true (own_bye setup life) ++ sent)
one_change setup t (present outcome) sent h = heard_by setup t (has_sent outcome.own) outcome sent h
one_change setup t (backing_off outcome backoff) sent h = heard_by setup t (has_sent outcome.own) outcome sent h
one_change setup t (finished outcome) sent h = h

one_act : (setup : Setup) (act : Act) (life : Life) (sent : List Sent) → reports_of life ≡ counted sent
    → reports_of (lived setup act life) ≡ counted
    (sent_with (moment_of act) (interval_by setup act life) false (out_by setup act life) ++ sent)
one_act setup (arrived moment peer drawn (rtcp size (Ok packets))) (present outcome) sent h = h
one_act setup (arrived moment peer drawn (rtp (Ok head))) (present outcome) sent h = h
one_act setup (ticked moment first_word second_word) (present outcome) sent h =
    let now = checked setup moment outcome in
    tick_by setup moment first_word second_word now sent (has_come moment now) (has_passed setup moment first_word now)
    h
one_act setup (left moment word) (present outcome) sent h =
    leave_by setup moment word outcome sent (sent_nothing outcome) (nat_le (member_count setup outcome) few_members) h
one_act setup (ticked moment first_word second_word) (backing_off outcome backoff) sent h =
    bye_by setup moment first_word (leaving_interval setup backoff) outcome backoff sent
    (is_bye_due setup moment first_word backoff) h
one_act setup act (present outcome) sent h = h
one_act setup (arrived moment peer drawn (rtcp size reading)) (backing_off outcome backoff) sent h = h
one_act setup act life sent h = h

one_step : (session : Session) (act : Act) (sent : List Sent) (change : Option NewIdentifier) →
    change_by session act ≡ change → reports_of session.life ≡ counted sent
    → let now = changed_by change session in reports_of (lived now.setup act now.life)
    ≡ counted (sent_with (moment_of act) (if is_some change then 0 else interval_by session.setup act session.life)
    (is_some change) (option_or (bye_of_change change session) (out_by now.setup act now.life)) ++ sent)
one_step session act sent None is h = one_act session.setup act session.life sent h
one_step session act sent (Some new) is h =
    let now = changed_to new session in
    let before = sent_with (moment_of act) 0 true (own_bye session.setup session.life) ++ sent in
    one_act now.setup act now.life before (one_change session.setup (moment_of act) session.life sent h)
    ∙ ap (λ (out : Option OutValue). counted
    (sent_with (moment_of act) (interval_by now.setup act now.life) false out ++ before))
    (nothing_more session act new is now.setup now.life)
    ∙ sym (ap (λ (out : Option OutValue). counted (sent_with (moment_of act) 0 true out ++ sent))
    (bye_alone session act new is))

pub reports_counted : (setup : Setup) (word : ℕ) (acts : List Act) →
    reports_of (session_of setup word acts).life ≡ counted (sent_over setup word acts)
reports_counted setup word [] = refl
reports_counted setup word (act ∷ earlier) =
    let before = session_of setup word earlier in
    one_step before act (sent_over setup word earlier) (change_by before act) refl (reports_counted setup word earlier)
