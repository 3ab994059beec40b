-- The calls of a guarded participant, by what its guard and its participant promise.
use Rattle.std.proofs.Common.{◌≡◌, ℕ, List, length, Option, Some, None, Result, Ok, Err, refl, sym, ap, ◌∙◌, subst, arith}
use Rattle.rtcp_wire.specs.Values.{RtcpPacket, RtpValue}
use Rattle.rtcp_wire.specs.Grammar.{IsAccepted}
use Rattle.rtcp_wire.specs.RtpHeads.{IsRtpHead}
use Rattle.rtcp_guard.specs.Guarding.{after, datagram_came, check_made, verdict_on}
use Rattle.rtcp_guard.specs.declared.settings.Settings.{Settings}
use Rattle.rtcp_guard.specs.declared.verdict.Verdict.{Verdict}
use Rattle.rtcp_guard.specs.declared.verdict.Verdict.TheVariants.{Pass}
use Rattle.rtcp_wire.specs.Readings.{rtcp_in}
use Rattle.rtcp_wire.specs.RtpReadings.{rtp_in}
use Rattle.rtcp_engine.specs.declared.refusal.Refusal.{Refusal}
use Rattle.rtcp_engine.specs.declared.step.WrittenStep.{WrittenStep}
use Rattle.rtcp_engine.specs.answers.Acts.{Act, act_of, Datagram, rtcp, rtp, ticked, time_passed, EventValue, IsActOfEvent, arrived, rtcp_arrived, rtcp_came, rtp_arrived, rtp_came}
use Rattle.rtcp_engine.specs.answers.Answers.{taken_under, refusal_after}
use Rattle.rtcp_engine.specs.answers.Histories.{History, life_at, session_at, session_for, setup_at}
use Rattle.rtcp_engine.specs.answers.Lives.{silent_in_life}
use Rattle.rtcp_engine.specs.state.Promises.{Foretells, Replies as ParticipantReplies, Takes as ParticipantTakes}
use Rattle.rtcp_engine.specs.state.States.{ParticipantValue, StandsAt as IsAtHistory, KeepsCapacity}
use Rattle.rtcp_engine.specs.state.Views.{LeavesRest, reply_value as participant_reply}
use Rattle.rtcp_engine.proofs.LawLemmas.{one_reading-computed, one_reading-once, one_reading-rtp_computed, one_reading-rtp_once}
use Rattle.rtcp_guarded.specs.declared.untaken.Reason.{Reason}
use Rattle.rtcp_guarded.specs.declared.untaken.Untaken.TheVariants.{HeldBack, Refused}
use Rattle.rtcp_guarded.specs.Guarded.{Course, GuardedAnswer, GuardedHistory, goodbye_in, names_in, origin_of, passed_at, reason_for, steps_with, verdict_in}
use Rattle.rtcp_guarded.specs.Promises.{Replies, Takes}
use Rattle.rtcp_guarded.specs.Views.{GuardedValue, StandsAt, as_refused, reply_value}
use Rattle.rtcp_guarded.proofs.Courses.{GuardGoes, GuardLearns, Judges, err_refused, held, passes, passes_by, refused, unheld}

-- ---- What was foretold

abbrev told_by : Option Refusal → (ssrc : ℕ) → Result ℕ Refusal
told_by r ssrc = elim r [ None ↦ Ok ssrc | Some refusal ↦ Err refusal ]

err_foretold : (r : Option Refusal) (ssrc : ℕ) (reason : Refusal) → Err reason ≡ told_by r ssrc → r ≡ Some reason
err_foretold None ssrc reason is = absurd cc
err_foretold (Some refusal) ssrc reason is = cc

ok_foretold : (r : Option Refusal) (ssrc told : ℕ) → Ok told ≡ told_by r ssrc → (r ≡ None) × (told ≡ ssrc)
ok_foretold None ssrc told is = (refl, cc)
ok_foretold (Some refusal) ssrc told is = absurd cc

-- the SSRC under which an act is taken
abbrev ssrc_for : GuardedHistory → Act → ℕ
ssrc_for h act = (session_for (session_at (passed_at h)) act).setup.ssrc

-- no octets are written
leaves_all : {octets : List ℕ} → LeavesRest octets octets None
leaves_all = record { fits = omega arith; room = omega arith; rest = refl }

pub refused_reply : {old : GuardedValue} (event : EventValue) {octets : List ℕ} (reason : Refusal) →
    Foretells old.participant event (Err reason) → Replies old event octets octets (Err (Refused reason)) old
refused_reply {old} event reason foretold = record {
  takes = λ act is. refused act reason refl
      (λ h stands. err_foretold (refusal_after (passed_at h) act) (ssrc_for h act) reason
      (foretold act (passed_at h) is stands.participant));
  untaken = refl;
  within = λ keeps. keeps;
  standing = tt;
  leaves = leaves_all;
}

-- ---- A datagram

-- under which SSRC a participant would take it
abbrev pub TakenUnder : GuardedValue → Act → (ssrc : ℕ) → Type 0
TakenUnder old act ssrc = (h : History) → IsAtHistory old.participant h → Ok ssrc ≡ taken_under h act

judges : {old : GuardedValue} (moment peer word ssrc origin : ℕ) (datagram : Datagram) (verdict : Verdict) →
    TakenUnder old (arrived moment peer word datagram) ssrc → origin ≡ origin_of peer →
    verdict ≡ verdict_on origin moment (names_in ssrc datagram) (goodbye_in ssrc datagram) old.guard →
    Judges old (arrived moment peer word datagram) verdict
judges moment peer word ssrc origin datagram verdict under is judged h stands =
    let act = arrived moment peer word datagram in
    let taken = ok_foretold (refusal_after (passed_at h) act) (ssrc_for h act) ssrc
    (under (passed_at h) stands.participant) in (
      taken.0,
      judged ∙ (λ i. verdict_on (is i) moment (names_in (taken.1 i) datagram) (goodbye_in (taken.1 i) datagram)
          (stands.guard i)),
    )

learns : {old : GuardedValue} (new : GuardedValue) (moment peer word ssrc origin : ℕ) (datagram : Datagram) →
    TakenUnder old (arrived moment peer word datagram) ssrc → origin ≡ origin_of peer →
    new.guard ≡ after (datagram_came origin moment (names_in ssrc datagram) (goodbye_in ssrc datagram)) old.guard →
    GuardLearns old new (arrived moment peer word datagram)
learns new moment peer word ssrc origin datagram under is content h stands =
    let act = arrived moment peer word datagram in
    let taken = ok_foretold (refusal_after (passed_at h) act) (ssrc_for h act) ssrc
    (under (passed_at h) stands.participant) in
    content ∙ (λ i. after (datagram_came (is i) moment (names_in (taken.1 i) datagram)
    (goodbye_in (taken.1 i) datagram)) (stands.guard i))

-- what the guard did with it
pub record Judged
    (old new : GuardedValue) (moment peer ssrc : ℕ) (datagram : Datagram) (verdict : Verdict) : Type 0 where
  pub origin : ℕ
  pub its : origin ≡ origin_of peer
  pub verdict_is : verdict ≡ verdict_on origin moment (names_in ssrc datagram) (goodbye_in ssrc datagram) old.guard
  pub content : new.guard ≡ after (datagram_came origin moment (names_in ssrc datagram) (goodbye_in ssrc datagram))
      old.guard

held_act : {old new : GuardedValue} (moment peer word ssrc : ℕ) (datagram : Datagram) (verdict : Verdict)
    (reason : Reason) → TakenUnder old (arrived moment peer word datagram) ssrc →
    Judged old new moment peer ssrc datagram verdict → reason_for verdict ≡ Some reason →
    new.participant ≡ old.participant → Takes old (arrived moment peer word datagram) (Err (HeldBack reason)) new
held_act {old} {new} moment peer word ssrc datagram verdict reason under j is same =
    held (arrived moment peer word datagram) verdict reason is same
    (judges moment peer word ssrc j.origin datagram verdict under j.its j.verdict_is)
    (learns new moment peer word ssrc j.origin datagram under j.its j.content)

passes_judged : {old new : GuardedValue} (octets : List ℕ) (act : Act) (reply : Result WrittenStep Refusal) →
    ParticipantTakes old.participant act (participant_reply octets reply) new.participant → Judges old act Pass →
    GuardLearns old new act → Takes old act (reply_value octets (as_refused reply)) new
passes_judged octets act (Ok step) takes judged learns =
    passes octets act (Ok step) takes (λ h stands. (judged h stands).1) learns
passes_judged {old} octets act (Err refusal) takes judged learns = record {
  answer = λ h stands. absurd (never h stands);
  stands = λ h stands. absurd (never h stands);
  not_too_late = λ h stands. tt;
}
  where
    never : (h : GuardedHistory) → StandsAt old h → ⊥
    never h stands =
        let some = err_refused _ refusal _ (takes.answer (passed_at h) stands.participant) in
        let none : None ≡ Some refusal = sym (judged h stands).0 ∙ some in cc

passed_act : {old new : GuardedValue} (octets : List ℕ) (moment peer word ssrc : ℕ) (datagram : Datagram)
    (verdict : Verdict) (reply : Result WrittenStep Refusal) →
    TakenUnder old (arrived moment peer word datagram) ssrc → Judged old new moment peer ssrc datagram verdict →
    reason_for verdict ≡ None →
    ParticipantTakes old.participant (arrived moment peer word datagram) (participant_reply octets reply)
    new.participant →
    Takes old (arrived moment peer word datagram) (reply_value octets (as_refused reply)) new
passed_act {old} {new} octets moment peer word ssrc datagram verdict reply under j is takes =
    passes_judged octets (arrived moment peer word datagram) reply takes
    (judges moment peer word ssrc j.origin datagram Pass under j.its (unheld verdict is ∙ j.verdict_is))
    (learns new moment peer word ssrc j.origin datagram under j.its j.content)

-- ---- The reply

pub replied : {old new : GuardedValue} {event : EventValue} {before after : List ℕ}
    (reply : Result WrittenStep Refusal) →
    ParticipantReplies old.participant event before after reply new.participant →
    ((act : Act) → IsActOfEvent event act → Takes old act (reply_value after (as_refused reply)) new) →
    Replies old event before after (as_refused reply) new
replied (Ok step) replies takes = record {
  takes = takes;
  untaken = tt;
  within = λ keeps. replies.spares.within;
  standing = replies.writes.standing;
  leaves = replies.writes.leaves;
}
replied (Err refusal) replies takes = record {
  takes = takes;
  untaken = replies.spares.refused;
  within = λ keeps. replies.spares.within;
  standing = tt;
  leaves = replies.writes.leaves;
}

-- ---- Octets say one thing, so the event of a datagram is one act

its_compound : (moment peer word : ℕ) (octets : List ℕ) (packets : List RtcpPacket) → IsAccepted octets packets →
    rtcp_came moment peer word octets (Ok packets) ≡ act_of (rtcp_arrived moment peer word octets)
its_compound moment peer word octets packets reads = ap (rtcp_came moment peer word octets)
    (one_reading-once octets (Ok packets) (rtcp_in octets) reads (one_reading-computed octets))

its_packet : (moment peer word : ℕ) (octets : List ℕ) (head : RtpValue) → IsRtpHead octets head →
    rtp_came moment peer word (Ok head) ≡ act_of (rtp_arrived moment peer word octets)
its_packet moment peer word octets head reads = ap (rtp_came moment peer word)
    (one_reading-rtp_once octets (Ok head) (rtp_in octets) reads (one_reading-rtp_computed octets))

of_compound : {old new : GuardedValue} {moment peer word : ℕ} {given : GuardedAnswer}
    (octets : List ℕ)
    (packets : List RtcpPacket) → IsAccepted octets packets →
    Takes old (rtcp_came moment peer word octets (Ok packets)) given new → (act : Act) →
    IsActOfEvent (rtcp_arrived moment peer word octets) act → Takes old act given new
of_compound {old} {new} {moment} {peer} {word} {given} octets packets reads takes act is =
    subst (λ (act : Act). Takes old act given new) (its_compound moment peer word octets packets reads ∙ sym is) takes

of_packet : {old new : GuardedValue} {moment peer word : ℕ} {given : GuardedAnswer}
    (octets : List ℕ)
    (head : RtpValue) → IsRtpHead octets head →
    Takes old (rtp_came moment peer word (Ok head)) given new → (act : Act) →
    IsActOfEvent (rtp_arrived moment peer word octets) act → Takes old act given new
of_packet {old} {new} {moment} {peer} {word} {given} octets head reads takes act is =
    subst (λ (act : Act). Takes old act given new) (its_packet moment peer word octets head reads ∙ sym is) takes

kept_within : {old new : ParticipantValue} → new ≡ old → KeepsCapacity old.presence → KeepsCapacity new.presence
kept_within same keeps = subst (λ (p : ParticipantValue). KeepsCapacity p.presence) (sym same) keeps

pub held_compound : {old new : GuardedValue} {moment peer word ssrc : ℕ} {octets room : List ℕ}
    (packets : List RtcpPacket) {verdict : Verdict} {reason : Reason} → IsAccepted octets packets →
    Foretells old.participant (rtcp_arrived moment peer word octets) (Ok ssrc) →
    Judged old new moment peer ssrc (rtcp (length octets) (Ok packets)) verdict →
    reason_for verdict ≡ Some reason → new.participant ≡ old.participant →
    Replies old (rtcp_arrived moment peer word octets) room room (Err (HeldBack reason)) new
held_compound {old} {new} {moment} {peer} {word} {ssrc} {octets} packets {verdict} {reason} reads foretold j is same =
    record {
      takes = of_compound octets packets reads (held_act moment peer word ssrc _ verdict reason
          (λ h at. foretold (rtcp_came moment peer word octets (Ok packets)) h
          (its_compound moment peer word octets packets reads) at) j is same);
      untaken = same;
      within = kept_within same;
      standing = tt;
      leaves = leaves_all;
    }

pub passed_compound : {old new : GuardedValue} {moment peer word ssrc : ℕ} {octets before after : List ℕ}
    (packets : List RtcpPacket) {verdict : Verdict} (reply : Result WrittenStep Refusal) → IsAccepted octets packets →
    Foretells old.participant (rtcp_arrived moment peer word octets) (Ok ssrc) →
    Judged old new moment peer ssrc (rtcp (length octets) (Ok packets)) verdict →
    reason_for verdict ≡ None →
    ParticipantReplies old.participant (rtcp_arrived moment peer word octets) before after reply new.participant →
    Replies old (rtcp_arrived moment peer word octets) before after (as_refused reply) new
passed_compound {old} {new} {moment} {peer} {word} {ssrc} {octets} {before} {after} packets {verdict} reply reads
    foretold j is replies =
    let act = rtcp_came moment peer word octets (Ok packets) in
    let its : IsActOfEvent (rtcp_arrived moment peer word octets) act =
    its_compound moment peer word octets packets reads in
    replied reply replies (of_compound octets packets reads (passed_act after moment peer word ssrc _ verdict reply
    (λ h at. foretold act h its at) j is (replies.takes act its)))

pub held_packet : {old new : GuardedValue} {moment peer word ssrc : ℕ} {octets room : List ℕ} (head : RtpValue)
    {verdict : Verdict} {reason : Reason} → IsRtpHead octets head →
    Foretells old.participant (rtp_arrived moment peer word octets) (Ok ssrc) →
    Judged old new moment peer ssrc (rtp (Ok head)) verdict →
    reason_for verdict ≡ Some reason → new.participant ≡ old.participant →
    Replies old (rtp_arrived moment peer word octets) room room (Err (HeldBack reason)) new
held_packet {old} {new} {moment} {peer} {word} {ssrc} {octets} head {verdict} {reason} reads foretold j is same =
    record {
      takes = of_packet octets head reads (held_act moment peer word ssrc _ verdict reason
          (λ h at. foretold (rtp_came moment peer word (Ok head)) h (its_packet moment peer word octets head reads)
          at) j is same);
      untaken = same;
      within = kept_within same;
      standing = tt;
      leaves = leaves_all;
    }

pub passed_packet : {old new : GuardedValue} {moment peer word ssrc : ℕ} {octets before after : List ℕ}
    (head : RtpValue) {verdict : Verdict} (reply : Result WrittenStep Refusal) → IsRtpHead octets head →
    Foretells old.participant (rtp_arrived moment peer word octets) (Ok ssrc) →
    Judged old new moment peer ssrc (rtp (Ok head)) verdict →
    reason_for verdict ≡ None →
    ParticipantReplies old.participant (rtp_arrived moment peer word octets) before after reply new.participant →
    Replies old (rtp_arrived moment peer word octets) before after (as_refused reply) new
passed_packet {old} {new} {moment} {peer} {word} {ssrc} {octets} {before} {after} head {verdict} reply reads foretold j
    is replies =
    let act = rtp_came moment peer word (Ok head) in
    let its : IsActOfEvent (rtp_arrived moment peer word octets) act = its_packet moment peer word octets head reads in
    replied reply replies (of_packet octets head reads (passed_act after moment peer word ssrc _ verdict reply
    (λ h at. foretold act h its at) j is (replies.takes act its)))

-- ---- What the guard does not see

-- the one act of an event without a datagram
abbrev pub IsUnseen : Act → Type 0
IsUnseen act = (settings : Settings) (course : Course) →
    (Pass ≡ verdict_in settings course act) × (steps_with course act ≡ course.steps)

pub unseen_reply : {old new : GuardedValue} (event : EventValue) {before after : List ℕ} (act : Act)
    (reply : Result WrittenStep Refusal) → IsUnseen act →
    ((other : Act) → IsActOfEvent event other → other ≡ act) → IsActOfEvent event act → new.guard ≡ old.guard →
    ParticipantReplies old.participant event before after reply new.participant →
    Replies old event before after (as_refused reply) new
unseen_reply {old} {new} event {before} {after} act reply unseen only its same replies =
    replied reply replies (λ other is. subst
    (λ (a : Act). Takes old a (reply_value after (as_refused reply)) new) (sym (only other is))
    (passes_by after act reply unseen same (replies.takes act its)))

-- ---- A tick

-- The guard makes its check where the tick is taken.
abbrev pub GuardTicks : (old new : GuardedValue) (now silent : ℕ) → Result WrittenStep Refusal → Type 0
GuardTicks old new now silent (Ok step) = new.guard ≡ after (check_made now silent) old.guard
GuardTicks old new now silent (Err refusal) = new.guard ≡ old.guard

pub tick_reply : {old new : GuardedValue} {before after_it : List ℕ} (now first second silent : ℕ)
    (reply : Result WrittenStep Refusal) →
    ((h : History) → IsAtHistory old.participant h → silent ≡ silent_in_life (setup_at h) now (life_at h)) →
    GuardTicks old new now silent reply →
    ParticipantReplies old.participant (time_passed now first second) before after_it reply new.participant →
    Replies old (time_passed now first second) before after_it (as_refused reply) new
tick_reply {old} {new} {before} {after_it} now first second silent reply horizon ticks replies =
    replied reply replies (λ other is. subst
    (λ (a : Act). Takes old a (reply_value after_it (as_refused reply)) new) (sym is)
    (passes after_it (ticked now first second) reply (replies.takes (ticked now first second) refl) (λ h stands. refl)
    (goes reply ticks)))
  where
    goes : (reply : Result WrittenStep Refusal) → GuardTicks old new now silent reply →
        GuardGoes old new (ticked now first second) reply
    goes (Ok step) ticks = λ h stands.
        ticks ∙ (λ i. after (check_made now (horizon (passed_at h) stands.participant i)) (stands.guard i))
    goes (Err refusal) ticks = ticks
