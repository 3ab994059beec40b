use Rattle.std.proofs.Common.{◌≡◌, ◌∙◌, ◌≤◌, ◌<◌, ℕ, Bool, true, false, Option, Some, None, option_map, if◌then◌else◌, nat_le, arith, refl, ap, sym, subst}
use Rattle.std.proofs.lemmas.Bool.{le-leb, lt-leb}
use Rattle.rtcp_engine.specs.answers.Acts.{left, OutValue}
use Rattle.rtcp_engine.specs.answers.Leaving.{backing_off, backoff_from, few_members, finished, sent_nothing}
use Rattle.rtcp_engine.specs.answers.Lives.{bye_out}
use Rattle.rtcp_engine.specs.answers.Outcomes.{Outcome, member_count}
use Rattle.rtcp_engine.specs.answers.Reporting.{bye_octets}
use Rattle.rtcp_engine.specs.state.States.{ParticipantValue, Acts, Agrees, HasOthers, IsAt, Stays, taking_part}
use Rattle.rtcp_engine.proofs.ActLemmas.{acts_from_present, outside_at, same_stays}
use Rattle.rtcp_engine.proofs.RolesChanged.{leave_moves}
use Rattle.rtcp_engine.proofs.LifeLemmas.{left_lives, left_byes}
use Rattle.rtcp_engine.proofs.participant.Participant.depart.Goals as goal

-- One that leaves, by what it tests: whether nobody heard of it, and whether few are members.
leaves : {p w q : ParticipantValue} {word : ℕ} {out : Option OutValue} {others : Bool} (nothing_sent : Bool)
    (few : Outcome → Bool) → p ≡ w → w.phase ≡ taking_part → HasOthers w.presence others →
    Stays p.presence q.presence → q.changes ≡ p.changes
    → ((o : Outcome) → Agrees p.presence o → sent_nothing o ≡ nothing_sent)
    → ((o : Outcome) → Agrees p.presence o → nat_le (member_count p.presence.setup o) few_members ≡ few o)
    → ((o : Outcome) → Agrees p.presence o → IsAt q (if nothing_sent then finished o else
    (if few o then finished o else backing_off o (backoff_from p.presence.setup p.presence.latest word o))))
    → ((o : Outcome) → out ≡ option_map bye_out
    (if nothing_sent then None else (if few o then Some (bye_octets p.presence.setup) else None)))
    → Acts w q (left w.presence.latest word) out others
leaves {p} {w} {q} {word} {out} {others} nothing_sent few is phase there stays changes unheards fews at outs =
    let s = p.presence in
    outside_at (λ (x : ParticipantValue). left x.presence.latest word) is
    (acts_from_present (λ settings. refl) (ap (λ (x : ParticipantValue). x.phase) is ∙ phase) stays changes
    (λ o agrees. subst (IsAt q) (sym (left_lives s.setup s.latest word o nothing_sent (few o) (unheards o agrees)
    (fews o agrees))) (at o agrees))
    (λ o agrees. outs o ∙ sym (left_byes s.setup o nothing_sent (few o) (unheards o agrees) (fews o agrees)))
    (λ o agrees. subst (λ (x : ParticipantValue). HasOthers x.presence others) (sym is) there o agrees
    ∙ leave_moves s.setup s.latest word o))

pub returns-then-sent_nothing-clause-new : goal.returns-then-sent_nothing-clause-new
returns-then-sent_nothing-clause-new g c others there =
    leaves true (λ o. nat_le (member_count c.self.inside.presence.setup o) few_members) c.self.view_is c.requires.phase
    there (same_stays c.self.inside.presence) refl
    (λ o agrees. sym (c.sent_nothing.ensures o agrees) ∙ c.if-sent_nothing.true) (λ o agrees. refl) (λ o agrees. refl)
    (λ o. refl)

pub returns-then-member_count-le-FEW_MEMBERS-clause-new : goal.returns-then-member_count-le-FEW_MEMBERS-clause-new
returns-then-member_count-le-FEW_MEMBERS-clause-new g c others there =
    leaves false (λ o. true) c.self.view_is c.requires.phase there (same_stays c.self.inside.presence) refl
    (λ o agrees. sym (c.sent_nothing.ensures o agrees) ∙ c.if-sent_nothing.false)
    (λ o agrees. le-leb _ 50 (subst (λ (n : ℕ). n ≤ 50) (c.member_count.ensures.exact o agrees)
    c.if-member_count-le-FEW_MEMBERS.true)) (λ o agrees. refl) (λ o. c.write_bye.ensures.out)

pub returns-clause-new : goal.returns-clause-new
returns-clause-new g c others there =
    leaves false (λ o. false) c.self.view_is c.requires.phase there c.back_off.ensures.stays refl
    (λ o agrees. sym (c.sent_nothing.ensures o agrees) ∙ c.if-sent_nothing.false)
    (λ o agrees. lt-leb _ 50 (subst (λ (n : ℕ). 50 < n) (c.member_count.ensures.exact o agrees)
    (omega (arith, c.if-member_count-le-FEW_MEMBERS.false))))
    (λ o agrees. (refl, c.back_off.ensures.waits o agrees)) (λ o. refl)
