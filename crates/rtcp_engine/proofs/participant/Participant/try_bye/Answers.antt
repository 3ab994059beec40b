use Rattle.std.proofs.Common.{◌∙◌, Bool, Some, None, if◌then◌else◌, refl, ap, sym, subst}
use Rattle.rtcp_engine.specs.answers.Acts.{ticked}
use Rattle.rtcp_engine.specs.answers.Leaving.{backing_off, finished, after_wait}
use Rattle.rtcp_engine.specs.answers.Lives.{bye_out}
use Rattle.rtcp_engine.specs.answers.Reporting.{bye_octets}
use Rattle.rtcp_engine.specs.answers.Setups.{Setup}
use Rattle.rtcp_engine.specs.state.States.{ParticipantValue, IsAt, leaving}
use Rattle.rtcp_engine.proofs.ActLemmas.{acts_from_backoff, outside_at}
use Rattle.rtcp_engine.proofs.LifeLemmas.{wait_keeps_count}
use Rattle.rtcp_engine.proofs.participant.Participant.try_bye.Goals as goal

pub returns-then-not-expire_backoff-clause-new : goal.returns-then-not-expire_backoff-clause-new
returns-then-not-expire_backoff-clause-new g c w2 =
    let phase = ap (λ (p : ParticipantValue). p.phase) c.self.view_is ∙ c.requires.phase in
    let setup = c.self.inside.presence.setup in
    let q : ParticipantValue = record {
      presence = c.expire_backoff.new.self;
      phase = Rattle.rtcp_engine.specs.state.Views.phase_value c.self.inside.phase;
      changes = c.self.inside.changes.list.items;
    } in
    outside_at (λ (p : ParticipantValue). ticked p.presence.latest c.args.w1 w2) c.self.view_is
    (acts_from_backoff (λ settings. refl) c.args.members phase c.expire_backoff.ensures.new.stays refl
    (λ outcome backoff waits count.
    let due = sym (c.expire_backoff.ensures.due outcome backoff waits count) ∙ c.if-not-expire_backoff.true in
    subst (λ (b : Bool). IsAt q (if b then finished outcome else backing_off outcome
    (after_wait setup c.self.inside.presence.latest c.args.w1 backoff))) (sym due) (
      phase ∙ ap leaving (count ∙ sym (wait_keeps_count setup c.self.inside.presence.latest c.args.w1 backoff)),
      c.expire_backoff.ensures.new.follows outcome backoff waits count,
    ))
    (λ outcome backoff waits count. ap (λ (b : Bool). if b then Some (bye_out (bye_octets setup)) else None)
    (sym c.if-not-expire_backoff.true ∙ c.expire_backoff.ensures.due outcome backoff waits count)))

pub returns-clause-new : goal.returns-clause-new
returns-clause-new g c w2 =
    let phase = ap (λ (p : ParticipantValue). p.phase) c.self.view_is ∙ c.requires.phase in
    let setup = c.self.inside.presence.setup in
    let q : ParticipantValue = record {
      presence = c.expire_backoff.new.self;
      phase = Rattle.rtcp_engine.specs.state.States.over;
      changes = c.self.inside.changes.list.items;
    } in
    outside_at (λ (p : ParticipantValue). ticked p.presence.latest c.args.w1 w2) c.self.view_is
    (acts_from_backoff (λ settings. refl) c.args.members phase c.expire_backoff.ensures.new.stays refl
    (λ outcome backoff waits count.
    let due = sym (c.expire_backoff.ensures.due outcome backoff waits count) ∙ c.if-not-expire_backoff.false in
    subst (λ (b : Bool). IsAt q (if b then finished outcome else backing_off outcome
    (after_wait setup c.self.inside.presence.latest c.args.w1 backoff))) (sym due) refl)
    (λ outcome backoff waits count.
    c.write_bye.ensures.out ∙ ap (λ (st : Setup). Some (bye_out (bye_octets st)))
    c.expire_backoff.ensures.new.stays.setup
    ∙ ap (λ (b : Bool). if b then Some (bye_out (bye_octets setup)) else None)
    (sym c.if-not-expire_backoff.false ∙ c.expire_backoff.ensures.due outcome backoff waits count)))
