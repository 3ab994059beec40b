use Rattle.std.proofs.Common.{◌≡◌, ◌+◌, ◌==◌, ◌∙◌, ℕ, List, Bool, true, false, min, if◌then◌else◌, refl, ap, sym, subst, arith, eq-eqb}
use Rattle.std.proofs.lemmas.Bool.{ne_eqb}
use Rattle.rtcp_wire.specs.Values.{RtcpPacket}
use Rattle.rtcp_engine.specs.answers.Leaving.{backing_off, bye_count, with_byes_of}
use Rattle.rtcp_engine.specs.state.States.{ParticipantValue, IsAt, leaving}
use Rattle.rtcp_engine.proofs.ActLemmas.{acts_from_backoff, outside, same_stays}
use Rattle.rtcp_engine.proofs.LifeLemmas.{leaving_counts}
use Rattle.rtcp_engine.proofs.participant.Participant.count_byes_of.Goals as goal

pub returns-then-byes-eq0-clause-new : goal.returns-then-byes-eq0-clause-new
returns-then-byes-eq0-clause-new g c now peer word =
    let p = c.args.self.now in
    let n = bye_count c.args.compound.now in
    let counted : c.count_byes-byes.result ≡ min 65535 n = c.count_byes-byes.ensures
    ∙ ap (λ (packets : List RtcpPacket). min 65535 (bye_count packets)) c.packets.ensures in
    let none : (n == 0) ≡ true = eq-eqb n 0 (omega (arith, counted, c.if-byes-eq0.true)) in
    acts_from_backoff (λ settings. refl) c.args.members c.requires.phase (same_stays p.presence) refl
    (λ outcome backoff waits count. subst
    (λ (b : Bool). IsAt p (backing_off outcome (if b then backoff else with_byes_of n c.args.size backoff)))
    (sym none) (c.requires.phase ∙ ap leaving count, waits))
    (λ outcome backoff waits count. refl)

pub returns-clause-new : goal.returns-clause-new
returns-clause-new g c now peer word =
    let phase = ap (λ (p : ParticipantValue). p.phase) c.self.view_is ∙ c.requires.phase in
    let n = bye_count c.args.compound.now in
    let counted : c.count_byes-byes.result ≡ min 65535 n = c.count_byes-byes.ensures
    ∙ ap (λ (packets : List RtcpPacket). min 65535 (bye_count packets)) c.packets.ensures in
    let some : (n == 0) ≡ false = ne_eqb n 0 (λ zero. c.if-byes-eq0.false (omega (arith, counted, zero))) in
    let q : ParticipantValue = record {
      presence = c.hear_byes.new.self;
      phase = leaving c.min.result;
      changes = c.self.inside.changes.list.items;
    } in
    let more = c.min.ensures ∙ ap (λ (m : ℕ). min 65535 (c.args.members + m)) counted in
    outside c.self.view_is (acts_from_backoff (λ settings. refl) c.args.members phase c.hear_byes.ensures.stays refl
    (λ outcome backoff waits count.
    subst (λ (b : Bool). IsAt q (backing_off outcome (if b then backoff else with_byes_of n c.args.size backoff)))
    (sym some) (
      ap leaving (leaving_counts c.args.size n c.args.members c.min.result backoff count more),
      c.hear_byes.ensures.waits outcome backoff n waits,
    ))
    (λ outcome backoff waits count. refl))
