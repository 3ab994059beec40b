-- The moment is counted from the start of the session that is held.
use Rattle.std.proofs.Common.{◌≡◌, ℕ, refl, subst, sym}
use Rattle.rtcp_engine.specs.answers.Acts.{rtcp_arrived}
use Rattle.jalwedd_host.specs.Guards.{Judges}
use Rattle.jalwedd_host.specs.declared.session.HostSession.{HostSession}
use Rattle.jalwedd_c.proofs.Guarding.{same_session, spares_arrival, spares_held, spares_passed, tells_held, tells_passed}
use Rattle.jalwedd_c.proofs.Serving.{tells}
use Rattle.jalwedd_c.proofs.calls.jalwedd_arrive_rtcp.Goals as goal

judges : (c : goal.After-put_back) →
    Judges c.deref_mut.result.now (rtcp_arrived c.in-Ok.opened.1 c.args.peer c.args.word c.args.datagram.now) 0
    c.deref_mut-2.result.now
judges c =
    let event = rtcp_arrived c.in-Ok.opened.1 c.args.peer c.args.word c.args.datagram.now in
    let after = subst (λ (mid : HostSession). Judges c.deref_mut.result.now event c.judge_rtcp-status.result mid)
    (sym c.deref_mut-2.ensures.value) c.judge_rtcp-status.ensures.judges in
    subst (λ (status : ℕ). Judges c.deref_mut.result.now event status c.deref_mut-2.result.now)
    c.if-status-ne-TAKEN.false after

pub returns-clause-tells : goal.returns-clause-tells
returns-clause-tells c unguarded =
    let (gives, out, counted) = c.in-Ok.ensures in
    let put = c.put_back.ensures in
    let reply = c.arrive_rtcp_into-reply.ensures in
    tells (λ m. rtcp_arrived m c.args.peer c.args.word c.args.datagram.now) _ gives counted
    (same_session gives c.deref_mut.ensures.value (judges c) unguarded) refl reply put.held (put.status _)
    (put.handed _ _ reply.writes.leaves) put.shown

pub returns-clause-guarded : goal.returns-clause-guarded
returns-clause-guarded c =
    let (gives, out, counted) = c.in-Ok.ensures in
    let put = c.put_back.ensures in
    let reply = c.arrive_rtcp_into-reply.ensures in
    tells_passed {mid = c.deref_mut-2.result.now} (λ m. rtcp_arrived m c.args.peer c.args.word c.args.datagram.now)
    c.arrive_rtcp_into-reply.result c.arrive_rtcp_into-reply.new.self gives counted c.deref_mut.ensures.value (judges c)
    reply put.held (put.status _) (put.handed _ _ reply.writes.leaves) put.shown

pub returns-clause-spares : goal.returns-clause-spares
returns-clause-spares c =
    let (gives, out, counted) = c.in-Ok.ensures in
    let put = c.put_back.ensures in
    spares_passed {mid = c.deref_mut-2.result.now} c.arrive_rtcp_into-reply.result c.arrive_rtcp_into-reply.new.self
    gives c.deref_mut.ensures.value (judges c) c.arrive_rtcp_into-reply.ensures put.held (put.status _)

pub returns-then-status-ne-TAKEN-clause-guarded : goal.returns-then-status-ne-TAKEN-clause-guarded
returns-then-status-ne-TAKEN-clause-guarded c =
    let (gives, out, counted) = c.in-Ok.ensures in
    let put = c.put_back_untold.ensures in
    let event = λ (m : ℕ). rtcp_arrived m c.args.peer c.args.word c.args.datagram.now in
    tells_held event gives counted c.deref_mut.ensures.value
    (subst (λ (status : ℕ). Judges c.deref_mut.result.now (event c.in-Ok.opened.1) status c.judge_rtcp-status.new.self)
    (sym put.status) c.judge_rtcp-status.ensures.judges)
    (subst (λ (status : ℕ). status ≡ 0 → ⊥) (sym put.status) c.if-status-ne-TAKEN.true) put.held put.nothing put.shown

pub returns-then-status-ne-TAKEN-clause-spares : goal.returns-then-status-ne-TAKEN-clause-spares
returns-then-status-ne-TAKEN-clause-spares c =
    let (gives, out, counted) = c.in-Ok.ensures in
    let put = c.put_back_untold.ensures in
    let event = rtcp_arrived c.in-Ok.opened.1 c.args.peer c.args.word c.args.datagram.now in
    spares_held gives c.deref_mut.ensures.value
    (subst (λ (status : ℕ). Judges c.deref_mut.result.now event status c.judge_rtcp-status.new.self)
    (sym put.status) c.judge_rtcp-status.ensures.judges)
    (subst (λ (status : ℕ). status ≡ 0 → ⊥) (sym put.status) c.if-status-ne-TAKEN.true) put.held

pub returns-in-Err-clause-spares : goal.returns-in-Err-clause-spares
returns-in-Err-clause-spares c = spares_arrival (c.in-Err.ensures.spares _)
