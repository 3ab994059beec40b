-- What begins is the participant of the configuration that was filled in, at the start that this gives.
use Rattle.std.proofs.Common.{◌≡◌, ℕ, Option, Some, None, inl, inr, refl, sym, subst, ◌∙◌, ap, arith}
use Rattle.rtcp_engine.specs.answers.Refused.{error_in}
use Rattle.rtcp_engine.specs.state.States.{StandsAt}
use Rattle.rtcp_engine.specs.state.Taken.{begun}
use Rattle.jalwedd_host.specs.declared.session.HostSession.{HostSession}
use Rattle.jalwedd_host.specs.Answers.{IsBlank}
use Rattle.jalwedd_host.specs.Configs.{setup_given}
use Rattle.jalwedd_host.specs.Handles.{KeepsWithin, Leads, LeadsTo}
use Rattle.jalwedd_host.proofs.LawLemmas.{leads_as, session_of}
use Rattle.jalwedd_c.proofs.Refusing.{not_refused}
use Rattle.jalwedd_c.proofs.begin.jalwedd_new.Goals as goal

pub returns-clause-begins : goal.returns-clause-begins
returns-clause-begins c taken =
    let config = c.args.config.now in
    let history = begun (setup_given config c.args.cname.now c.args.items.now) c.args.word in
    let given = c.in_default-fill.ensures.given refl in
    let begins = c.with_table.ensures.begins in
    let stands = subst (λ setup. StandsAt c.with_table.result (begun setup c.args.word)) given begins in
    let leads : Leads (record { participant = c.with_table.result; start = config.start; guard = c.in-Ok.guard })
    config.start history =
    record { stands = stands; counts = refl; range = c.if-config-ge-START_LIMIT.false } in
    record {
      stands = subst (λ (h : Option HostSession). LeadsTo h config.start history) (sym (c.begin.ensures.begun taken))
          leads;
      shows = c.begin.ensures.shows config.start history leads taken;
    }

is_none : {refusal : Option ℕ} {status : ℕ} → refusal ≡ None → refusal ≡ Some status → ⊥
is_none none is = cc

pub returns-clause-vacant : goal.returns-clause-vacant
returns-clause-vacant c vacant =
    let fill = c.in_default-fill.ensures in
    let usable = ap error_in (sym (fill.given refl)) ∙ sym c.in_default-error.ensures.exact in
    let low = c.if-config-ge-START_LIMIT.false in
    let none = not_refused c.args.config.now c.args.cname.now c.args.items.now (fill.fits refl) usable low
    (c.can_guard.ensures.0 c.if-not-can_guard.false) in
    let begin = c.begin.ensures in
    record {
      refused = λ status is. absurd (is_none none is);
      taken = λ unrefused. begin.status;
      blank = λ failed. subst IsBlank (sym (begin.untouched failed)) c.blank.ensures;
      within = elim begin.status [
        | inl begun ↦ subst KeepsWithin (sym (begin.begun begun)) c.with_table.ensures.within
        | inr full ↦ subst KeepsWithin (sym (begin.kept (λ zero. absurd (omega (arith, full, zero))))) tt
      ];
    }

pub returns-in-Some-clause-live : goal.returns-in-Some-clause-live
returns-in-Some-clause-live c = record {
  live = λ session is. refl;
  shows = λ start history leads.
      let holds = session_of _ _ start history c.in-Some.ensures.gives leads in
      c.step.ensures.shown start history (leads_as _ _ start history (sym c.deref.ensures) holds);
}
