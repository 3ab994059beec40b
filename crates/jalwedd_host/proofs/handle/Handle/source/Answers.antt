-- What is told of a source came by the latest call, so that the clock can show it.
use Rattle.std.proofs.Common.{◌≡◌, ◌+◌, ◌<◌, ◌-◌, ◌^◌, ℕ, Option, Some, subst, ◌∙◌, arith}
use Rattle.rtcp_members.specs.ListViews.{state_value}
use Rattle.rtcp_members.specs.Past.{IsKnownBy}
use Rattle.rtcp_engine.specs.answers.Histories.{last_moment, life_at, setup_at}
use Rattle.rtcp_engine.specs.answers.Lives.{ListsInLife}
use Rattle.jalwedd_host.specs.Sources.{IsShown, after_of}
use Rattle.jalwedd_host.proofs.Held.{leads_as, session_of}
use Rattle.jalwedd_host.proofs.handle.Handle.source.Goals as goal

pub returns-in-Some-state-clause-listed : goal.returns-in-Some-state-clause-listed
returns-in-Some-state-clause-listed c start history leads =
    let same : c.in-Some.session.value ≡ c.deref_mut.result.now = cc in
    let holds = session_of _ _ start history c.in-Some.ensures.gives leads in
    let stands = leads_as _ _ start history same holds in
    let is = stands.stands.is_history in
    let after = after_of c.args.from in
    let state = state_value c.in-Some-state.state in
    let tells = subst (λ (a : Option ℕ). ListsInLife (setup_at history) a (life_at history) (Some state))
    c.before-in-Some.ensures (c.in-Some-state.ensures.listed history stands.stands) in
    let passed = c.listed_moments_have_passed.ensures in
    let latest = last_moment history.acts in
    let by : IsKnownBy latest state = record {
      heard = passed.heard history is after state tells;
      left = passed.left history is after state tells;
      last_report = passed.last_report history is after state tells;
    } in
    let past = passed.range history is in
    let counts : c.deref.result.now.start ≡ start = (λ i. (c.deref.ensures i).start) ∙ stands.counts in
    let fits : c.deref.result.now.start + latest < 2 ^ 64 - 1 = omega (arith, past, stands.range, counts) in
    let shown = c.of.ensures latest fits by in
    (state, tells, subst (λ (n : ℕ). IsShown n c.of.result state) counts shown)
