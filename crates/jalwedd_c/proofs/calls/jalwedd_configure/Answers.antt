-- The moment is counted from the start of the session that is held, and the settings are those that were filled in.
use Rattle.std.proofs.Common.{◌≡◌, ℕ, refl, subst}
use Rattle.rtcp_engine.specs.answers.Acts.{configured, settings_given as settings_told, settings_value}
use Rattle.rtcp_engine.specs.answers.Setups.{SettingsValue}
use Rattle.jalwedd_host.specs.Guards.{TellsGuarded}
use Rattle.jalwedd_host.specs.Promises.{TellsSession, TurnsAway}
use Rattle.jalwedd_host.specs.declared.session.HostSession.{HostSession}
use Rattle.jalwedd_c.proofs.Guarding.{tells_refused, unseen}
use Rattle.jalwedd_c.proofs.Serving.{tells}
use Rattle.jalwedd_c.proofs.calls.jalwedd_configure.Goals as goal

pub returns-clause-tells : goal.returns-clause-tells
returns-clause-tells c fits =
    let (gives, left, counted) = c.in-Ok.ensures in
    let put = c.put_back.ensures in
    let reply = c.configure_into-reply.ensures.replies in
    let given = c.in_default.ensures.given refl in
    subst (λ (s : SettingsValue). TellsSession (λ m. settings_told m s) c.args.now c.args.handle.now.owned.held
    c.put_back.new.self.owned.held c.put_back.result c.put_back.new.step c.args.octets.now
    c.configure_into-reply.new.octets) given
    (tells (λ m. settings_told m (settings_value c.fill_settings.new.given)) _ gives counted c.deref_mut.ensures.value
    refl reply put.held (put.status _) (put.handed _ _ reply.writes.leaves) put.shown)

pub returns-clause-guarded : goal.returns-clause-guarded
returns-clause-guarded c fits =
    let (gives, left, counted) = c.in-Ok.ensures in
    let put = c.put_back.ensures in
    let before = c.deref_mut.result.now in
    let after : HostSession = record before { participant = c.configure_into-reply.new.self } in
    let reply = c.configure_into-reply.ensures.replies in
    let given = c.in_default.ensures.given refl in
    let settings = settings_value c.fill_settings.new.given in
    subst (λ (s : SettingsValue). TellsGuarded (λ m. settings_told m s) c.args.now c.args.handle.now.owned.held
    c.put_back.new.self.owned.held c.put_back.result c.put_back.new.step c.args.octets.now
    c.configure_into-reply.new.octets) given
    (tells_refused {before = before} {after = after} (λ m. settings_told m settings) _ gives counted
    c.deref_mut.ensures.value refl
    (unseen before after (settings_told _ settings) (configured _ settings) _ (λ s course. (refl, refl))
    (λ other is. is) refl refl
    reply) put.held (put.status _) (put.handed _ _ reply.writes.leaves) put.shown)

pub returns-in-Some-clause-turns_away : goal.returns-in-Some-clause-turns_away
returns-in-Some-clause-turns_away c status is =
    let same : c.in-Some.status ≡ status = cc (c.in-Some.ensures.refused, is) in
    subst (λ (s : ℕ). TurnsAway s c.args.handle.now.owned.held c.turn_away.result c.turn_away.new.step
    c.args.octets.now c.args.octets.now) same (c.turn_away.ensures.turns_away c.args.octets.now)
