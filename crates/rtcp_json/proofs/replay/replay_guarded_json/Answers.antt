-- A configuration is refused, or each promise is one case of what the session leaves.
use Rattle.std.proofs.Common.{[], Ok, Err, Some, refl, ap, sym, ◌∙◌, append-nil, inl}
use Rattle.rtcp_engine.specs.state.Views.{setup_of}
use Rattle.rtcp_text.specs.Counted.{inner_of}
use Rattle.rtcp_text.specs.declared.fault.TextFault.TheVariants.{Memory}
use Rattle.rtcp_guarded_text.specs.GuardedReplay.{guarded_begun}
use Rattle.rtcp_json.proofs.GuardedJsonLemmas.{replays}
use Rattle.rtcp_json.proofs.replay.replay_guarded_json.Goals as goal

pub returns-in_default-begin_guarded-clause-replays : goal.returns-in_default-begin_guarded-clause-replays
returns-in_default-begin_guarded-clause-replays g c =
    replays c.args.lines (guarded_begun (setup_of c.args.config) c.args.word c.args.limits) (Err Memory)
    (g.R.Read.remaining (inner_of c.args.reader.now))
    (λ input before known held. ([], held ∙ ap Some (sym (append-nil before)), inl refl))

pub returns-in-Ok-guarded_session-clause-replays : goal.returns-in-Ok-guarded_session-clause-replays
returns-in-Ok-guarded_session-clause-replays g c =
    let history = guarded_begun (setup_of c.args.config) c.args.word c.args.limits in
    replays c.args.lines history (Ok tt) (g.R.Read.remaining (inner_of c.guarded_session.new.reader))
    (c.in-Ok-guarded_session.ensures.leaves history c.in-Ok.ensures)

pub returns-in-Err-clause-replays : goal.returns-in-Err-clause-replays
returns-in-Err-clause-replays g c =
    let history = guarded_begun (setup_of c.args.config) c.args.word c.args.limits in
    replays c.args.lines history (Err c.in-Err.fault) (g.R.Read.remaining (inner_of c.guarded_session.new.reader))
    (c.in-Err.ensures.leaves history c.in-Ok.ensures)
