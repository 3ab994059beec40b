-- A configuration is refused, or each promise is one case of what the session leaves.
use Rattle.std.proofs.Common.{[], Ok, Err, Some, refl, ap, sym, ◌∙◌, append-nil, inl}
use Rattle.rtcp_engine.specs.state.Taken.{begun}
use Rattle.rtcp_engine.specs.state.Views.{setup_of}
use Rattle.rtcp_text.specs.Counted.{inner_of}
use Rattle.rtcp_text.specs.declared.fault.TextFault.TheVariants.{Memory}
use Rattle.rtcp_json.proofs.ReplayJsonLemmas.{replays}
use Rattle.rtcp_json.proofs.replay.replay_json.Goals as goal

pub returns-in_default-with_room-clause-replays : goal.returns-in_default-with_room-clause-replays
returns-in_default-with_room-clause-replays g c =
    replays c.args.lines (begun (setup_of c.args.config) c.args.word) (Err Memory)
    (g.R.Read.remaining (inner_of c.args.reader.now))
    (λ input before known held. ([], held ∙ ap Some (sym (append-nil before)), inl refl))

pub returns-in-Ok-session-clause-replays : goal.returns-in-Ok-session-clause-replays
returns-in-Ok-session-clause-replays g c =
    let history = begun (setup_of c.args.config) c.args.word in
    replays c.args.lines history (Ok tt) (g.R.Read.remaining (inner_of c.session.new.reader))
    (c.in-Ok-session.ensures.leaves history c.with_table-participant.ensures.begins)

pub returns-in-Err-clause-replays : goal.returns-in-Err-clause-replays
returns-in-Err-clause-replays g c =
    let history = begun (setup_of c.args.config) c.args.word in
    replays c.args.lines history (Err c.in-Err.fault) (g.R.Read.remaining (inner_of c.session.new.reader))
    (c.in-Err.ensures.leaves history c.with_table-participant.ensures.begins)
