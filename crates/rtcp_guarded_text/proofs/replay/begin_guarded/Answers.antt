-- The guard has room for the sources of the table.
use Rattle.std.proofs.Common.{ap, ◌∙◌}
use Rattle.rtcp_engine.specs.state.Views.{setup_of}
use Rattle.rtcp_guard.specs.Guarding.{new_guard}
use Rattle.rtcp_guarded_text.specs.GuardedReplay.{settings_for}
use Rattle.rtcp_guarded_text.proofs.replay.begin_guarded.Goals as goal

pub returns : goal.returns
returns c =
    c.new-2.ensures (settings_for c.args.config.capacity c.args.limits) (setup_of c.args.config) c.args.word
    c.with_table.ensures.begins (c.in_ok-guard.ensures ∙ ap new_guard c.settings.ensures)
