use Rattle.std.proofs.Common.{◌++◌, codes, ap, ◌∙◌}
use Rattle.rtcp_engine.specs.answers.Setups.{Setup}
use Rattle.rtcp_engine.specs.state.Views.{setup_of}
use Rattle.rtcp_text.specs.Text.{hex_word}
use Rattle.rtcp_command.specs.ReplayCommand.{setup_text}
use Rattle.rtcp_command.proofs.replay_command.begun.Goals as goal

pub returns : goal.returns
returns c =
    let s : Setup = setup_of c.args.config.now in
    let first = c.in_ok-extend_from_slice.ensures.items
    ∙ ap (λ xs. xs ++ codes "rtcp replay") c.new-line.ensures.items in
    let setup = c.in_ok-push_setup.ensures ∙ ap (λ xs. xs ++ setup_text s) first in
    c.in_ok-push_hex.ensures ∙ ap (λ xs. xs ++ codes " --word " ++ hex_word c.args.word) setup
