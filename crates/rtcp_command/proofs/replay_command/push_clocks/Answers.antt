use Rattle.std.proofs.Common.{codes, sym, ap, ◌∙◌}
use Rattle.std.specs.Fmt.{decimal}
use Rattle.std.specs.List.{flat_map}
use Rattle.rtcp_engine.specs.answers.Acts.{clock_value}
use Rattle.rtcp_text.specs.Text.{hex_long}
use Rattle.rtcp_command.specs.ReplayCommand.{clock_option_text}
use Rattle.rtcp_command.proofs.ReplayCommandLemmas.{pair_around, flat_map-map}
use Rattle.rtcp_command.proofs.replay_command.push_clocks.Goals as goal

pub returns : goal.returns
returns c =
    let clocks = c.args.config.now.clocks.items in
    let texts = ap (flat_map (λ clock. clock_option_text (clock_value clock))) c.deref.ensures.0
    ∙ sym (flat_map-map clock_value clock_option_text clocks) in
    pair_around _ _ (codes " --rate ") (decimal c.args.config.now.rate) _ (codes " --ntp ")
    (hex_long c.args.config.now.ntp_base) _ _ _ c.in_ok-push_number.ensures
    (rw texts at c.in_ok-push_payload_clocks.ensures) c.push_timestamp.ensures
