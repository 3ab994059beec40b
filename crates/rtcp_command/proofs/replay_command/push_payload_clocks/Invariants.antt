use Rattle.std.proofs.Common.{◌≡◌, ◌++◌, drop}
use Rattle.std.specs.List.{flat_map}
use Rattle.rtcp_engine.specs.answers.Acts.{clock_value}
use Rattle.rtcp_command.specs.ReplayCommand.{clock_option_text}
use Rattle.rtcp_command.proofs.replay_command.push_payload_clocks.Given as goal

-- what is written, and then the options of the clocks that are left
abbrev pub invariant-loop-clock : goal.invariant-loop-clock
invariant-loop-clock l =
    l.out.items ++ flat_map (λ clock. clock_option_text (clock_value clock)) (drop l.clock-index l.clocks)
    ≡ l.fn.out.items ++ flat_map (λ clock. clock_option_text (clock_value clock)) l.clocks
