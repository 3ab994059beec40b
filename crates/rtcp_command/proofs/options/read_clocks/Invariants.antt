use Rattle.std.proofs.Common.{◌≤◌, length, map, drop}
use Rattle.rtcp_engine.specs.answers.Acts.{clock_value}
use Rattle.rtcp_text.proofs.ListLemmas.{IsReading}
use Rattle.rtcp_command.specs.Options.{clock_given}
use Rattle.rtcp_command.proofs.options.read_clocks.Given as goal

-- the clocks so far, and the texts that are left
abbrev pub invariant-clocks : goal.invariant-clocks
invariant-clocks l = record {
  few : length (map clock_value l.clocks.items) ≤ 16;
  reading : IsReading clock_given (map (λ text. text.now) l.given) (map clock_value l.clocks.items)
      (map (λ text. text.now) (drop l.text-index l.given));
}
