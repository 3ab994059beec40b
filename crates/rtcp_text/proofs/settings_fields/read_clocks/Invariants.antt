use Rattle.std.proofs.Common.{◌≤◌, length, map}
use Rattle.rtcp_engine.specs.answers.Acts.{clock_value}
use Rattle.rtcp_text.specs.SettingsFields.{clock_in, parts_at, parts_left}
use Rattle.rtcp_text.proofs.ListLemmas.{IsReading}
use Rattle.rtcp_text.proofs.settings_fields.read_clocks.Given as goal

abbrev pub invariant-parts : goal.invariant-parts
invariant-parts l = record {
  few : length (map clock_value l.clocks.items) ≤ 16;
  reading : IsReading clock_in (parts_at 44 l.fn.field) (map clock_value l.clocks.items) (parts_left 44 l.parts.rest);
}

abbrev pub decreases-parts : goal.decreases-parts
decreases-parts l = length (parts_left 44 l.parts.rest)
