use Rattle.std.proofs.Common.{◌≤◌, length, map}
use Rattle.rtcp_report.specs.Reports.{item_value}
use Rattle.rtcp_text.specs.SettingsFields.{item_in, parts_at, parts_left}
use Rattle.rtcp_text.proofs.ListLemmas.{IsReading}
use Rattle.rtcp_text.proofs.settings_fields.read_items.Given as goal

abbrev pub invariant-parts : goal.invariant-parts
invariant-parts l = record {
  few : length (map item_value l.items.items) ≤ 7;
  reading : IsReading item_in (parts_at 44 l.fn.field) (map item_value l.items.items) (parts_left 44 l.parts.rest);
}

abbrev pub decreases-parts : goal.decreases-parts
decreases-parts l = length (parts_left 44 l.parts.rest)
