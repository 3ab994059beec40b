use Rattle.std.proofs.Common.{rules, [], Some, map, sym}
use Rattle.rtcp_report.specs.Reports.{item_value}
use Rattle.rtcp_text.specs.SettingsFields.{item_in, parts_at}
use Rattle.rtcp_text.proofs.ListLemmas.{IsReading, reading_ends, list_in-listed}
use Rattle.rtcp_text.proofs.settings_fields.read_items.Goals as goal

pub returns : goal.returns
returns c =
    let field = c.args.field.now in
    let done = map item_value c.parts.items.items in
    let read : IsReading item_in (parts_at 44 field) done [] =
    rw c.in_default.ensures.none at c.parts.invariant.reading in
    sym (list_in-listed item_in field 7 (Some done) (search rules)
    (reading_ends item_in (parts_at 44 field) 7 done read c.parts.invariant.few))
