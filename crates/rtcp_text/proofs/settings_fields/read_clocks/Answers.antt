use Rattle.std.proofs.Common.{rules, [], Some, map, sym}
use Rattle.rtcp_engine.specs.answers.Acts.{clock_value}
use Rattle.rtcp_text.specs.SettingsFields.{clock_in, parts_at}
use Rattle.rtcp_text.proofs.ListLemmas.{IsReading, reading_ends, list_in-listed}
use Rattle.rtcp_text.proofs.settings_fields.read_clocks.Goals as goal

pub returns : goal.returns
returns c =
    let field = c.args.field.now in
    let done = map clock_value c.parts.clocks.items in
    let read : IsReading clock_in (parts_at 44 field) done [] =
    rw c.in_default.ensures.none at c.parts.invariant.reading in
    sym (list_in-listed clock_in field 16 (Some done) (search rules)
    (reading_ends clock_in (parts_at 44 field) 16 done read c.parts.invariant.few))
