use Rattle.std.specs.Prelude.{option_map}
use Rattle.rtcp_source.specs.Views.{reception_value}
use Rattle.rtcp_json.specs.SourceValues.{reception_fields}
use Rattle.rtcp_json.proofs.AddingLemmas.{fields_end, one, then}
use Rattle.rtcp_json.proofs.sources.write_source.Goals as goal

pub returns : goal.returns
returns c =
    rw (fields_end (reception_fields (option_map reception_value c.args.state.now.reception)))
    (then (one c.in_ok-begin_object.ensures)
    (then c.in_ok-write_word.ensures
    (then (one c.in_ok-key.ensures)
    (then (one c.in_ok-boolean.ensures)
    (then (one c.in_ok-key-2.ensures)
    (then (one c.in_ok-boolean-2.ensures)
    (then c.in_ok-write_left.ensures
    (then c.in_ok-write_reception.ensures
    (one c.in_ok-end_object.ensures)))))))))
