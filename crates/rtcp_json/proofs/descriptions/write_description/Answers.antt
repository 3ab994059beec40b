use Rattle.rtcp_json.proofs.AddingLemmas.{one, then}
use Rattle.rtcp_json.proofs.descriptions.write_description.Goals as goal

pub returns : goal.returns
returns c =
    then (one c.in_ok-begin_object.ensures)
    (then c.in_ok-write_name.ensures
    (then (one c.in_ok-key.ensures)
    (then c.in_ok-write_chunks.ensures
    (one c.in_ok-end_object.ensures))))
