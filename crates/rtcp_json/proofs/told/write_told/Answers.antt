-- The datagram is the one that was written.
use Rattle.rtcp_json.proofs.AddingLemmas.{one, then}
use Rattle.rtcp_json.proofs.told.write_told.Goals as goal

pub returns : goal.returns
returns c =
    let written = rw c.datagram_of.ensures at c.in_ok-write_datagram.ensures in (
      written.0,
      written.1,
      then (one c.in_ok-begin_object.ensures)
          (then (rw c.moment_of.ensures at c.in_ok-write_long_number.ensures)
          (then (rw c.event_name.ensures at c.in_ok-write_name.ensures)
          (then (rw c.peer_of.ensures at c.in_ok-write_peer.ensures)
          (then (one c.in_ok-key.ensures)
          (then written.2
          (then (one c.in_ok-key-2.ensures)
          (then c.in_ok-write_guarded_answer.ensures
          (one c.in_ok-end_object.ensures)))))))),
    )
