-- Who is there is what the participant tells.
use Rattle.rtcp_json.proofs.AddingLemmas.{one, then}
use Rattle.rtcp_json.proofs.sources.write_listing.Goals as goal

pub returns : goal.returns
returns g c = (
  record { members = c.members.result; senders = c.senders.result; sources = c.sources.result },
  λ history stands. record {
    members = c.members.ensures history stands;
    senders = c.senders.ensures history stands;
    walk = c.sources.ensures history stands;
  },
  then (one c.in_ok-begin_object.ensures)
      (then c.in_ok-write_number.ensures
      (then c.in_ok-write_number-2.ensures
      (then (one c.in_ok-key.ensures)
      (then c.in_ok-write_sources.ensures
      (one c.in_ok-end_object.ensures))))),
)
