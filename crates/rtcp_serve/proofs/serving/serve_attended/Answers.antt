-- A session from its start, with an ending.
use Rattle.std.proofs.Common.{refl}
use Rattle.rtcp_serve.specs.Serving.{at_the_start_of}
use Rattle.rtcp_serve.specs.Sessions.{run_of}
use Rattle.rtcp_serve.proofs.LinkCalls.{runs_cut}
use Rattle.rtcp_serve.proofs.serving.serve_attended.Goals as goal

pub returns : goal.returns
returns g c = record {
  serves = λ reader history reads stands.
      let (made, further, left_at, leaves, before, waits, closes) = c.session-returned.ensures.serves in
      let (pauses, heeded, closed) = closes (run_of reader further _) (at_the_start_of history _ made) reads refl
      (record { participant = stands; words = refl; tally = c.new-tally.ensures; told = refl }) refl refl refl refl in
      runs_cut _ _ made further left_at closed _ _ (c.cause_of.ensures closed.reached closed.ends) c.end.ensures leaves
      before waits heeded;
}
