-- A session from its start, with no ending.
use Rattle.std.proofs.Common.{refl}
use Rattle.rtcp_serve.specs.Serving.{at_the_start}
use Rattle.rtcp_serve.specs.Sessions.{run_of}
use Rattle.rtcp_serve.proofs.LinkCalls.{runs_as, runs_whole}
use Rattle.rtcp_serve.proofs.serving.serve.Goals as goal

pub returns : goal.returns
returns g c = record {
  serves = λ reader history reads stands.
      let (made, further, left_at, leaves, before, waits, closes) = c.session-returned.ensures.serves in
      let (pauses, heeded, closed) = closes (run_of reader further (tt {0})) (at_the_start history _ made) reads refl
      (record { participant = stands; words = refl; tally = c.new-tally.ensures; told = refl }) refl refl refl refl in
      runs_whole _ _ made further c.from-most.ensures leaves waits
      (runs_as closed _ _ (c.cause_of.ensures closed.reached closed.ends) c.end.ensures);
}
