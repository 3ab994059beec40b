use Rattle.std.proofs.Common.{◌≡◌, ◌≤◌, ◌<◌, ◌+◌, ◌*◌, ℕ, Bool, List}
use Rattle.rtcp_serve.specs.Endings.{AreHeeded, Pause}
use Rattle.rtcp_serve.specs.Serving.{IsReader, SessionState, resting}
use Rattle.rtcp_serve.specs.Sessions.{Holds, Run, Walks, keeps_served, turns_with}
use Rattle.rtcp_serve.specs.Tallies.{HasRoom}
use Rattle.rtcp_serve.proofs.serving.turns.make_turns.Given as goal

abbrev pub invariant-turns : goal.invariant-turns
invariant-turns g l = record {
  row : l.tally.failures < 64;
  later : l.fn.tally.moment ≤ l.tally.moment;
  room : (more : ℕ) → HasRoom (more + l.counter * 5) l.fn.tally (g.L.Link.value l.fn.link) →
      HasRoom more l.tally (g.L.Link.value l.link);
  leads : (run : Run g.row.O.Denot) (left : ℕ) (s : SessionState) → IsReader run.reader →
      Holds g.O.Observer.takes run s (keeps_served (g.L.Link.value l.fn.link) (g.P.Attendant.value l.fn.participant)
      (g.R.Rng.stream l.fn.rng)
      l.fn.observer) l.fn.tally → s.stage ≡ resting → s.turns ≡ left + l.counter → s.leaving ≡ l.fn.has_left
      → (pauses : List Pause) × ((most before : ℕ) → AreHeeded (g.E.Ending.known l.fn.ending) most before s.pauses →
      AreHeeded (g.E.Ending.known l.fn.ending) most before pauses)
      × Walks g.O.Observer.takes run s (g.L.Link.value l.fn.link)
      (keeps_served (g.L.Link.value l.link) (g.P.Attendant.value l.participant) (g.R.Rng.stream l.rng) l.observer)
      l.tally
      (λ t. t.stage ≡ resting) (turns_with left s.leaving pauses);
  ending : (left : Bool) (at : ℕ) →
      g.E.Ending.known l.ending left at ≡ g.E.Ending.known l.fn.ending left at;
}
