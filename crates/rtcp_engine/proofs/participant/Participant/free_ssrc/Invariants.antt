use Rattle.std.proofs.Common.{◌≡◌, ◌*◌}
use Rattle.rtcp_engine.specs.answers.Changes.{is_taken}
use Rattle.rtcp_engine.specs.answers.Histories.{History, session_at}
use Rattle.rtcp_engine.specs.state.Named.{AreTaken}
use Rattle.rtcp_engine.specs.state.States.{StandsAt, over}
use Rattle.rtcp_engine.specs.state.Views.{datagram_of}
use Rattle.rtcp_engine.proofs.participant.Participant.free_ssrc.Given as goal

-- all of the blocks so far are taken
abbrev pub invariant-spans : goal.invariant-spans
invariant-spans g l =
    (history : History) → StandsAt l.fn.self history → (l.fn.self.phase ≡ over → ⊥) →
    AreTaken (is_taken (session_at history) (datagram_of l.fn.arrival)) l.fn.w (l.block * 32)
