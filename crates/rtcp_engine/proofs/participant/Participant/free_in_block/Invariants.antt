use Rattle.std.proofs.Common.{◌≡◌}
use Rattle.rtcp_engine.specs.answers.Changes.{Session, is_taken}
use Rattle.rtcp_engine.specs.state.Named.{AreTaken}
use Rattle.rtcp_engine.specs.state.States.{IsIn, over}
use Rattle.rtcp_engine.specs.state.Views.{datagram_of}
use Rattle.rtcp_engine.proofs.participant.Participant.free_in_block.Given as goal

-- all that were tried are taken
abbrev pub invariant-tries : goal.invariant-tries
invariant-tries g l =
    (session : Session) → IsIn l.fn.self session → (l.fn.self.phase ≡ over → ⊥) →
    AreTaken (is_taken session (datagram_of l.fn.arrival)) l.fn.first l.offset
