use Rattle.std.proofs.Common.{false, None, sym, subst}
use Rattle.rtcp_engine.specs.declared.arrival.Arrival.{Arrival}
use Rattle.rtcp_engine.specs.answers.Acts.{arrived}
use Rattle.rtcp_engine.specs.state.States.{Acts}
use Rattle.rtcp_engine.specs.state.Views.{datagram_of}
use Rattle.rtcp_engine.proofs.participant.Participant.take_datagram.Goals as goal

pub returns-in-Rtcp-clause-new : goal.returns-in-Rtcp-clause-new
returns-in-Rtcp-clause-new g c peer word =
    subst (λ (arrival : Arrival). Acts c.args.self.now c.count_byes_of.new.self
    (arrived c.args.now peer word (datagram_of arrival)) None false) (sym c.in-Rtcp.is)
    (c.count_byes_of.ensures.new c.args.now peer word)
