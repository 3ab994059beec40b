use Rattle.std.proofs.Common.{◌∙◌, ap, sym}
use Rattle.rtcp_engine.specs.declared.arrival.Arrival.{Arrival}
use Rattle.rtcp_engine.specs.answers.Changes.{is_about}
use Rattle.rtcp_engine.specs.state.Views.{datagram_of}
use Rattle.rtcp_engine.proofs.arrival.Arrival.is_of.Goals as goal

pub returns-in-Rtcp : goal.returns-in-Rtcp
returns-in-Rtcp c =
    c.tells_of.ensures ∙ sym (ap (λ (arrival : Arrival). is_about c.args.ssrc (datagram_of arrival)) c.in-Rtcp.is)
