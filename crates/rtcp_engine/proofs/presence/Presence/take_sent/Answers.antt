use Rattle.rtcp_engine.proofs.StepLemmas.{sends}
use Rattle.rtcp_engine.proofs.presence.Presence.take_sent.Goals as goal

pub returns : goal.returns
returns g c = sends c.self.view_is c.sent.new.self c.args.now c.args.rtp_ts c.args.octets c.sent.ensures
    c.self.invariant.room
