-- What a participant keeps of its own stream, as the definitions see it.
use Rattle.std.specs.Prelude.{false}
use Rattle.rtcp_engine.specs.declared.own.NewestPacket.{NewestPacket}
use Rattle.rtcp_engine.specs.answers.OwnStreams.{OwnValue, PacketValue}

abbrev pub packet_value : NewestPacket → PacketValue
packet_value packet = record { moment = packet.moment; timestamp = packet.timestamp }

-- The counts begin anew, and the stream goes on.
abbrev pub own_anew : OwnValue → OwnValue
own_anew own = record own { packets = 0; octets = 0; heard = false }
