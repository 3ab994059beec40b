-- What a sender report says of its sender (RFC 3550, 6.4.1).
use Rattle.std.specs.Prelude.{◌≡◌}
use Rattle.rtcp_wire.specs.Values.{SenderValue}
use Rattle.rtcp_parts.specs.declared.senders.Sender.{Sender}

abbrev pub ShowsSender : SenderValue → Sender → Type 0
ShowsSender value sender =
    (sender.ssrc ≡ value.ssrc)
    × (sender.ntp ≡ value.ntp)
    × (sender.rtp ≡ value.rtp)
    × (sender.packets ≡ value.packets)
    × (sender.octets ≡ value.octets)
