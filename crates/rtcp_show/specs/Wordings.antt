-- How the packets of a datagram are shown.
use Rattle.std.specs.Prelude.{ℕ, List}
use Rattle.rtcp_wire.specs.Values.{RtcpPacket}
use Rattle.rtcp_text.specs.Text.{accepted_text}
use Rattle.rtcp_plain.specs.Plain.{plain_text}
use Rattle.rtcp_show.specs.declared.wording.Wording.{Wording}
use Rattle.rtcp_show.specs.declared.wording.Wording.TheVariants.{Brief, Plain}

-- the line of packets, as `rtcp check` shows them or in plain words
abbrev pub shown_in : Wording → List RtcpPacket → List ℕ
shown_in Brief = accepted_text
shown_in (Plain rate) = plain_text rate
