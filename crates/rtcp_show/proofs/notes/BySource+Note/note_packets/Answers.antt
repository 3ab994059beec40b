use Rattle.std.proofs.Common.{◌∙◌}
use Rattle.rtcp_wire.specs.Views.{packet_value}
use Rattle.rtcp_show.specs.Listings.{lists}
use Rattle.rtcp_show.specs.Notes.{cnames_of_packet, noted_in}
use Rattle.rtcp_show.proofs.NoteLemmas.{named_on}
use Rattle.rtcp_show.proofs.notes.BySource+Note.note_packets.Goals as goal

pub loop-packet-preserved : goal.loop-packet-preserved
loop-packet-preserved g c = λ history stands ssrc.
    named_on cnames_of_packet (lists history ssrc) (packet_value c.in-Some.packet) c.next.new.self
    c.loop-packet.packet-iterator ssrc (noted_in c.loop-packet.self ssrc) (noted_in c.note_packet.new.self ssrc)
    c.in-Some.ensures.steps (c.in_ok-note_packet.ensures history stands ssrc)
    ∙ c.loop-packet.invariant history stands ssrc
