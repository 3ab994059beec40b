use Rattle.std.proofs.Common.{◌≡◌, ℕ}
use Rattle.std.specs.List.{flat_map}
use Rattle.rtcp_engine.specs.answers.Histories.{History}
use Rattle.rtcp_engine.specs.state.States.{StandsAt}
use Rattle.rtcp_show.specs.Listings.{if_listed, lists}
use Rattle.rtcp_show.specs.Notes.{cnames_of_packet, noted_in, with_cnames}
use Rattle.rtcp_show.proofs.notes.BySource+Note.note_packets.Given as goal

-- what is noted, and then the packets that are left
abbrev pub invariant-loop-packet : goal.invariant-loop-packet
invariant-loop-packet g l = (history : History) → StandsAt l.participant history → (ssrc : ℕ) →
    if_listed (lists history ssrc) (with_cnames (flat_map cnames_of_packet l.packet-iterator) ssrc)
    (noted_in l.self ssrc)
    ≡ if_listed (lists history ssrc) (with_cnames (flat_map cnames_of_packet l.initial.packet-iterator) ssrc)
    (noted_in l.initial.self ssrc)
