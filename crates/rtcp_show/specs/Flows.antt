-- What is kept of the packets of sources beside their table: where they come from, and how many a second.
use Rattle.std.specs.Prelude.{◌≡◌, ℕ, ℤ, pos, negsuc, ◌+◌, ◌-◌, ◌*◌, ◌/◌, ◌^◌, Bool, false, List, [], ◌∷◌, max, min, if◌then◌else◌, nat_eq, nat_le, is_some, Option, Some, None, Ok, Err, option_map, unwrap_or}
use Rattle.rtcp_engine.specs.answers.Acts.{EventValue, rtcp_arrived, rtp_arrived}
use Rattle.rtcp_guarded.specs.Guarded.{GuardedAnswer}
use Rattle.rtcp_members.specs.Listings.{StateValue}
use Rattle.rtcp_source.specs.Receptions.{ReceptionValue}
use Rattle.rtcp_wire.specs.RtpHeads.{IsRtpHead}
use Rattle.rtcp_wire.specs.Values.{RtcpPacket, sr, rr, RtpValue}
use Rattle.rtcp_serve.specs.declared.link.Port.{Port}
use Rattle.rtcp_serve.specs.declared.link.Port.TheVariants.{Rtcp, Rtp}
use Rattle.rtcp_show.specs.Kept.{kept_of}
use Rattle.rtcp_show.specs.Listings.{if_listed}
use Rattle.rtcp_show.specs.declared.by_source.BySource.{BySource}
use Rattle.rtcp_show.specs.declared.flows.Flow.{Flow}

abbrev pub no_flow : Flow
no_flow = record { rtp_peer = None; rtcp_peer = None; counted = None; loss = None; packet_rate = None }

-- what is kept of a source
abbrev pub flow_in : BySource Flow → (ssrc : ℕ) → Flow
flow_in flows ssrc = unwrap_or (kept_of flows ssrc) no_flow

-- ---- Where packets come from

-- the peer of the datagram that an event brought
abbrev pub peer_of_event : EventValue → ℕ
peer_of_event (rtcp_arrived moment peer word octets) = peer
peer_of_event (rtp_arrived moment peer word octets) = peer
peer_of_event event = 0

-- whose RTP packet came with an event, where it was taken (RFC 3550, 5.1)
abbrev pub IsMedia : (octets : List ℕ) → GuardedAnswer → (media : Option ℕ) → Type 0
IsMedia octets (Ok step) media = (head : RtpValue) × IsRtpHead octets head × (media ≡ Some head.ssrc)
IsMedia octets (Err untaken) media = media ≡ None

abbrev pub IsMediaOf : EventValue → GuardedAnswer → (media : Option ℕ) → Type 0
IsMediaOf (rtp_arrived moment peer word octets) answer media = IsMedia octets answer media
IsMediaOf event answer media = media ≡ None

-- whose report a compound begins with
abbrev pub reporter_of : List RtcpPacket → Option ℕ
reporter_of [] = None
reporter_of (sr sender blocks extension ∷ packets) = Some sender.ssrc
reporter_of (rr ssrc blocks extension ∷ packets) = Some ssrc
reporter_of (packet ∷ packets) = None

abbrev pub is_source : Option ℕ → (ssrc : ℕ) → Bool
is_source None ssrc = false
is_source (Some source) ssrc = nat_eq source ssrc

-- where the packets of a source at a port came from last
abbrev pub peer_at : Port → Flow → Option ℕ
peer_at Rtp flow = flow.rtp_peer
peer_at Rtcp flow = flow.rtcp_peer

abbrev pub with_peer : Port → (peer : ℕ) → Flow → Flow
with_peer Rtp peer flow = record flow { rtp_peer = Some peer }
with_peer Rtcp peer flow = record flow { rtcp_peer = Some peer }

-- At a port came from the peer an RTP packet of this source, or a compound that begins with its report.
abbrev pub heard_at : Port → (source : Option ℕ) → (peer ssrc : ℕ) → Flow → Flow
heard_at port source peer ssrc flow = if is_source source ssrc then with_peer port peer flow else flow

-- What is kept of a source after a datagram from a peer: a compound, or the RTP packet of a source.
abbrev pub heard_after : (peer : ℕ) → List RtcpPacket → (media : Option ℕ) → (ssrc : ℕ) → Flow → Flow
heard_after peer packets media ssrc flow =
    heard_at Rtcp (reporter_of packets) peer ssrc (heard_at Rtp media peer ssrc flow)

-- ---- How packets come, when the rows are due

-- the packets lost, or none where more came than were expected
abbrev pub lost_packets : ℤ → ℕ
lost_packets (pos lost) = lost
lost_packets (negsuc more) = 0

-- The packets lost of all that were expected, which are those that came and those that were lost. In tenths of a per
-- cent, rounded down.
abbrev pub loss_of : ReceptionValue → ℕ
loss_of reception =
    lost_packets reception.lost * 1000 / max (reception.received + lost_packets reception.lost) 1

-- Packets a second, in tenths and rounded down, by how many were counted before and are now, so many microseconds
-- later. Where fewer are than were, the count began anew. Its numbers stay below 2^64.
abbrev pub packet_rate_between : (elapsed : ℕ) → (before now : Option ℕ) → Option ℕ
packet_rate_between elapsed None now = None
packet_rate_between elapsed (Some before) None = None
packet_rate_between elapsed (Some before) (Some now) =
    if nat_le before now then Some (min ((now - before) * 10000000) (2 ^ 64 - 1) / elapsed) else None

abbrev pub counted_in : StateValue → Option ℕ
counted_in state = option_map (λ reception. reception.received) state.reception

-- what is kept of a source that is looked at, so long after it was looked at before
abbrev pub looked_at : (elapsed : ℕ) → StateValue → Flow → Flow
looked_at elapsed state flow = record flow {
  counted = counted_in state;
  loss = option_map loss_of state.reception;
  packet_rate = packet_rate_between elapsed flow.counted (counted_in state);
}

-- the time since the sources were looked at before, of at least a microsecond
abbrev pub elapsed_since : (looked now : ℕ) → ℕ
elapsed_since looked now = max (now - looked) 1

-- What is kept of a source after all that are listed were looked at: nothing, if it is not listed.
abbrev pub flow_looked : (elapsed : ℕ) → (told : Option StateValue) → Flow → Flow
flow_looked elapsed None flow = no_flow
flow_looked elapsed (Some state) flow = looked_at elapsed state flow

-- What is kept of a source after an event with which a compound or an RTP packet came from a peer, and after which the
-- rows are due or not.
abbrev pub flow_after_event : (due : Bool) → (elapsed : ℕ) → (told : Option StateValue) → (peer : ℕ) → List RtcpPacket
    → (media : Option ℕ) → (ssrc : ℕ) → Flow → Flow
flow_after_event due elapsed told peer packets media ssrc flow =
    let heard = if_listed (is_some told) (heard_after peer packets media ssrc) flow in
    if due then flow_looked elapsed told heard else heard
