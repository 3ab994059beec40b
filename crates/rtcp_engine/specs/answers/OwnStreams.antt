-- The participant's own RTP stream, and whether it counts as a sender (RFC 3550, 6.3.8, 6.4.1). Lists are
-- newest first.
use Rattle.std.specs.Prelude.{◌≡◌, ℕ, ◌+◌, ◌-◌, ◌%◌, ◌^◌, Bool, true, false, List, [], ◌∷◌, length, sum, if◌then◌else◌, Option, Some, None, is_some}
use Rattle.rtcp_clock.specs.Moments.{ntp_moment, media_units}
use Rattle.rtcp_members.specs.Present.{is_before}
use Rattle.rtcp_report.specs.Reports.{SentValue}

pub data OwnStep : Type 0 where
  -- a packet with this timestamp and so many octets of payload
  packet_sent : (moment timestamp octets : ℕ) → OwnStep
  -- a check, with its horizon for packets
  check_passed : (idle : ℕ) → OwnStep
  -- a report
  report_sent : OwnStep
  -- the counts begin anew, as the participant took another identifier
  counts_anew : OwnStep

-- The moment of the last packet, as long as no check after it had a later horizon. It is the rule that other
-- senders go by.
abbrev pub sending_since : List OwnStep → Option ℕ
sending_since [] = None
sending_since (packet_sent moment timestamp octets ∷ earlier) = Some moment
sending_since (check_passed idle ∷ earlier) =
    if is_before (sending_since earlier) idle then None else sending_since earlier
sending_since (_ ∷ earlier) = sending_since earlier

abbrev pub we_sent : List OwnStep → Bool
we_sent own = is_some (sending_since own)

-- ---- What a sender report says of the stream

-- the octets of payload of each packet that was sent under the present identifier
abbrev pub payloads_sent : List OwnStep → List ℕ
payloads_sent [] = []
payloads_sent (packet_sent moment timestamp octets ∷ earlier) = octets ∷ payloads_sent earlier
payloads_sent (counts_anew ∷ earlier) = []
payloads_sent (_ ∷ earlier) = payloads_sent earlier

-- whether a report or a packet was sent under the present identifier
abbrev pub has_sent : List OwnStep → Bool
has_sent [] = false
has_sent (check_passed idle ∷ earlier) = has_sent earlier
has_sent (counts_anew ∷ earlier) = false
has_sent (_ ∷ earlier) = true

-- The RTP timestamp of a moment: that of the last packet, and the units of the media's clock since. (0 if no
-- packet was sent.)
abbrev pub timestamp_at : (rate t : ℕ) → List OwnStep → ℕ
timestamp_at rate t [] = 0
timestamp_at rate t (packet_sent moment timestamp octets ∷ earlier) =
    (timestamp + media_units (t - moment) rate) % 2 ^ 32
timestamp_at rate t (_ ∷ earlier) = timestamp_at rate t earlier

-- the stream at the moment `t`, where the participant reports as a sender
abbrev pub stream_at : (ntp_base rate t : ℕ) → List OwnStep → Option SentValue
stream_at ntp_base rate t own =
    if we_sent own
    then Some (record {
      ntp = ntp_moment ntp_base t;
      rtp = timestamp_at rate t own;
      packets = length (payloads_sent own) % 2 ^ 32;
      octets = sum (payloads_sent own) % 2 ^ 32;
    })
    else None

-- ---- The few numbers that the code keeps of it, which no clause of `run` names

pub record PacketValue : Type 0 where
  pub moment : ℕ
  pub timestamp : ℕ

abbrev pub newest_packet : List OwnStep → Option PacketValue
newest_packet [] = None
newest_packet (packet_sent moment timestamp octets ∷ earlier) =
    Some (record { moment = moment; timestamp = timestamp })
newest_packet (_ ∷ earlier) = newest_packet earlier

-- the same timestamp, by the last packet alone
abbrev pub timestamp_from : (rate t : ℕ) → Option PacketValue → ℕ
timestamp_from rate t None = 0
timestamp_from rate t (Some packet) = (packet.timestamp + media_units (t - packet.moment) rate) % 2 ^ 32

pub record OwnValue : Type 0 where
  -- the moment since which the participant sends
  pub sending : Option ℕ
  pub newest : Option PacketValue
  -- how many packets and octets of payload were sent, modulo 2^32
  pub packets : ℕ
  pub octets : ℕ
  -- whether a report or a packet was sent under the present identifier
  pub heard : Bool

abbrev pub own_of : List OwnStep → OwnValue
own_of own = record {
  sending = sending_since own;
  newest = newest_packet own;
  packets = length (payloads_sent own) % 2 ^ 32;
  octets = sum (payloads_sent own) % 2 ^ 32;
  heard = has_sent own;
}

-- Whatever stream the old numbers are those of, the new ones are those of it with one step more.
abbrev pub Adds : (old new : OwnValue) → OwnStep → Type 0
Adds old new step = (own : List OwnStep) → old ≡ own_of own → new ≡ own_of (step ∷ own)

-- the stream by these numbers, where the participant reports as a sender
abbrev pub sent_of : (ntp_base rate t : ℕ) → OwnValue → Option SentValue
sent_of ntp_base rate t own =
    if is_some own.sending
    then Some (record {
      ntp = ntp_moment ntp_base t;
      rtp = timestamp_from rate t own.newest;
      packets = own.packets;
      octets = own.octets;
    })
    else None
