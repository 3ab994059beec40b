-- What functions do one after the other where something arrives or was sent: parts of an act (Lives).
use Rattle.std.specs.Prelude.{ℕ, ◌==◌, not, Bool, List, [], ◌∷◌, map, filter, length, if◌then◌else◌}
use Rattle.rtcp_wire.specs.declared.fact.Fact.{Fact}
use Rattle.rtcp_wire.specs.declared.fact.Fact.TheVariants.{Heard, Media}
use Rattle.rtcp_wire.specs.Values.{RtcpPacket, RtpValue}
use Rattle.rtcp_wire.specs.Facts.{facts_of}
use Rattle.rtcp_members.specs.Present.{with_facts}
use Rattle.rtcp_engine.specs.answers.Setups.{Setup, rate_among}
use Rattle.rtcp_engine.specs.answers.Acts.{Act, arrived, rtp_sent, ticked, left, configured, forgotten}
use Rattle.rtcp_engine.specs.answers.OwnStreams.{packet_sent}
use Rattle.rtcp_engine.specs.answers.Outcomes.{Outcome, with_pace}
use Rattle.rtcp_engine.specs.answers.Ticks.{after_tick, without_source}
use Rattle.rtcp_engine.specs.answers.Lives.{with_datagram}

abbrev pub with_facts_of : (t size : ℕ) → List RtcpPacket → Outcome → Outcome
with_facts_of t size packets outcome =
    record outcome { trace = with_facts (facts_of packets) t outcome.trace; sizes = size ∷ outcome.sizes }

-- An RTP packet, whose timestamp counts in units of a clock of this rate.
abbrev pub media_fact : (rate : ℕ) → RtpValue → Fact
media_fact rate head = Media head.ssrc head.sequence head.timestamp (length head.payload) rate

-- the rate of the clock of its payload type
abbrev pub rate_of : Setup → RtpValue → ℕ
rate_of setup head = rate_among setup.settings.clocks setup.settings.rate head.payload_type

-- what the contributing sources give, but for the participant itself
abbrev pub facts_of_csrcs : (own : ℕ) → (csrcs : List ℕ) → List Fact
facts_of_csrcs own csrcs = map Heard (filter (λ ssrc. not (ssrc == own)) csrcs)

abbrev pub facts_of_media : (own rate : ℕ) → RtpValue → (is_counted : Bool) → List Fact
facts_of_media own rate head is_counted =
    media_fact rate head ∷ (if is_counted then facts_of_csrcs own head.csrcs else [])

abbrev pub with_packet : (t timestamp octets : ℕ) → Outcome → Outcome
with_packet t timestamp octets outcome = record outcome { own = packet_sent t timestamp octets ∷ outcome.own }

-- What an act makes of a session that the participant takes part in: a leave ends that, and adds nothing to it.
abbrev pub after : Setup → Act → Outcome → Outcome
after setup (arrived moment peer word datagram) outcome = with_datagram setup moment datagram outcome
after setup (rtp_sent moment timestamp octets) outcome = with_packet moment timestamp octets outcome
after setup (ticked moment first_word second_word) outcome =
    after_tick setup moment first_word second_word outcome
after setup (left moment word) outcome = outcome
after setup (configured moment settings) outcome = with_pace setup settings moment outcome
after setup (forgotten moment ssrc) outcome = without_source setup moment ssrc outcome
