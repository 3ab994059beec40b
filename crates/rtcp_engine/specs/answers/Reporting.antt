-- What a report of a session holds (RFC 3550, 6.1, 6.4, 6.5).
use Rattle.std.specs.Prelude.{ℕ, ◌+◌, ◌-◌, ◌/◌, ◌%◌, ◌==◌, List, [], ◌∷◌, if◌then◌else◌, length, slice_get, Option, Some, None}
use Rattle.rtcp_wire.specs.Values.{ItemValue, RtcpPacket}
use Rattle.rtcp_wire.specs.Writing.{written_all}
use Rattle.rtcp_members.specs.Present.{TraceStep, block_made_of}
use Rattle.rtcp_members.specs.Members.{blocks_at, pending_at}
use Rattle.rtcp_report.specs.Reports.{Reporter, packets_with, bye_of, items_of, fitting}
use Rattle.rtcp_engine.specs.answers.Setups.{Setup}
use Rattle.rtcp_engine.specs.answers.OwnStreams.{OwnValue, sent_of, stream_at}
use Rattle.rtcp_engine.specs.answers.Outcomes.{Outcome}

-- ---- Items

-- The extra item of the report with this number, which counts from 1: reports 3, 6, 9 and so on carry the
-- items in turn.
abbrev pub extra_item : List ItemValue → (number : ℕ) → Option ItemValue
extra_item items number =
    if number % 3 == 0 then slice_get items ((number / 3 - 1) % length items) else None

-- ---- Reports

-- the source of the newest block
abbrev pub last_reported_in : List TraceStep → Option ℕ
last_reported_in [] = None
last_reported_in (block_made_of ssrc ∷ earlier) = Some ssrc
last_reported_in (_ ∷ earlier) = last_reported_in earlier

-- who makes the report at a moment: a sender or a receiver, with its CNAME and the extra item whose turn it is
abbrev pub reporter_at : Setup → (t : ℕ) → Outcome → Reporter
reporter_at setup t outcome = record {
  ssrc = setup.ssrc;
  sent = stream_at setup.settings.ntp_base setup.settings.rate t outcome.own;
  items = items_of setup.cname (extra_item setup.settings.extras (outcome.reports + 1));
}

-- the same of the report of this number, by the few numbers of the own stream
abbrev pub reporter_by : Setup → OwnValue → (number t : ℕ) → Reporter
reporter_by setup own number t = record {
  ssrc = setup.ssrc;
  sent = sent_of setup.settings.ntp_base setup.settings.rate t own;
  items = items_of setup.cname (extra_item setup.settings.extras number);
}

-- The sources that a report is of: as many of the pending ones as fit, in turn after the last one reported.
abbrev pub reported_at : Setup → (t : ℕ) → Outcome → List ℕ
reported_at setup t outcome =
    fitting (reporter_at setup t outcome) setup.limit
    (pending_at (last_reported_in outcome.trace) setup.capacity outcome.trace)

abbrev pub report_octets : Setup → (t : ℕ) → Outcome → List ℕ
report_octets setup t outcome =
    let blocks = blocks_at t setup.capacity outcome.trace (reported_at setup t outcome) in
    written_all (packets_with (reporter_at setup t outcome) blocks)

-- the octets of the compound with the participant's BYE
abbrev pub bye_octets : Setup → List ℕ
bye_octets setup = written_all (bye_of setup.ssrc setup.cname)

-- the packets of a report
abbrev pub report_packets : Setup → (t : ℕ) → Outcome → List RtcpPacket
report_packets setup t outcome =
    packets_with (reporter_at setup t outcome)
    (blocks_at t setup.capacity outcome.trace (reported_at setup t outcome))
