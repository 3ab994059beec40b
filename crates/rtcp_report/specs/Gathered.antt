-- What is written of the sources that a report has blocks of.
use Rattle.std.specs.Prelude.{ℕ, ◌≡◌, ◌+◌, ◌*◌, ◌≤◌, List, ◌++◌, All, Option, Some, None, length}
use Rattle.rtcp_wire.specs.Values.{ReportBlock, RtcpPacket}
use Rattle.rtcp_wire.specs.Grammar.{IsAccepted}
use Rattle.rtcp_wire.specs.Puts.{IsPut}
use Rattle.rtcp_wire.specs.Writing.{written_word, written_sender, written_header, written_all, IsWritable, IsWritableBlock, IsInRange, IsBlockInRange}
use Rattle.rtcp_members.specs.Tables.{TableValue}
use Rattle.rtcp_members.specs.Pending.{EntryRow, blocks_of, after_blocks, last_reported}
use Rattle.rtcp_report.specs.Reports.{SentValue, Reporter, further_count, further_reports, reports_with, report_size}
use Rattle.rtcp_report.specs.Sizes.{report_of, reported_rows}

-- What stands before the blocks of a report (RFC 3550, 6.4.1, 6.4.2).
abbrev pub written_head : (ssrc : ℕ) → Option SentValue → (count : ℕ) → List ℕ
written_head ssrc None count = written_header count 201 (4 + 24 * count) ++ written_word ssrc
written_head ssrc (Some sent) count =
    written_header count 200 (24 + 24 * count)
    ++ written_sender
    (record { ssrc = ssrc; ntp = sent.ntp; rtp = sent.rtp; packets = sent.packets; octets = sent.octets })

-- The table and the cursor are left as after a block of each row. The blocks can be written.
pub record IsTakenFrom (t : ℕ) (rows : List EntryRow) (last : Option ℕ) (table : TableValue) (cursor : Option ℕ)
    (after : TableValue) : Type 0 where
  pub count : length (blocks_of t rows) ≡ length rows
  pub writable : All IsWritableBlock (blocks_of t rows)
  pub in_range : All IsBlockInRange (blocks_of t rows)
  pub content : after ≡ after_blocks rows table
  pub cursor_is : cursor ≡ last_reported last rows

-- Packets written at their place.
pub record PutsPackets (packets : List RtcpPacket) (old new : List ℕ) (at end : ℕ) : Type 0 where
  pub put : IsPut old new at (written_all packets) end
  pub writable : All IsWritable packets
  pub in_range : All IsInRange packets

-- the reports with these blocks
abbrev pub PutsReports : (ssrc : ℕ) → Option SentValue → List ReportBlock → (old new : List ℕ) → (end : ℕ) → Type 0
PutsReports ssrc sent blocks old new end = PutsPackets (reports_with ssrc sent blocks) old new 0 end

-- a report with these blocks, at most 31, after one of 31, if there are any
abbrev pub PutsFurther : (ssrc : ℕ) → List ReportBlock → (old new : List ℕ) → (at end : ℕ) → Type 0
PutsFurther ssrc blocks old new at end =
    PutsPackets (further_reports ssrc (further_count (31 + length blocks)) blocks) old new at end

-- The octets of a report: those of the first pending sources that fit its limit, or of all of them. The table and the
-- cursor are left as after the blocks of these.
pub record IsReport (reporter : Reporter) (limit t : ℕ) (last : Option ℕ) (table : TableValue)
    (written : List ℕ) (after : TableValue) (reached : Option ℕ) : Type 0 where
  pub octets : written ≡ written_all (report_of reporter limit t last table)
  pub within : length written ≤ limit
  pub size : length written ≡ report_size reporter (length (reported_rows reporter limit last table))
  pub reads_back : IsAccepted written (report_of reporter limit t last table)
  pub content : after ≡ after_blocks (reported_rows reporter limit last table) table
  pub cursor : reached ≡ last_reported last (reported_rows reporter limit last table)
