-- Parts of the size of a compound report, and the rows of a table that it holds (RFC 3550, 6.1, 6.4).
use Rattle.std.specs.Prelude.{ℕ, ◌+◌, ◌*◌, ◌/◌, ◌≡◌, ◌<◌, ◌≤◌, nat_le, List, ◌++◌, length, sum_by, Option, Some, None}
use Rattle.rtcp_wire.specs.Values.{ItemValue, RtcpPacket}
use Rattle.rtcp_members.specs.Tables.{TableValue}
use Rattle.rtcp_members.specs.Pending.{EntryRow, pending, blocks_of}
use Rattle.rtcp_report.specs.Reports.{Reporter, packets_with, report_size, greatest_passing, fitting}

-- ---- Sizes

abbrev pub item_size : ItemValue → ℕ
item_size item = length item.text + 2

abbrev pub description_size : List ItemValue → ℕ
description_size items = 8 + 4 * (sum_by item_size items / 4 + 1)

-- an item of at most 255 octets, if there is one
abbrev pub IsShort : Option ItemValue → Type 0
IsShort None = Unit {0}
IsShort (Some item) = length item.text ≤ 255

-- ---- As many as fit

-- how many blocks a report has where so many sources wait for one
abbrev pub block_count : Reporter → (limit waiting : ℕ) → ℕ
block_count reporter limit waiting =
    greatest_passing (λ blocks. nat_le (report_size reporter blocks) limit) waiting

abbrev pub reported_rows : Reporter → (limit : ℕ) → (last : Option ℕ) → TableValue → List EntryRow
reported_rows reporter limit last table = fitting reporter limit (pending last table)

-- The packets of the report at the moment `t`.
abbrev pub report_of : Reporter → (limit t : ℕ) → (last : Option ℕ) → TableValue → List RtcpPacket
report_of reporter limit t last table =
    packets_with reporter (blocks_of t (reported_rows reporter limit last table))

-- A prefix of the rows whose report fits, while that of no longer one does.
pub record IsLongestFitting (reporter : Reporter) (limit : ℕ) (rows prefix : List EntryRow) : Type 0 where
  pub rest : List EntryRow
  pub parts : rows ≡ prefix ++ rest
  pub fits : report_size reporter (length prefix) ≤ limit
  pub longest : (blocks : ℕ) → length prefix < blocks → blocks ≤ length rows →
      limit < report_size reporter blocks
