-- The packets of a compound report (RFC 3550, 6.1, 6.4, 6.5), its size, and how many of the pending sources it holds.
use Rattle.std.specs.Prelude.{ℕ, zero, suc, ◌-◌, ◌/◌, List, [], ◌∷◌, ◌++◌, length, take, drop, Option, Some, None, Bool, nat_le, sum_by, ◌+◌, ◌*◌, if◌then◌else◌}
use Rattle.rtcp_wire.specs.Values.{ReportBlock, ItemValue, RtcpPacket, rr, sr, sdes, bye}
use Rattle.std.specs.Option.{option_to_list}
use Rattle.rtcp_report.specs.declared.sender.Item.{Item}

-- What a sender's report says beside its SSRC (6.4.1).
pub record SentValue : Type 0 where
  pub ntp : ℕ
  pub rtp : ℕ
  pub packets : ℕ
  pub octets : ℕ

-- Who reports: its SSRC, what it sent, where it reports as a sender, and the items that describe it (6.5).
pub record Reporter : Type 0 where
  pub ssrc : ℕ
  pub sent : Option SentValue
  pub items : List ItemValue

-- the item that names a source (6.5.1)
abbrev pub cname_item : List ℕ → ItemValue
cname_item text = record { kind = 1; text = text }

-- the items that describe a sender: its CNAME, and then the extra one
abbrev pub items_of : (cname : List ℕ) → Option ItemValue → List ItemValue
items_of cname extra = cname_item cname ∷ option_to_list extra

-- a sender's report, or a receiver's
abbrev pub report_with : (ssrc : ℕ) → Option SentValue → List ReportBlock → RtcpPacket
report_with ssrc None blocks = rr ssrc blocks []
report_with ssrc (Some sent) blocks =
    sr (record { ssrc = ssrc; ntp = sent.ntp; rtp = sent.rtp; packets = sent.packets; octets = sent.octets })
    blocks []

-- as many receiver's reports, each with the next 31 blocks, or with those that are left
abbrev pub further_reports : (ssrc count : ℕ) → List ReportBlock → List RtcpPacket
further_reports ssrc zero blocks = []
further_reports ssrc (suc count) blocks =
    rr ssrc (take 31 blocks) [] ∷ further_reports ssrc count (drop 31 blocks)

-- The packets of a report with these blocks, at most 31 of them in each, and a source description of one chunk.
abbrev pub packets_with : Reporter → List ReportBlock → List RtcpPacket
packets_with reporter blocks =
    report_with reporter.ssrc reporter.sent (take 31 blocks)
    ∷ (further_reports reporter.ssrc ((length blocks - 1) / 31) (drop 31 blocks)
    ++ sdes (record { id = reporter.ssrc; items = reporter.items } ∷ []) ∷ [])

-- the first report, without blocks
abbrev pub first_report_size : Option SentValue → ℕ
first_report_size None = 8
first_report_size (Some sent) = 28

-- A report with so many blocks, in octets. The source description has a header and an SSRC, the items, and zeros up to
-- the end of a word, at least one.
abbrev pub report_size : Reporter → (blocks : ℕ) → ℕ
report_size reporter blocks =
    first_report_size reporter.sent + 24 * blocks + 8 * ((blocks - 1) / 31)
    + (8 + 4 * (sum_by (λ item. length item.text + 2) reporter.items / 4 + 1))

-- the greatest number from 1 to `most` that passes the test, or 0
abbrev pub greatest_passing : (ℕ → Bool) → (most : ℕ) → ℕ
greatest_passing test zero = 0
greatest_passing test (suc n) = if test (suc n) then suc n else greatest_passing test n

-- The sources that a report is of: the longest prefix of the pending ones that fits the limit.
abbrev pub fitting : {A : Type 0} → Reporter → (limit : ℕ) → List A → List A
fitting reporter limit sources =
    take (greatest_passing (λ blocks. nat_le (report_size reporter blocks) limit) (length sources)) sources

-- ---- Parts of it, by names of their own

-- How many reports follow the first one.
abbrev pub further_count : (blocks : ℕ) → ℕ
further_count blocks = (blocks - 1) / 31

abbrev pub reports_with : (ssrc : ℕ) → Option SentValue → List ReportBlock → List RtcpPacket
reports_with ssrc sent blocks =
    report_with ssrc sent (take 31 blocks)
    ∷ further_reports ssrc (further_count (length blocks)) (drop 31 blocks)

abbrev pub description_of : Reporter → RtcpPacket
description_of reporter = sdes (record { id = reporter.ssrc; items = reporter.items } ∷ [])

-- ---- Leaving

-- a BYE of one source, without a reason (6.6)
abbrev pub bye_packet : (ssrc : ℕ) → RtcpPacket
bye_packet ssrc = bye (ssrc ∷ []) None

-- who only receives
abbrev pub receiver_with : (ssrc : ℕ) → List ItemValue → Reporter
receiver_with ssrc items = record { ssrc = ssrc; sent = None; items = items }

-- who only receives, and says nothing of itself but its CNAME
abbrev pub receiver_named : (ssrc : ℕ) → (cname : List ℕ) → Reporter
receiver_named ssrc cname = receiver_with ssrc (cname_item cname ∷ [])

-- What a participant sends as it leaves (6.3.7): the report of one that only receives, without blocks, and with its
-- CNAME alone; and its BYE, without a reason (6.6).
abbrev pub bye_of : (ssrc : ℕ) → (cname : List ℕ) → List RtcpPacket
bye_of ssrc cname =
    packets_with (record { ssrc = ssrc; sent = None; items = cname_item cname ∷ [] }) [] ++ bye (ssrc ∷ []) None ∷ []

abbrev pub item_value : Item → ItemValue
item_value i = record { kind = i.kind; text = i.text.items }
