-- How a datagram is told to a host in C.
use Rattle.std.specs.Prelude.{ℕ, ◌≡◌}
use Rattle.rtcp_wire.specs.declared.fault.WireFault.{WireFault}
use Rattle.rtcp_wire.specs.declared.fault.FaultReason.{FaultReason}
use Rattle.rtcp_wire.specs.declared.fault.FaultReason.TheVariants.{Short, Version, FirstType, FirstPadding, Length, Padding, Body, Item, Reason, TooLong}
use Rattle.rtcp_wire.specs.Values.{ReportBlock}
use Rattle.jalwedd_host.specs.declared.reading.Fault.{Fault}
use Rattle.jalwedd_host.specs.declared.reading.Report.{Report}

-- F1 to F10
abbrev pub number_of : FaultReason → ℕ
number_of Short = 1
number_of Version = 2
number_of FirstType = 3
number_of FirstPadding = 4
number_of Length = 5
number_of Padding = 6
number_of Body = 7
number_of Item = 8
number_of Reason = 9
number_of TooLong = 10

-- A fault says the first one of a datagram.
abbrev pub ShowsFault : Fault → WireFault → Type 0
ShowsFault shown fault = (shown.reason ≡ number_of fault.reason) × (shown.offset ≡ fault.place)

-- A report says a block, and the source that sent it.
abbrev pub ShowsBlock : Report → ℕ × ReportBlock → Type 0
ShowsBlock report block =
    (report.reporter ≡ block.0)
    × (report.ssrc ≡ block.1.ssrc)
    × (report.fraction ≡ block.1.fraction)
    × (report.lost ≡ block.1.lost)
    × (report.highest ≡ block.1.highest)
    × (report.jitter ≡ block.1.jitter)
    × (report.lsr ≡ block.1.lsr)
    × (report.dlsr ≡ block.1.dlsr)
