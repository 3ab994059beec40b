-- What the crate's types say, as values of the definitions.
use Rattle.std.specs.Prelude.{List, Option, option_map, option_copied}
use Rattle.std.specs.Borrow.{Bor}
use Rattle.rtcp_wire.specs.Values.{ItemValue}
use Rattle.rtcp_report.specs.declared.sender.Sender.{Sender}
use Rattle.rtcp_report.specs.declared.sender.SrPart.{SrPart}
use Rattle.rtcp_report.specs.declared.sender.Item.{Item}
use Rattle.rtcp_report.specs.Reports.{SentValue, Reporter, item_value}
pub use Rattle.rtcp_report.specs.Reports.{items_of}

abbrev pub sent_value : SrPart → SentValue
sent_value s = record { ntp = s.ntp; rtp = s.rtp; packets = s.packets; octets = s.octets }

abbrev pub extra_of : Option (Bor Item) → Option ItemValue
extra_of extra = option_map item_value (option_copied extra)

abbrev pub reporter_with : Sender → List ItemValue → Reporter
reporter_with s items = record { ssrc = s.ssrc; sent = option_map sent_value s.sr; items = items }

abbrev pub reporter_of : Sender → Option (Bor Item) → Reporter
reporter_of s extra = reporter_with s (items_of s.cname.now (extra_of extra))
