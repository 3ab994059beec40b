-- How a source is told to a host in C.
use Rattle.std.specs.Prelude.{ℕ, ◌≡◌, ◌+◌, ◌-◌, ◌^◌, min, pos, Option, Some, None, is_some, if◌then◌else◌, ◌==◌}
use Rattle.rtcp_source.specs.declared.reception.Reception.{Reception}
use Rattle.rtcp_source.specs.declared.reception.LastReport.{LastReport}
use Rattle.rtcp_source.specs.Fields.{LastReportValue}
use Rattle.rtcp_source.specs.LastBlocks.{LastBlockValue}
use Rattle.rtcp_source.specs.Receptions.{ReceptionValue}
use Rattle.rtcp_members.specs.Listings.{StateValue}
use Rattle.jalwedd_host.specs.declared.source.HostSource.{HostSource}
use Rattle.jalwedd_host.specs.declared.source.BlockShown.{BlockShown}
use Rattle.jalwedd_host.specs.Answers.{moment_shown, one_if}

-- The sources from an SSRC on are those above the one before it. None is from 2^32 on.
abbrev pub after_of : (from : ℕ) → Option ℕ
after_of from = if from == 0 then None else Some (min (from - 1) (2 ^ 32 - 1))

abbrev pub none_received : ReceptionValue
none_received = record { received = 0; octets = 0; lost = pos 0; highest = 0; jitter = 0; rate = 0 }

abbrev pub reception_shown : Option ReceptionValue → ReceptionValue
reception_shown None = none_received
reception_shown (Some reception) = reception

abbrev pub last_report_shown : (start : ℕ) → Option LastReportValue → LastReportValue
last_report_shown start None = record { ntp = 0; rtp = 0; moment = 2 ^ 64 - 1 }
last_report_shown start (Some told) = record told { moment = start + told.moment }

abbrev pub block_shown : Option LastBlockValue → LastBlockValue
block_shown None = record { fraction = 0; highest = 0 }
block_shown (Some block) = block

abbrev pub IsReceived : Reception → Option ReceptionValue → Type 0
IsReceived shown reception =
    (shown.received ≡ (reception_shown reception).received)
    × (shown.octets ≡ (reception_shown reception).octets)
    × (shown.lost ≡ (reception_shown reception).lost)
    × (shown.highest ≡ (reception_shown reception).highest)
    × (shown.jitter ≡ (reception_shown reception).jitter)
    × (shown.rate ≡ (reception_shown reception).rate)

abbrev pub ShowsLastReport : (start : ℕ) → LastReport → Option LastReportValue → Type 0
ShowsLastReport start shown told =
    (shown.ntp ≡ (last_report_shown start told).ntp)
    × (shown.rtp ≡ (last_report_shown start told).rtp)
    × (shown.moment ≡ (last_report_shown start told).moment)

abbrev pub IsBlockShown : BlockShown → Option LastBlockValue → Type 0
IsBlockShown shown block =
    (shown.has_block ≡ one_if (is_some block))
    × (shown.fraction ≡ (block_shown block).fraction)
    × (shown.highest ≡ (block_shown block).highest)

-- A source says what is known of it, with its moments on the host's clock, which shows `start` at moment 0.
pub record IsShown (start : ℕ) (shown : HostSource) (state : StateValue) : Type 0 where
  pub ssrc : shown.ssrc ≡ state.ssrc
  pub member : shown.member ≡ one_if state.member
  pub sender : shown.sender ≡ one_if state.sender
  pub heard : shown.heard ≡ start + state.heard
  pub left : shown.left ≡ moment_shown start state.left
  pub received : shown.received ≡ (reception_shown state.reception).received
  pub octets : shown.octets ≡ (reception_shown state.reception).octets
  pub lost : shown.lost ≡ (reception_shown state.reception).lost
  pub highest : shown.highest ≡ (reception_shown state.reception).highest
  pub jitter : shown.jitter ≡ (reception_shown state.reception).jitter
  pub rate : shown.rate ≡ (reception_shown state.reception).rate
  pub ntp : shown.ntp ≡ (last_report_shown start state.last_report).ntp
  pub told : shown.told ≡ (last_report_shown start state.last_report).moment
  pub rtp : shown.rtp ≡ (last_report_shown start state.last_report).rtp
  pub has_block : shown.has_block ≡ one_if (is_some state.last_block)
  pub fraction : shown.fraction ≡ (block_shown state.last_block).fraction
  pub block_highest : shown.block_highest ≡ (block_shown state.last_block).highest
  pub reserved : shown.reserved ≡ 0

-- A status and a source say what is told: 0 and what is known of a source; or 9, and the source is as it was.
abbrev pub ShowsSource : (start status : ℕ) (before after : HostSource) → Option StateValue → Type 0
ShowsSource start status before after None = (status ≡ 9) × (after ≡ before)
ShowsSource start status before after (Some state) = (status ≡ 0) × IsShown start after state
