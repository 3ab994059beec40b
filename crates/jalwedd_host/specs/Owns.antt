-- How what the participant has sent is told to a host in C.
use Rattle.std.specs.Prelude.{ℕ, ◌≡◌, Option, Some, None}
use Rattle.rtcp_engine.specs.declared.own.OwnCounts.{OwnCounts}
use Rattle.jalwedd_host.specs.declared.own.HostOwn.{HostOwn}
use Rattle.jalwedd_host.specs.Answers.{one_if}

pub record IsOwnShown (shown : HostOwn) (counts : OwnCounts) : Type 0 where
  pub packets : shown.packets ≡ counts.packets
  pub octets : shown.octets ≡ counts.octets
  pub sends : shown.sends ≡ one_if counts.sends

-- A status and the counts say what is told: 0 and what was sent; or 1 once the participant leaves, and they are as they
-- were.
abbrev pub ShowsOwn : (status : ℕ) (before after : HostOwn) → Option OwnCounts → Type 0
ShowsOwn status before after None = (status ≡ 1) × (after ≡ before)
ShowsOwn status before after (Some counts) = (status ≡ 0) × IsOwnShown after counts
