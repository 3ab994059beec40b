-- How a host in C configures a participant, first and in a running session.
use Rattle.std.specs.Prelude.{ℕ, ◌^◌, ◌&&◌, Bool, nat_le, if◌then◌else◌, not, nat_eq, List, length, map, take, Option, Some, None, option_map}
use Rattle.std.specs.List.{list_all}
use Rattle.std.specs.Option.{option_or}
use Rattle.rtcp_wire.specs.Values.{ItemValue}
use Rattle.rtcp_engine.specs.declared.config.ConfigError.{ConfigError}
use Rattle.rtcp_engine.specs.declared.config.ConfigError.TheVariants.{Cname, Capacity, Limit, Bandwidth, Rate, Item}
use Rattle.rtcp_engine.specs.answers.Setups.{ClockValue, SettingsValue, Setup}
use Rattle.rtcp_engine.specs.answers.Refused.{error_in}
use Rattle.jalwedd_host.specs.declared.config.Clock.{Clock as ClockGiven}
use Rattle.rtcp_guard.specs.Guarding.{GuardValue, new_guard}
use Rattle.rtcp_guard.specs.declared.settings.Settings.{Settings as GuardSettings}
use Rattle.jalwedd_host.specs.declared.config.Config.{Config}
use Rattle.jalwedd_host.specs.declared.config.GuardConfig.{GuardConfig}
use Rattle.jalwedd_host.specs.declared.config.Item.{Item as ItemGiven}
use Rattle.jalwedd_host.specs.declared.config.Settings.{Settings}

abbrev pub item_given : ItemGiven → ItemValue
item_given item = record { kind = item.kind; text = take item.size item.text }

abbrev pub items_given : List ItemGiven → List ItemValue
items_given items = map item_given items

abbrev pub clock_given : ClockGiven → ClockValue
clock_given clock = record { payload_type = clock.payload_type; rate = clock.rate }

-- The first `count` of them are given.
abbrev pub clocks_given : (count : ℕ) → List ClockGiven → List ClockValue
clocks_given count clocks = map clock_given (take count clocks)

abbrev pub setup_given : Config → (cname : List ℕ) → List ItemGiven → Setup
setup_given config cname items = record {
  ssrc = config.ssrc;
  cname = cname;
  capacity = config.capacity;
  limit = config.limit;
  settings = record {
    sender_bw = config.sender_bw;
    receiver_bw = config.receiver_bw;
    rate = config.rate;
    clocks = clocks_given config.clock_count config.clocks;
    ntp_base = config.ntp_base;
    extras = items_given items;
  };
}

abbrev pub settings_given : Settings → List ItemGiven → SettingsValue
settings_given settings items = record {
  sender_bw = settings.sender_bw;
  receiver_bw = settings.receiver_bw;
  rate = settings.rate;
  clocks = clocks_given settings.clock_count settings.clocks;
  ntp_base = settings.ntp_base;
  extras = items_given items;
}

-- A configuration that had these settings from the start.
abbrev pub configured_with : Settings → Config → Config
configured_with settings config =
    record config {
      sender_bw = settings.sender_bw;
      receiver_bw = settings.receiver_bw;
      clock_count = settings.clock_count;
      clocks = settings.clocks;
      rate = settings.rate;
      ntp_base = settings.ntp_base;
    }

-- C1 to C6
abbrev pub status_of_error : ConfigError → ℕ
status_of_error Cname = 11
status_of_error Capacity = 12
status_of_error Limit = 13
status_of_error Bandwidth = 14
status_of_error Rate = 15
status_of_error Item = 16

abbrev pub is_octet_type : ClockGiven → Bool
is_octet_type clock = nat_le clock.payload_type 255

-- Whether so many clocks are at most 16, each of a payload type that fits an octet.
abbrev pub do_clocks_fit : (count : ℕ) → List ClockGiven → Bool
do_clocks_fit count clocks = nat_le count 16 && list_all is_octet_type (take count clocks)

-- The status of what does not fit: more than 7 items, or else the clocks.
abbrev pub oversize_parts : List ItemGiven → (count : ℕ) → List ClockGiven → Option ℕ
oversize_parts items count clocks =
    if not (nat_le (length items) 7) then Some 16
    else (if not (do_clocks_fit count clocks) then Some 15
    else None)

abbrev pub oversize_of_settings : Settings → List ItemGiven → Option ℕ
oversize_of_settings settings items = oversize_parts items settings.clock_count settings.clocks

-- Of a configuration first a CNAME of more than 255 octets.
abbrev pub oversize : Config → (cname : List ℕ) → List ItemGiven → Option ℕ
oversize config cname items =
    if not (nat_le (length cname) 255) then Some 11
    else oversize_parts items config.clock_count config.clocks

-- The status of a setup that is refused, if it is.
abbrev pub refusal_of_setup : Config → (cname : List ℕ) → List ItemGiven → Option ℕ
refusal_of_setup config cname items = elim (oversize config cname items) [
  | None ↦ option_map status_of_error (error_in (setup_given config cname items))
  | Some status ↦ Some status
]

-- C7: a start is below 2^63.
abbrev pub refusal_of_start : (start : ℕ) → Option ℕ
refusal_of_start start = if nat_le (2 ^ 63) start then Some 17 else None

-- C8: an origin, a trusted one too, may have at most 1,024 sources.
abbrev pub refusal_of_guard : GuardConfig → Option ℕ
refusal_of_guard guard = if nat_le guard.names 1024 && nat_le guard.trusted_names 1024 then None else Some 18

-- The status of a configuration that is refused, if it is: the first that applies.
abbrev pub refusal_of : Config → (cname : List ℕ) → List ItemGiven → Option ℕ
refusal_of config cname items =
    option_or (refusal_of_setup config cname items)
    (option_or (refusal_of_start config.start) (refusal_of_guard config.guard))

-- the settings of a guard before a participant of this capacity
abbrev pub guard_given : (capacity : ℕ) → GuardConfig → GuardSettings
guard_given capacity guard = record {
  sources = capacity;
  names = guard.names;
  trusted_names = guard.trusted_names;
  hold = guard.hold;
}

-- The guard that a configuration begins with: none where an origin may have no source.
abbrev pub guard_begun : (capacity : ℕ) → GuardConfig → Option GuardValue
guard_begun capacity guard =
    if nat_eq guard.names 0 then None else Some (new_guard (guard_given capacity guard))
