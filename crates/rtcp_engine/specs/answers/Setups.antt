-- How a participant is set up.
use Rattle.std.specs.Prelude.{ℕ, ◌≡◌, ◌==◌, ◌≤◌, ◌%◌, ◌^◌, ◌&&◌, Bool, nat_le, List, [], ◌∷◌, All, length, if◌then◌else◌, not, Option, Some, None}
use Rattle.rtcp_wire.specs.Values.{ItemValue}
use Rattle.std.specs.List.{list_all}
use Rattle.rtcp_engine.specs.declared.config.ConfigError.{ConfigError}
use Rattle.rtcp_engine.specs.declared.config.ConfigError.TheVariants.{Bandwidth, Rate, Item}

-- The clock in which the timestamps of a payload type count (RFC 3550, 5.1): it has so many units a second.
pub record ClockValue : Type 0 where
  pub payload_type : ℕ
  pub rate : ℕ

-- The rate of the clock of a payload type: that of the first of these clocks that is its own, or else the usual one.
abbrev pub rate_among : List ClockValue → (usual payload_type : ℕ) → ℕ
rate_among [] usual payload_type = usual
rate_among (clock ∷ clocks) usual payload_type =
    if clock.payload_type == payload_type then clock.rate else rate_among clocks usual payload_type

-- What a host may change in a running session (RFC 3550, 6.4.1, 6.5).
pub record SettingsValue : Type 0 where
  -- the RTCP bandwidth of the session, in octets a second (RFC 3556)
  pub sender_bw : ℕ
  pub receiver_bw : ℕ
  -- units a second of the clock of its own media, and of those payload types of which nothing else is said
  pub rate : ℕ
  -- the clocks of other payload types
  pub clocks : List ClockValue
  -- the NTP timestamp of moment 0
  pub ntp_base : ℕ
  -- the items that describe the participant beside its CNAME, which go out in turn
  pub extras : List ItemValue

-- A participant's SSRC and CNAME, how many other sources its table may hold, the most octets of a compound that it
-- sends, and what its host may change.
pub record Setup : Type 0 where
  pub ssrc : ℕ
  pub cname : List ℕ
  pub capacity : ℕ
  pub limit : ℕ
  pub settings : SettingsValue

abbrev pub settings_of : Setup → SettingsValue
settings_of setup = setup.settings

-- the rest of a setup, with these settings
abbrev pub with_settings : SettingsValue → Setup → Setup
with_settings settings setup = record setup { settings = settings }

-- whether settings have the bandwidths of a setup
abbrev pub keeps_bandwidths : SettingsValue → Setup → Bool
keeps_bandwidths settings setup =
    settings.sender_bw == setup.settings.sender_bw && settings.receiver_bw == setup.settings.receiver_bw

abbrev pub is_within : (least most number : ℕ) → Bool
is_within least most number = nat_le least number && nat_le number most

abbrev pub IsWithin : (least most number : ℕ) → Type 0
IsWithin least most number = (least ≤ number) × (number ≤ most)

-- whether an item may be given beside the CNAME: NAME to PRIV (RFC 3550, 6.5.2 to 6.5.8)
abbrev pub is_extra_item : ItemValue → Bool
is_extra_item item = is_within 2 8 item.kind && nat_le (length item.text) 255

abbrev pub IsExtraItem : ItemValue → Type 0
IsExtraItem item = IsWithin 2 8 item.kind × (length item.text ≤ 255)

abbrev pub IsClock : ClockValue → Type 0
IsClock clock = IsWithin 1 (2 ^ 20) clock.rate

-- What a participant takes.
pub record IsUsable (setup : Setup) : Type 0 where
  pub cname : IsWithin 1 255 (length setup.cname)
  pub capacity : IsWithin 1 1024 setup.capacity
  pub limit : IsWithin 576 1472 setup.limit
  pub words : setup.limit % 4 ≡ 0
  pub for_senders : IsWithin 16 (2 ^ 30) setup.settings.sender_bw
  pub for_others : IsWithin 16 (2 ^ 30) setup.settings.receiver_bw
  pub rate : IsWithin 1 (2 ^ 20) setup.settings.rate
  pub clocks : All IsClock setup.settings.clocks
  pub few_extras : length setup.settings.extras ≤ 7
  pub extras : All IsExtraItem setup.settings.extras

abbrev pub is_bandwidth : (bandwidth : ℕ) → Bool
is_bandwidth bandwidth = is_within 16 (2 ^ 30) bandwidth

-- Why settings are refused: for the reason for which a setup with them is (law `settings_are_refused_as_setups`).
abbrev pub settings_error : SettingsValue → Option ConfigError
settings_error settings =
    if not (is_bandwidth settings.sender_bw && is_bandwidth settings.receiver_bw) then Some Bandwidth
    else (if not (is_within 1 (2 ^ 20) settings.rate
    && list_all (λ clock. is_within 1 (2 ^ 20) clock.rate) settings.clocks) then Some Rate
    else (if not (nat_le (length settings.extras) 7 && list_all is_extra_item settings.extras) then Some Item
    else None))

-- ---- Parts of what stands above, by names of their own

abbrev pub is_clock : ClockValue → Bool
is_clock clock = is_within 1 (2 ^ 20) clock.rate

-- whether these may be given beside the CNAME
abbrev pub are_extras : List ItemValue → Bool
are_extras items = nat_le (length items) 7 && list_all is_extra_item items
