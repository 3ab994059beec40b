-- Why a setup is refused.
use Rattle.std.specs.Prelude.{Bool, ℕ, ◌^◌, ◌%◌, ◌==◌, ◌&&◌, not, if◌then◌else◌, length, Option, Some, None}
use Rattle.std.specs.List.{list_all}
use Rattle.rtcp_engine.specs.declared.config.ConfigError.{ConfigError}
use Rattle.rtcp_engine.specs.declared.config.ConfigError.TheVariants.{Cname, Capacity, Limit, Bandwidth, Rate, Item}
use Rattle.rtcp_engine.specs.answers.Setups.{Setup, is_within, is_clock, are_extras, is_bandwidth}
pub use Rattle.rtcp_engine.specs.answers.Setups.{settings_error}

abbrev pub is_limit : (limit : ℕ) → Bool
is_limit limit = is_within 576 1472 limit && limit % 4 == 0

-- The first of the reasons, in this order. (By its types a configuration has at most 7 extra items, and texts
-- of at most 255 octets.)
abbrev pub error_in : Setup → Option ConfigError
error_in setup =
    if not (is_within 1 255 (length setup.cname)) then Some Cname
    else (if not (is_within 1 1024 setup.capacity) then Some Capacity
    else (if not (is_limit setup.limit) then Some Limit
    else (if not (is_bandwidth setup.settings.sender_bw && is_bandwidth setup.settings.receiver_bw) then Some Bandwidth
    else (if not (is_within 1 (2 ^ 20) setup.settings.rate && list_all is_clock setup.settings.clocks) then Some Rate
    else (if not (are_extras setup.settings.extras) then Some Item
    else None)))))
