-- The command that plays a record again, as `rtcp listen` shows it.
use Rattle.std.specs.Prelude.{ℕ, ◌/◌, ◌==◌, nat_lt, List, [], ◌∷◌, ◌++◌, if◌then◌else◌, codes}
use Rattle.std.specs.Fmt.{decimal}
use Rattle.std.specs.List.{flat_map}
use Rattle.hex.specs.Hex.{encode_lower}
use Rattle.rtcp_wire.specs.Values.{ItemValue}
use Rattle.rtcp_engine.specs.answers.Setups.{ClockValue, Setup}
use Rattle.rtcp_text.specs.SettingsFields.{clock_text}
use Rattle.rtcp_guarded_text.specs.declared.limits.GuardLimits.{GuardLimits}
use Rattle.rtcp_text.specs.Text.{hex_word, hex_long}

-- A text between single quotes (39), in which a shell takes each octet as it is. A single quote ends them, stands after
-- a
-- backslash, and begins them again.
abbrev pub quoted_octet : ℕ → List ℕ
quoted_octet octet = if octet == 39 then codes "'\\''" else octet ∷ []

abbrev pub quoted : List ℕ → List ℕ
quoted text = codes "'" ++ flat_map quoted_octet text ++ codes "'"

-- the option of an extra item, by its type
abbrev pub item_name : ℕ → List ℕ
item_name kind =
    if kind == 2 then codes "name" else (if kind == 3 then codes "email" else (if kind == 4 then codes "phone"
    else (if kind == 5 then codes "loc" else (if kind == 6 then codes "tool" else (if kind == 7 then codes "note"
    else codes "priv")))))

-- A PRIV item, of type 8, is in hex.
abbrev pub item_text : ItemValue → List ℕ
item_text item =
    codes " --" ++ item_name item.kind ++ codes " "
    ++ (if nat_lt item.kind 8 then quoted item.text else encode_lower item.text)

abbrev pub name_text : Setup → List ℕ
name_text setup = codes " --ssrc " ++ hex_word setup.ssrc ++ codes " --cname " ++ quoted setup.cname

abbrev pub sizes_text : Setup → List ℕ
sizes_text setup = codes " --capacity " ++ decimal setup.capacity ++ codes " --limit " ++ decimal setup.limit

abbrev pub bandwidths_text : Setup → List ℕ
bandwidths_text setup =
    codes " --sender-bw " ++ decimal setup.settings.sender_bw ++ codes " --receiver-bw " ++ decimal
    setup.settings.receiver_bw

-- the option of a payload type's clock
abbrev pub clock_option_text : ClockValue → List ℕ
clock_option_text clock = codes " --clock " ++ clock_text clock

abbrev pub clocks_text : Setup → List ℕ
clocks_text setup =
    codes " --rate " ++ decimal setup.settings.rate ++ flat_map clock_option_text setup.settings.clocks
    ++ codes " --ntp " ++ hex_long setup.settings.ntp_base

-- the options of a configuration
abbrev pub setup_text : Setup → List ℕ
setup_text setup =
    name_text setup ++ sizes_text setup ++ bandwidths_text setup ++ clocks_text setup
    ++ flat_map item_text setup.settings.extras

-- With each option, the random word of the start, as many lines as may be, and the file of the record.
abbrev pub replay_command : Setup → (word : ℕ) → (file : List ℕ) → List ℕ
replay_command setup word file =
    codes "rtcp replay" ++ setup_text setup ++ codes " --word " ++ hex_word word
    ++ codes " --lines 4294967295 < " ++ quoted file ++ codes "\n"

-- the option of a guard, whose hold is in microseconds
abbrev pub guard_text : GuardLimits → List ℕ
guard_text limits = codes " --guard " ++ decimal limits.names ++ codes "," ++ decimal (limits.hold / 1000000)

-- the same of a session with a guard
abbrev pub replay_guarded_command : Setup → (word : ℕ) → GuardLimits → (file : List ℕ) → List ℕ
replay_guarded_command setup word limits file =
    codes "rtcp replay" ++ setup_text setup ++ codes " --word " ++ hex_word word ++ guard_text limits
    ++ codes " --lines 4294967295 < " ++ quoted file ++ codes "\n"
