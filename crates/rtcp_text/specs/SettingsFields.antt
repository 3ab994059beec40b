-- The settings of a session as fields of a line write them: clocks of payload types, and items.
use Rattle.std.specs.Prelude.{ℕ, ◌==◌, ◌<◌, ◌≤◌, ◌^◌, nat_le, List, [], ◌∷◌, ◌++◌, length, map, All, if◌then◌else◌, Option, Some, None, option_map, option_and_then, codes}
use Rattle.std.specs.Borrow.{Bor}
use Rattle.std.specs.Fmt.{decimal}
use Rattle.std.specs.List.{join_with_byte, slice_split}
use Rattle.std.specs.Str.{bytes_eq}
use Rattle.hex.specs.Hex.{IsBytes, encode_lower}
use Rattle.rtcp_wire.specs.Values.{ItemValue}
use Rattle.rtcp_engine.specs.answers.Setups.{ClockValue, SettingsValue}
use Rattle.rtcp_text.specs.Numerals.{decimal_in, hex_text_in}
use Rattle.rtcp_text.specs.Text.{hex_long}

-- ---- Lists

-- what stands between the separators of a text
abbrev pub parts_at : (separator : ℕ) → List ℕ → List (List ℕ)
parts_at separator text = slice_split (λ octet. octet == separator) text

-- what stands so after a part, if something comes after it
abbrev pub parts_left : (separator : ℕ) → Option (Bor (List ℕ)) → List (List ℕ)
parts_left separator None = []
parts_left separator (Some rest) = parts_at separator rest.now

-- what each of the parts says, if each says something
abbrev pub each_in : {A : Type 0} → (List ℕ → Option A) → List (List ℕ) → Option (List A)
each_in read [] = Some []
each_in read (part ∷ parts) =
    option_and_then (λ first. option_map (λ others. first ∷ others) (each_in read parts)) (read part)

-- what at most so many parts say
abbrev pub few_in : {A : Type 0} → (most : ℕ) → (List ℕ → Option A) → List (List ℕ) → Option (List A)
few_in most read parts = if nat_le (length parts) most then each_in read parts else None

-- Values between commas (44), at most so many: a hyphen where there are none.
abbrev pub list_in : {A : Type 0} → (most : ℕ) → (List ℕ → Option A) → List ℕ → Option (List A)
list_in most read field = if bytes_eq field (codes "-") then Some [] else few_in most read (parts_at 44 field)

-- two texts
abbrev pub two_in : List (List ℕ) → Option (List ℕ × List ℕ)
two_in (first ∷ second ∷ []) = Some (first, second)
two_in parts = None

-- the two sides of a colon (58)
abbrev pub sides_in : List ℕ → Option (List ℕ × List ℕ)
sides_in text = two_in (parts_at 58 text)

-- ---- Clocks

-- a payload type and a rate
abbrev pub clock_from : (List ℕ × List ℕ) → Option ClockValue
clock_from sides =
    option_and_then
    (λ payload_type. option_map (λ rate. record { payload_type = payload_type; rate = rate }) (decimal_in 32 sides.1))
    (decimal_in 8 sides.0)

-- <payload type>:<rate>
abbrev pub clock_in : List ℕ → Option ClockValue
clock_in text = option_and_then clock_from (sides_in text)

-- at most 16
abbrev pub clocks_in : List ℕ → Option (List ClockValue)
clocks_in field = list_in 16 clock_in field

-- ---- Items

-- a type and a text in hex
abbrev pub item_from : (List ℕ × List ℕ) → Option ItemValue
item_from sides =
    option_and_then (λ kind. option_map (λ text. record { kind = kind; text = text }) (hex_text_in sides.1))
    (decimal_in 8 sides.0)

-- <type>:<hex>
abbrev pub item_in : List ℕ → Option ItemValue
item_in text = option_and_then item_from (sides_in text)

-- at most 7
abbrev pub items_in : List ℕ → Option (List ItemValue)
items_in field = list_in 7 item_in field

-- ---- Settings as fields

abbrev pub list_text : {A : Type 0} → (A → List ℕ) → List A → List ℕ
list_text text [] = codes "-"
list_text text (value ∷ values) = join_with_byte 44 (map text (value ∷ values))

abbrev pub clock_text : ClockValue → List ℕ
clock_text clock = decimal clock.payload_type ++ 58 ∷ decimal clock.rate

abbrev pub clocks_text : List ClockValue → List ℕ
clocks_text clocks = list_text clock_text clocks

abbrev pub given_item_text : ItemValue → List ℕ
given_item_text item = decimal item.kind ++ 58 ∷ encode_lower item.text

abbrev pub items_text : List ItemValue → List ℕ
items_text items = list_text given_item_text items

-- the fields of settings, in their order: those of the bandwidths first
abbrev pub other_fields : SettingsValue → List (List ℕ)
other_fields settings =
    clocks_text settings.clocks ∷ items_text settings.extras ∷ decimal settings.rate ∷ hex_long settings.ntp_base ∷ []

abbrev pub settings_fields : SettingsValue → List (List ℕ)
settings_fields settings = decimal settings.sender_bw ∷ decimal settings.receiver_bw ∷ other_fields settings

-- ---- The settings that fields can say

abbrev pub IsClockOfFields : ClockValue → Type 0
IsClockOfFields clock = (clock.payload_type < 2 ^ 8) × (clock.rate < 2 ^ 32)

abbrev pub IsItemOfFields : ItemValue → Type 0
IsItemOfFields item = (item.kind < 2 ^ 8) × (length item.text ≤ 255) × IsBytes item.text

-- The numbers of settings are those of a call: 8 bits for types, 64 for the NTP timestamp, 32 for the rest.
pub record AreSettingsOfFields (settings : SettingsValue) : Type 0 where
  pub for_senders : settings.sender_bw < 2 ^ 32
  pub for_others : settings.receiver_bw < 2 ^ 32
  pub few_clocks : length settings.clocks ≤ 16
  pub clocks : All IsClockOfFields settings.clocks
  pub few_items : length settings.extras ≤ 7
  pub items : All IsItemOfFields settings.extras
  pub rate : settings.rate < 2 ^ 32
  pub ntp_base : settings.ntp_base < 2 ^ 64
