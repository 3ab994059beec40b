-- What the options that configure a participant and those of `rtcp replay` say, and the first that is refused.
use Rattle.std.specs.Prelude.{◌≡◌, ℕ, ◌/◌, ◌^◌, ◌-◌, Bool, true, false, nat_le, min, List, [], ◌∷◌, ◌++◌, length, map, if◌then◌else◌, Option, Some, None, option_map, option_and_then, unwrap_or, Result, Ok, Err, codes}
use Rattle.std.specs.Borrow.{Bor}
use Rattle.std.specs.Int.{w32, w64}
use Rattle.std.specs.Option.{ok_or}
use Rattle.std.specs.Str.{bytes_eq}
use Rattle.clap.specs.declared.parser.matches.Found.{Found}
use Rattle.clap.specs.Matches.{first_value, matched_of, raw_values}
use Rattle.rtcp_wire.specs.Values.{ItemValue}
use Rattle.rtcp_engine.specs.answers.Setups.{ClockValue, Setup}
use Rattle.rtcp_engine.specs.state.Views.{setup_of}
use Rattle.rtcp_command.specs.declared.orders.TextOrder.{TextOrder}
use Rattle.rtcp_command.specs.declared.orders.TextOrder.TheVariants.{Check, CheckPlain, CheckBlocks, CheckJson, Replay, ReplayGuarded, ReplayJson, ReplayGuardedJson}
use Rattle.rtcp_command.specs.declared.orders.OrderFault.{OrderFault}
use Rattle.rtcp_command.specs.declared.orders.OrderFault.TheVariants.{Clap, Option as BadOption, Memory}
use Rattle.rtcp_text.specs.Numerals.{decimal_in, hex_in, hex_text_in}
use Rattle.rtcp_guarded_text.specs.declared.limits.GuardLimits.{GuardLimits}
use Rattle.rtcp_command.specs.Guards.{guard_given}
use Rattle.rtcp_text.specs.Results.{◌>>=◌}
use Rattle.rtcp_text.specs.SettingsFields.{clock_in, few_in}

-- ---- Texts

abbrev pub text_given : Option (Bor (List ℕ)) → Option (List ℕ)
text_given given = option_map (λ text. text.now) given

abbrev pub texts_in : Bor (List (Bor (List ℕ))) → List (List ℕ)
texts_in given = map (λ text. text.now) given.now

abbrev pub texts_given : Option (Bor (List (Bor (List ℕ)))) → List (List ℕ)
texts_given None = []
texts_given (Some given) = texts_in given

-- the text that a command line gives an option, by the option's name (an empty one where it gives none)
abbrev pub text_found : Found → (name : List ℕ) → List ℕ
text_found found name = unwrap_or (first_value found name) []

-- whether a flag is given
abbrev pub is_set : Found → (name : List ℕ) → Bool
is_set found name = bytes_eq (text_found found name) (codes "true")

-- all texts that it gives an option
abbrev pub values_found : Found → (name : List ℕ) → List (List ℕ)
values_found found name = unwrap_or (option_map raw_values (matched_of found name)) []

-- ---- Values

-- a text of at most 255 octets
abbrev pub text_in : List ℕ → Option (List ℕ)
text_in text = if nat_le (length text) 255 then Some text else None

-- the clock of a payload type, which is below 128 (RFC 3550, 5.1)
abbrev pub clock_given : List ℕ → Option ClockValue
clock_given text =
    option_and_then (λ clock. if nat_le clock.payload_type 127 then Some clock else None) (clock_in text)

-- at most 16
abbrev pub clocks_given : List (List ℕ) → Option (List ClockValue)
clocks_given texts = few_in 16 clock_given texts

-- RTCP's bandwidth, 5 per cent of the session's, in octets a second: a quarter of it is for senders, and the rest for
-- the others
abbrev pub share_of_senders : (session_bps : ℕ) → ℕ
share_of_senders session_bps = session_bps / 160 / 4

abbrev pub share_of_others : (session_bps : ℕ) → ℕ
share_of_others session_bps = session_bps / 160 - session_bps / 160 / 4

-- a bandwidth, or the greatest number of 32 bits
abbrev pub fitted : (bandwidth : ℕ) → ℕ
fitted bandwidth = min bandwidth (2 ^ 32 - 1)

-- the bandwidth that an option gives, or the share where it is not given
abbrev pub bandwidth_in : (name : List ℕ) → (share : ℕ) → Option (List ℕ) → Result ℕ (List ℕ)
bandwidth_in name share None = Ok (fitted share)
bandwidth_in name share (Some text) = do
  bandwidth ← ok_or (decimal_in 64 text) name
  Ok (fitted bandwidth)

-- ---- Extra items

-- an extra item, if its option is given
abbrev pub item_in : (kind : ℕ) → (name : List ℕ) → (read : List ℕ → Option (List ℕ)) → Option (List ℕ) →
    Result (List ItemValue) (List ℕ)
item_in kind name read None = Ok []
item_in kind name read (Some text) = do
  octets ← ok_or (read text) name
  Ok (record { kind = kind; text = octets } ∷ [])

-- Extra items stand in the order of their types.
abbrev pub extras_in : Found → Result (List ItemValue) (List ℕ)
extras_in found = do
  name ← item_in 2 (codes "name") text_in (first_value found (codes "name"))
  email ← item_in 3 (codes "email") text_in (first_value found (codes "email"))
  phone ← item_in 4 (codes "phone") text_in (first_value found (codes "phone"))
  place ← item_in 5 (codes "loc") text_in (first_value found (codes "loc"))
  tool ← item_in 6 (codes "tool") text_in (first_value found (codes "tool"))
  note ← item_in 7 (codes "note") text_in (first_value found (codes "note"))
  private ← item_in 8 (codes "priv") hex_text_in (first_value found (codes "priv"))
  Ok (name ++ email ++ phone ++ place ++ tool ++ note ++ private)

abbrev pub with_extras : Setup → List ItemValue → Setup
with_extras setup items = record setup { settings = record setup.settings { extras = setup.settings.extras ++ items } }

-- ---- The setup

-- How the participant is set up, by the options of a command line and the texts of its SSRC and its NTP timestamp, or
-- the name of the first option that is refused.
abbrev pub setup_in : Found → (ssrc ntp : List ℕ) → Result Setup (List ℕ)
setup_in found ssrc ntp = do
  ssrc ← ok_or (hex_in w32 ssrc) (codes "ssrc")
  cname ← ok_or (text_in (text_found found (codes "cname"))) (codes "cname")
  capacity ← ok_or (decimal_in 32 (text_found found (codes "capacity"))) (codes "capacity")
  limit ← ok_or (decimal_in 32 (text_found found (codes "limit"))) (codes "limit")
  session_bps ← ok_or (decimal_in 64 (text_found found (codes "session-bps"))) (codes "session-bps")
  sender_bw ← bandwidth_in (codes "sender-bw") (share_of_senders session_bps) (first_value found (codes "sender-bw"))
  receiver_bw ←
      bandwidth_in (codes "receiver-bw") (share_of_others session_bps) (first_value found (codes "receiver-bw"))
  rate ← ok_or (decimal_in 32 (text_found found (codes "rate"))) (codes "rate")
  clocks ← ok_or (clocks_given (values_found found (codes "clock"))) (codes "clock")
  ntp ← ok_or (hex_in w64 ntp) (codes "ntp")
  extras ← extras_in found
  Ok (record {
    ssrc = ssrc;
    cname = cname;
    capacity = capacity;
    limit = limit;
    settings = record {
      sender_bw = sender_bw;
      receiver_bw = receiver_bw;
      rate = rate;
      clocks = clocks;
      ntp_base = ntp;
      extras = extras;
    };
  })

-- 1 to 2^32 - 1 lines
abbrev pub lines_in : List ℕ → Option ℕ
lines_in text = option_and_then (λ lines. if nat_le 1 lines then Some lines else None) (decimal_in 32 text)

-- The word of the start, the number of lines and the guard are looked at last.
abbrev pub replay_in : Found → Result (Setup × ℕ × ℕ × Option GuardLimits) (List ℕ)
replay_in found = do
  setup ← setup_in found (text_found found (codes "ssrc")) (text_found found (codes "ntp"))
  word ← ok_or (hex_in w32 (text_found found (codes "word"))) (codes "word")
  lines ← ok_or (lines_in (text_found found (codes "lines"))) (codes "lines")
  guard ← ok_or (guard_given (first_value found (codes "guard"))) (codes "guard")
  Ok (setup, word, lines, guard)

-- ---- Orders

-- What the options come to is this order, or this fault; and so is whether JSON is asked for.
abbrev pub IsReplayOrder : Result TextOrder OrderFault → (json : Bool) →
    Result (Setup × ℕ × ℕ × Option GuardLimits) (List ℕ) → Type 0
IsReplayOrder (Ok (Replay config word lines)) json expected =
    (expected ≡ Ok (setup_of config, word, lines, None)) × (json ≡ false)
IsReplayOrder (Ok (ReplayGuarded config word lines limits)) json expected =
    (expected ≡ Ok (setup_of config, word, lines, Some limits)) × (json ≡ false)
IsReplayOrder (Ok (ReplayJson config word lines)) json expected =
    (expected ≡ Ok (setup_of config, word, lines, None)) × (json ≡ true)
IsReplayOrder (Ok (ReplayGuardedJson config word lines limits)) json expected =
    (expected ≡ Ok (setup_of config, word, lines, Some limits)) × (json ≡ true)
IsReplayOrder (Ok (Check lines)) json expected = ⊥
IsReplayOrder (Ok (CheckPlain lines)) json expected = ⊥
IsReplayOrder (Ok (CheckBlocks lines)) json expected = ⊥
IsReplayOrder (Ok (CheckJson lines)) json expected = ⊥
IsReplayOrder (Err (BadOption name)) json expected = expected ≡ Err name.now
IsReplayOrder (Err (Clap text)) json expected = ⊥
IsReplayOrder (Err Memory) json expected = ⊥

-- The number of lines is this order's, or refused; and so is whether plain words, blocks or JSON are asked for. JSON
-- comes first, and blocks before plain words: a command line that asks for two is refused by `clap`.
abbrev pub IsCheckOrder : Result TextOrder OrderFault → (plain blocks json : Bool) → Option ℕ → Type 0
IsCheckOrder (Ok (Check lines)) plain blocks json expected =
    (expected ≡ Some lines) × (plain ≡ false) × (blocks ≡ false) × (json ≡ false)
IsCheckOrder (Ok (CheckPlain lines)) plain blocks json expected =
    (expected ≡ Some lines) × (plain ≡ true) × (blocks ≡ false) × (json ≡ false)
IsCheckOrder (Ok (CheckBlocks lines)) plain blocks json expected =
    (expected ≡ Some lines) × (blocks ≡ true) × (json ≡ false)
IsCheckOrder (Ok (CheckJson lines)) plain blocks json expected = (expected ≡ Some lines) × (json ≡ true)
IsCheckOrder (Ok (Replay config word lines)) plain blocks json expected = ⊥
IsCheckOrder (Ok (ReplayGuarded config word lines limits)) plain blocks json expected = ⊥
IsCheckOrder (Ok (ReplayJson config word lines)) plain blocks json expected = ⊥
IsCheckOrder (Ok (ReplayGuardedJson config word lines limits)) plain blocks json expected = ⊥
IsCheckOrder (Err (BadOption name)) plain blocks json expected = (expected ≡ None) × (name.now ≡ codes "lines")
IsCheckOrder (Err (Clap text)) plain blocks json expected = ⊥
IsCheckOrder (Err Memory) plain blocks json expected = ⊥
