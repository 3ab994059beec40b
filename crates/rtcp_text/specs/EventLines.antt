-- What a line of a session says, as `rtcp replay` reads it.
use Rattle.std.specs.Prelude.{ℕ, ◌<◌, ◌^◌, List, [], ◌∷◌, ◌++◌, if◌then◌else◌, Option, Some, None, Result, Ok, Err, codes}
use Rattle.std.specs.Borrow.{Bor}
use Rattle.std.specs.Fmt.{decimal}
use Rattle.std.specs.Int.{w32, w64}
use Rattle.std.specs.Option.{ok_or}
use Rattle.std.specs.Str.{bytes_eq}
use Rattle.hex.specs.Hex.{IsBytes, encode_lower}
use Rattle.rtcp_engine.specs.answers.Setups.{SettingsValue}
use Rattle.rtcp_engine.specs.answers.Acts.{EventValue, rtcp_arrived, rtp_arrived, packet_sent, time_passed, leave_asked, settings_given, forget_asked}
use Rattle.rtcp_text.specs.declared.event_line.LineKind.{LineKind}
use Rattle.rtcp_text.specs.declared.event_line.LineKind.TheVariants.{Rtcp, Rtp, Sent, Ticked, Left, Configured, Forgotten}
use Rattle.rtcp_text.specs.declared.fault.LineFault.{LineFault}
use Rattle.rtcp_text.specs.declared.fault.LineFault.TheVariants.{Words, Hex, Number}
use Rattle.rtcp_text.specs.Numerals.{decimal_in, hex_in, datagram_in}
use Rattle.rtcp_text.specs.Results.{◌>>=◌}
use Rattle.rtcp_text.specs.SettingsFields.{AreSettingsOfFields, clocks_in, items_in, parts_at, parts_left, settings_fields}
use Rattle.rtcp_text.specs.Text.{hex_word}

-- ---- Fields

-- what stands between the spaces (32) of a line
abbrev pub fields_of : List ℕ → List (List ℕ)
fields_of line = parts_at 32 line

-- what stands so after a field, if something comes after it
abbrev pub fields_left : Option (Bor (List ℕ)) → List (List ℕ)
fields_left rest = parts_left 32 rest

abbrev pub moment_in : List ℕ → Result ℕ LineFault
moment_in field = ok_or (decimal_in 64 field) Number

-- A peer is any number below 2^64.
abbrev pub peer_in : List ℕ → Result ℕ LineFault
peer_in field = ok_or (decimal_in 64 field) Number

abbrev pub short_in : List ℕ → Result ℕ LineFault
short_in field = ok_or (decimal_in 32 field) Number

abbrev pub word_in : List ℕ → Result ℕ LineFault
word_in field = ok_or (hex_in w32 field) Hex

abbrev pub long_in : List ℕ → Result ℕ LineFault
long_in field = ok_or (hex_in w64 field) Hex

abbrev pub octets_in : List ℕ → Result (List ℕ) LineFault
octets_in field = ok_or (datagram_in field) Hex

-- ---- Lines

abbrev pub arrival : ((moment peer word : ℕ) → List ℕ → EventValue) → List (List ℕ) → Result EventValue LineFault
arrival arrived (moment ∷ peer ∷ word ∷ datagram ∷ []) = do
  now ← moment_in moment
  from ← peer_in peer
  random ← word_in word
  octets ← octets_in datagram
  Ok (arrived now from random octets)
arrival arrived _ = Err Words

abbrev pub sending : List (List ℕ) → Result EventValue LineFault
sending (moment ∷ timestamp ∷ octets ∷ []) = do
  now ← moment_in moment
  rtp ← short_in timestamp
  count ← short_in octets
  Ok (packet_sent now rtp count)
sending _ = Err Words

abbrev pub tick : List (List ℕ) → Result EventValue LineFault
tick (moment ∷ first ∷ second ∷ []) = do
  now ← moment_in moment
  first_word ← word_in first
  second_word ← word_in second
  Ok (time_passed now first_word second_word)
tick _ = Err Words

abbrev pub leave : List (List ℕ) → Result EventValue LineFault
leave (moment ∷ word ∷ []) = do
  now ← moment_in moment
  random ← word_in word
  Ok (leave_asked now random)
leave _ = Err Words

-- The two bandwidths, the clocks of payload types, the items, the rate and the NTP timestamp of moment 0.
abbrev pub settings_in : (senders others clocks items rate ntp : List ℕ) → Result SettingsValue LineFault
settings_in senders others clocks items rate ntp = do
  for_senders ← short_in senders
  for_others ← short_in others
  rates ← ok_or (clocks_in clocks) Number
  extras ← ok_or (items_in items) Hex
  units ← short_in rate
  base ← long_in ntp
  Ok (record {
    sender_bw = for_senders;
    receiver_bw = for_others;
    rate = units;
    clocks = rates;
    ntp_base = base;
    extras = extras;
  })

abbrev pub configuring : List (List ℕ) → Result EventValue LineFault
configuring (moment ∷ senders ∷ others ∷ clocks ∷ items ∷ rate ∷ ntp ∷ []) = do
  now ← moment_in moment
  settings ← settings_in senders others clocks items rate ntp
  Ok (settings_given now settings)
configuring _ = Err Words

abbrev pub forgetting : List (List ℕ) → Result EventValue LineFault
forgetting (moment ∷ ssrc ∷ []) = do
  now ← moment_in moment
  source ← word_in ssrc
  Ok (forget_asked now source)
forgetting _ = Err Words

-- what the first field of a line names, of what a host seldom tells
abbrev pub seldom_named : List ℕ → Option LineKind
seldom_named name =
    if bytes_eq name (codes "configure") then Some Configured
    else (if bytes_eq name (codes "forget") then Some Forgotten
    else None)

-- what the first field of a line names
abbrev pub kind_named : List ℕ → Option LineKind
kind_named name =
    if bytes_eq name (codes "rtcp") then Some Rtcp
    else (if bytes_eq name (codes "rtp") then Some Rtp
    else (if bytes_eq name (codes "sent") then Some Sent
    else (if bytes_eq name (codes "tick") then Some Ticked
    else (if bytes_eq name (codes "leave") then Some Left
    else seldom_named name))))

-- by the kind of the line, with the fields after the first
abbrev pub event_with : Option LineKind → List (List ℕ) → Result EventValue LineFault
event_with None fields = Err Words
event_with (Some Rtcp) fields = arrival rtcp_arrived fields
event_with (Some Rtp) fields = arrival rtp_arrived fields
event_with (Some Sent) fields = sending fields
event_with (Some Ticked) fields = tick fields
event_with (Some Left) fields = leave fields
event_with (Some Configured) fields = configuring fields
event_with (Some Forgotten) fields = forgetting fields

abbrev pub event_of : List (List ℕ) → Result EventValue LineFault
event_of [] = Err Words
event_of (name ∷ fields) = event_with (kind_named name) fields

-- The event of a line, or the first fault of the line.
abbrev pub event_in : (line : List ℕ) → Result EventValue LineFault
event_in line = event_of (fields_of line)

-- ---- Events as lines

-- a datagram as a field: a hyphen where it is empty, else two lower-case digits an octet
abbrev pub datagram_text : List ℕ → List ℕ
datagram_text [] = codes "-"
datagram_text (octet ∷ octets) = encode_lower (octet ∷ octets)

-- fields with a space (32) between them
abbrev pub spaced : List (List ℕ) → List ℕ
spaced [] = []
spaced (field ∷ []) = field
spaced (field ∷ next ∷ others) = field ++ 32 ∷ spaced (next ∷ others)

abbrev pub arrival_fields : (moment peer word : ℕ) → List ℕ → List (List ℕ)
arrival_fields moment peer word octets = decimal moment ∷ decimal peer ∷ hex_word word ∷ datagram_text octets ∷ []

-- The fields of an event: numbers have no leading zeros, and hex digits are lower-case.
abbrev pub event_fields : EventValue → List (List ℕ)
event_fields (rtcp_arrived moment peer word octets) = codes "rtcp" ∷ arrival_fields moment peer word octets
event_fields (rtp_arrived moment peer word octets) = codes "rtp" ∷ arrival_fields moment peer word octets
event_fields (packet_sent moment timestamp octets) =
    codes "sent" ∷ decimal moment ∷ decimal timestamp ∷ decimal octets ∷ []
event_fields (time_passed moment first_word second_word) =
    codes "tick" ∷ decimal moment ∷ hex_word first_word ∷ hex_word second_word ∷ []
event_fields (leave_asked moment word) = codes "leave" ∷ decimal moment ∷ hex_word word ∷ []
event_fields (settings_given moment settings) = codes "configure" ∷ decimal moment ∷ settings_fields settings
event_fields (forget_asked moment ssrc) = codes "forget" ∷ decimal moment ∷ hex_word ssrc ∷ []

-- The line of an event, without its line feed.
abbrev pub event_text : EventValue → List ℕ
event_text event = spaced (event_fields event)

-- The numbers of an event are those of its call: 64 bits for moments, peers and NTP timestamps, 8 for types, 32 for the
-- rest.
abbrev pub IsCallable : EventValue → Type 0
IsCallable (rtcp_arrived moment peer word octets) =
    (moment < 2 ^ 64) × (peer < 2 ^ 64) × (word < 2 ^ 32) × IsBytes octets
IsCallable (rtp_arrived moment peer word octets) =
    (moment < 2 ^ 64) × (peer < 2 ^ 64) × (word < 2 ^ 32) × IsBytes octets
IsCallable (packet_sent moment timestamp octets) = (moment < 2 ^ 64) × (timestamp < 2 ^ 32) × (octets < 2 ^ 32)
IsCallable (time_passed moment first_word second_word) =
    (moment < 2 ^ 64) × (first_word < 2 ^ 32) × (second_word < 2 ^ 32)
IsCallable (leave_asked moment word) = (moment < 2 ^ 64) × (word < 2 ^ 32)
IsCallable (settings_given moment settings) = (moment < 2 ^ 64) × AreSettingsOfFields settings
IsCallable (forget_asked moment ssrc) = (moment < 2 ^ 64) × (ssrc < 2 ^ 32)

-- the octets of the datagram that an event brings
abbrev pub datagram_in_event : EventValue → List ℕ
datagram_in_event (rtcp_arrived moment peer word octets) = octets
datagram_in_event (rtp_arrived moment peer word octets) = octets
datagram_in_event (packet_sent moment timestamp octets) = []
datagram_in_event (time_passed moment first_word second_word) = []
datagram_in_event (leave_asked moment word) = []
datagram_in_event (settings_given moment settings) = []
datagram_in_event (forget_asked moment ssrc) = []
