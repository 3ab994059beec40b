-- The line of an event is read as that event.
use Rattle.std.proofs.Common.{option_map, ◌≡◌, ◌≢◌, ℕ, ◌+◌, ◌<◌, ◌≤◌, ◌^◌, ◌==◌, Bool, true, false, nat_lt, List, [], ◌∷◌, ◌++◌, length, All, if◌then◌else◌, Option, Some, None, Result, Ok, Err, codes, w32, w64, refl, sym, ap, subst, ◌∙◌, arith, lit<, lit≤, map, length-append, append_assoc}
use Rattle.std.specs.Fmt.{decimal}
use Rattle.std.specs.Int.{to_be_bytes, from_be_bytes}
use Rattle.std.specs.List.{flat_map, list_all}
use Rattle.std.specs.Option.{ok_or}
use Rattle.std.specs.Result.{result_ok}
use Rattle.std.specs.Str.{bytes_eq}
use Rattle.std.proofs.lemmas.Bool.{ltb-true}
use Rattle.std.proofs.lemmas.Fmt.{length-decimal-le}
use Rattle.std.proofs.lemmas.List.Elements.{All-weaker, All-cons, All-nil, All-append, All-head, All-tail}
use Rattle.std.proofs.lemmas.List.Sums.{AllPass-from_list_all}
use Rattle.hex.specs.Hex.{IsBytes, decode_of, decode_sized, lower_digits}
use Rattle.hex.specs.declared.error.FromHexError.{FromHexError}
use Rattle.hex.proofs.HexLemmas.{decode_of-ok, decode_sized-ok, decode_sized-twice, length-encode_with}
use Rattle.rtcp_engine.specs.answers.Acts.{EventValue, rtcp_arrived, rtp_arrived, packet_sent, time_passed, leave_asked, settings_given, forget_asked}
use Rattle.rtcp_text.specs.declared.event_line.LineKind.{LineKind}
use Rattle.rtcp_text.specs.declared.event_line.LineKind.TheVariants.{Rtcp, Rtp, Sent, Ticked, Left, Configured, Forgotten}
use Rattle.rtcp_text.specs.declared.fault.LineFault.{LineFault}
use Rattle.rtcp_text.specs.declared.fault.LineFault.TheVariants.{Hex, Number}
use Rattle.rtcp_text.specs.Numerals.{hex_in, datagram_in}
use Rattle.rtcp_text.specs.EventLines.{fields_of, event_in, event_of, event_text, arrival_fields, event_fields, spaced, datagram_text, moment_in, peer_in, short_in, word_in, octets_in, arrival, sending, tick, leave, configuring, forgetting, settings_in, kind_named, event_with, datagram_in_event, IsCallable}
use Rattle.rtcp_text.specs.Lines.{lines_of, HasNoLineFeed}
use Rattle.rtcp_text.specs.SettingsFields.{clocks_text, items_text}
use Rattle.rtcp_text.specs.Text.{hex_word, hex_long}
use Rattle.rtcp_text.proofs.FieldTextLemmas.{IsField, EachIsField, fields_of-spaced, decimal_field, decimal_read_back, word_read_back, word_field, datagram_read_back, datagram_field, bind_ok, ok_inside, read_below}
use Rattle.rtcp_text.proofs.SettingsLemmas.{settings_read, settings_are, clocks_short, items_short, settings_callable}
use Rattle.rtcp_text.proofs.LinesLemmas.{lines_of-line}

-- ---- Lines are read back

moment_read : (n : ℕ) → n < 2 ^ 64 → moment_in (decimal n) ≡ Ok n
moment_read n small = ap (λ o. ok_or o Number) (decimal_read_back 64 n small small)

short_read : (n : ℕ) → n < 2 ^ 32 → short_in (decimal n) ≡ Ok n
short_read n small = ap (λ o. ok_or o Number) (decimal_read_back 32 n (omega arith) small)

word_read : (n : ℕ) → n < 2 ^ 32 → word_in (hex_word n) ≡ Ok n
word_read n small = ap (λ o. ok_or o Hex) (word_read_back n small)

octets_read : (octets : List ℕ) → IsBytes octets → octets_in (datagram_text octets) ≡ Ok octets
octets_read octets bytes = ap (λ o. ok_or o Hex) (datagram_read_back octets bytes)

arrival_read : (arrived : (moment peer word : ℕ) → List ℕ → EventValue) (moment peer word : ℕ) (octets : List ℕ)
    → moment < 2 ^ 64 → peer < 2 ^ 64 → word < 2 ^ 32 → IsBytes octets
    → arrival arrived (arrival_fields moment peer word octets) ≡ Ok (arrived moment peer word octets)
arrival_read arrived moment peer word octets now from small bytes =
    rw (moment_read moment now, moment_read peer from, word_read word small, octets_read octets bytes) refl

-- ---- Each field is one

arrival_are : (moment peer word : ℕ) (octets : List ℕ) → moment < 2 ^ 64 → peer < 2 ^ 64 → IsBytes octets
    → EachIsField (arrival_fields moment peer word octets)
arrival_are moment peer word octets now from bytes =
    (decimal_field moment now, (decimal_field peer from, (word_field word, (datagram_field octets bytes, tt))))

name_field : (name : List ℕ) → list_all (λ octet. nat_lt 32 octet) name ≡ true → IsField name
name_field name h = All-weaker (λ octet. nat_lt 32 octet ≡ true) (λ octet. 32 < octet) (ltb-true 32) name
    (AllPass-from_list_all (nat_lt 32) name h)

event_are : (event : EventValue) → IsCallable event → EachIsField (event_fields event)
event_are (rtcp_arrived moment peer word octets) h =
    (name_field (codes "rtcp") refl, arrival_are moment peer word octets h.0 h.1 h.3)
event_are (rtp_arrived moment peer word octets) h =
    (name_field (codes "rtp") refl, arrival_are moment peer word octets h.0 h.1 h.3)
event_are (packet_sent moment timestamp octets) h = (
  name_field (codes "sent") refl,
  (
    decimal_field moment h.0,
    (decimal_field timestamp (omega (arith, h.1)), (decimal_field octets (omega (arith, h.2)), tt)),
  ),
)
event_are (time_passed moment first second) h =
    (name_field (codes "tick") refl, (decimal_field moment h.0, (word_field first, (word_field second, tt))))
event_are (leave_asked moment word) h =
    (name_field (codes "leave") refl, (decimal_field moment h.0, (word_field word, tt)))
event_are (settings_given moment settings) h =
    (name_field (codes "configure") refl, (decimal_field moment h.0, settings_are settings h.1))
event_are (forget_asked moment ssrc) h =
    (name_field (codes "forget") refl, (decimal_field moment h.0, (word_field ssrc, tt)))

-- ---- Lines are read back

fields_read : (event : EventValue) → IsCallable event → event_of (event_fields event) ≡ Ok event
fields_read (rtcp_arrived moment peer word octets) h = arrival_read rtcp_arrived moment peer word octets h.0 h.1 h.2 h.3
fields_read (rtp_arrived moment peer word octets) h = arrival_read rtp_arrived moment peer word octets h.0 h.1 h.2 h.3
fields_read (packet_sent moment timestamp octets) h =
    rw (moment_read moment h.0, short_read timestamp h.1, short_read octets h.2) refl
fields_read (time_passed moment first second) h =
    rw (moment_read moment h.0, word_read first h.1, word_read second h.2) refl
fields_read (leave_asked moment word) h = rw (moment_read moment h.0, word_read word h.1) refl
fields_read (settings_given moment settings) h = rw (moment_read moment h.0, settings_read settings h.1) refl
fields_read (forget_asked moment ssrc) h = rw (moment_read moment h.0, word_read ssrc h.1) refl

fields_of_event : (event : EventValue) → EachIsField (event_fields event) → fields_of (event_text event)
    ≡ event_fields event
fields_of_event (rtcp_arrived moment peer word octets) h = fields_of-spaced _ _ h
fields_of_event event h = fields_of-spaced _ _ h

pub read_back : (event : EventValue) → IsCallable event → event_in (event_text event) ≡ Ok event
read_back event h = ap event_of (fields_of_event event (event_are event h)) ∙ fields_read event h

-- ---- One line, and not too long

no_feed : (octet : ℕ) → 32 < octet → octet ≢ 10
no_feed octet above same = omega arith

spaced_line : (fields : List (List ℕ)) → EachIsField fields → HasNoLineFeed (spaced fields)
spaced_line [] h = All-nil (λ octet. octet ≢ 10)
spaced_line (field ∷ []) h = All-weaker (λ octet. 32 < octet) (λ octet. octet ≢ 10) no_feed field h.0
spaced_line (field ∷ next ∷ others) h =
    All-append (λ octet. octet ≢ 10) field (32 ∷ spaced (next ∷ others))
    (All-weaker (λ octet. 32 < octet) (λ octet. octet ≢ 10) no_feed field h.0)
    (All-cons (λ octet. octet ≢ 10) 32 (spaced (next ∷ others)) (λ same. omega arith) (spaced_line (next ∷ others) h.1))

pub one_line : (event : EventValue) → IsCallable event → HasNoLineFeed (event_text event)
one_line event h = spaced_line (event_fields event) (event_are event h)

-- so many octets at most, with the spaces
record IsShort (most : ℕ) (fields : List (List ℕ)) : Type 0 where
  short : length (spaced fields) ≤ most

last_short : (most : ℕ) (field : List ℕ) → length field ≤ most → IsShort most (field ∷ [])
last_short most field h = record { short = h }

longer : (most more : ℕ) (field next : List ℕ) (others : List (List ℕ)) → length field ≤ more
    → IsShort most (next ∷ others)
    → IsShort (more + 1 + most) (field ∷ next ∷ others)
longer most more field next others h k = record {
  short = omega (arith, h, k.short, length-append field (32 ∷ spaced (next ∷ others)));
}

decimal_short : (n : ℕ) → n < 2 ^ 64 → length (decimal n) ≤ 20
decimal_short n small = length-decimal-le 20 n (lit< tt) (omega (arith, small)) small

word_short : (n : ℕ) → length (hex_word n) ≤ 8
word_short n = omega (arith, length-encode_with lower_digits (to_be_bytes w32 n))

long_short : (n : ℕ) → length (hex_long n) ≤ 16
long_short n = omega (arith, length-encode_with lower_digits (to_be_bytes w64 n))

datagram_short : (octets : List ℕ) → length octets ≤ 65535 → length (datagram_text octets) ≤ 131070
datagram_short [] h = lit< tt
datagram_short (octet ∷ octets) h = omega (arith, h, length-encode_with lower_digits (octet ∷ octets))

arrival_short : (moment peer word : ℕ) (octets : List ℕ) → moment < 2 ^ 64 → peer < 2 ^ 64 → length octets ≤ 65535
    → IsShort 131121 (arrival_fields moment peer word octets)
arrival_short moment peer word octets now from few =
    longer 131100 20 (decimal moment) (decimal peer) _ (decimal_short moment now)
    (longer 131079 20 (decimal peer) (hex_word word) _ (decimal_short peer from)
    (longer 131070 8 (hex_word word) (datagram_text octets) _ (word_short word)
    (last_short 131070 (datagram_text octets) (datagram_short octets few))))

within : (most : ℕ) (fields : List (List ℕ)) → most ≤ 131200 → IsShort most fields → length (spaced fields) ≤ 131200
within most fields le h = omega (arith, h.short)

pub short_line : (event : EventValue) → IsCallable event → length (datagram_in_event event) ≤ 65535
    → length (event_text event) ≤ 131200
short_line (rtcp_arrived moment peer word octets) h few = within 131126 _ (lit≤ tt)
    (longer 131121 4 (codes "rtcp") _ _ (lit< tt) (arrival_short moment peer word octets h.0 h.1 few))
short_line (rtp_arrived moment peer word octets) h few = within 131125 _ (lit≤ tt)
    (longer 131121 3 (codes "rtp") _ _ (lit< tt) (arrival_short moment peer word octets h.0 h.1 few))
short_line (packet_sent moment timestamp octets) h few = within 67 _ (lit≤ tt)
    (longer 62 4 (codes "sent") _ _ (lit< tt)
    (longer 41 20 (decimal moment) (decimal timestamp) _ (decimal_short moment h.0)
    (longer 20 20 (decimal timestamp) (decimal octets) _ (decimal_short timestamp (omega (arith, h.1)))
    (last_short 20 (decimal octets) (decimal_short octets (omega (arith, h.2)))))))
short_line (time_passed moment first second) h few = within 43 _ (lit≤ tt)
    (longer 38 4 (codes "tick") _ _ (lit< tt)
    (longer 17 20 (decimal moment) (hex_word first) _ (decimal_short moment h.0)
    (longer 8 8 (hex_word first) (hex_word second) _ (word_short first)
    (last_short 8 (hex_word second) (word_short second)))))
short_line (leave_asked moment word) h few = within 35 _ (lit≤ tt)
    (longer 29 5 (codes "leave") _ _ (lit< tt)
    (longer 8 20 (decimal moment) (hex_word word) _ (decimal_short moment h.0)
    (last_short 8 (hex_word word) (word_short word))))
short_line (settings_given moment settings) h few = within 4510 _ (lit≤ tt)
    (longer 4500 9 (codes "configure") _ _ (lit< tt)
    (longer 4479 20 (decimal moment) (decimal settings.sender_bw) _ (decimal_short moment h.0)
    (longer 4458 20 (decimal settings.sender_bw) (decimal settings.receiver_bw) _
    (decimal_short settings.sender_bw (omega (arith, h.1.for_senders)))
    (longer 4437 20 (decimal settings.receiver_bw) (clocks_text settings.clocks) _
    (decimal_short settings.receiver_bw (omega (arith, h.1.for_others)))
    (longer 3763 673 (clocks_text settings.clocks) (items_text settings.extras) _ (clocks_short settings h.1)
    (longer 37 3725 (items_text settings.extras) (decimal settings.rate) _ (items_short settings h.1)
    (longer 16 20 (decimal settings.rate) (hex_long settings.ntp_base) _
    (decimal_short settings.rate (omega (arith, h.1.rate)))
    (last_short 16 (hex_long settings.ntp_base) (long_short settings.ntp_base)))))))))
short_line (forget_asked moment ssrc) h few = within 36 _ (lit≤ tt)
    (longer 29 6 (codes "forget") _ _ (lit< tt)
    (longer 8 20 (decimal moment) (hex_word ssrc) _ (decimal_short moment h.0)
    (last_short 8 (hex_word ssrc) (word_short ssrc))))

-- ---- A record

pub record_read : (events : List EventValue) → All IsCallable events
    → map event_in (lines_of (flat_map (λ event. event_text event ++ 10 ∷ []) events)) ≡ map Ok events
record_read [] h = refl
record_read (event ∷ events) h =
    let rest : List ℕ = flat_map (λ e. event_text e ++ 10 ∷ []) events in
    let its = All-head IsCallable event events h in
    ap (λ octets. map event_in (lines_of octets)) (append_assoc (event_text event) (10 ∷ []) rest)
    ∙ ap (λ lines. map event_in lines) (lines_of-line (event_text event) rest (one_line event its))
    ∙ ap (λ first. first ∷ map event_in (lines_of rest)) (read_back event its)
    ∙ ap (λ others. Ok event ∷ others) (record_read events (All-tail IsCallable event events h))

-- ---- What is read can be told

read_word : (text : List ℕ) (fault : LineFault) (n : ℕ) → ok_or (hex_in w32 text) fault ≡ Ok n → n < 2 ^ 32
read_word text fault n h = go (decode_sized text 4) refl h
  where
    go : (r : Result (List ℕ) FromHexError) → decode_sized text 4 ≡ r
        → ok_or (option_map (from_be_bytes w32) (result_ok r)) fault ≡ Ok n → n < 2 ^ 32
    go (Ok bytes) is same =
        let long = decode_sized-ok text 4 bytes is in
        let b = (decode_of-ok text bytes (sym (decode_sized-twice text 4 long) ∙ is)).3 in
        omega (arith, ok_inside (from_be_bytes w32 bytes) n same, b 0, b 1, b 2, b 3)
    go (Err e) is same = cc same

read_octets : (text : List ℕ) (fault : LineFault) (octets : List ℕ) → ok_or (datagram_in text) fault ≡ Ok octets
    → IsBytes octets
read_octets text fault octets h = hyphen (bytes_eq text (codes "-")) h
  where
    decoded : (r : Result (List ℕ) FromHexError) → decode_of text ≡ r → ok_or (result_ok r) fault ≡ Ok octets
        → IsBytes octets
    decoded (Ok bytes) is same = subst IsBytes (ok_inside bytes octets same) (decode_of-ok text bytes is).3
    decoded (Err e) is same = cc same

    empty : (b : Bool) → ok_or (if b then None else result_ok (decode_of text)) fault ≡ Ok octets → IsBytes octets
    empty true same = cc same
    empty false same = decoded (decode_of text) refl same

    hyphen : (b : Bool) → ok_or
        (if b then Some [] else (if length text == 0 then None else result_ok (decode_of text))) fault ≡ Ok octets
        → IsBytes octets
    hyphen true same = subst IsBytes (ok_inside [] octets same) (λ i. lit< tt)
    hyphen false same = empty (length text == 0) same

abbrev Arrives : ((moment peer word : ℕ) → List ℕ → EventValue) → Type 0
Arrives arrived = (moment peer word : ℕ) (octets : List ℕ) → moment < 2 ^ 64 → peer < 2 ^ 64 → word < 2 ^ 32
    → IsBytes octets
    → IsCallable (arrived moment peer word octets)

arrival_callable : (arrived : (moment peer word : ℕ) → List ℕ → EventValue) → Arrives arrived
    → (fields : List (List ℕ)) (event : EventValue) → arrival arrived fields ≡ Ok event → IsCallable event
arrival_callable arrived each (a ∷ b ∷ c ∷ d ∷ []) event h =
    let moment = bind_ok (moment_in a) _ event h in
    let peer = bind_ok (peer_in b) _ event moment.2 in
    let word = bind_ok (word_in c) _ event peer.2 in
    let octets = bind_ok (octets_in d) _ event word.2 in
    subst IsCallable (ok_inside (arrived moment.0 peer.0 word.0 octets.0) event octets.2)
    (each moment.0 peer.0 word.0 octets.0 (read_below 64 a Number moment.0 moment.1)
    (read_below 64 b Number peer.0 peer.1)
    (read_word c Hex word.0 word.1) (read_octets d Hex octets.0 octets.1))
arrival_callable arrived each fields event h = cc h

sending_callable : (fields : List (List ℕ)) (event : EventValue) → sending fields ≡ Ok event → IsCallable event
sending_callable (a ∷ b ∷ c ∷ []) event h =
    let moment = bind_ok (moment_in a) _ event h in
    let timestamp = bind_ok (short_in b) _ event moment.2 in
    let octets = bind_ok (short_in c) _ event timestamp.2 in
    subst IsCallable (ok_inside (packet_sent moment.0 timestamp.0 octets.0) event octets.2) (
      read_below 64 a Number moment.0 moment.1,
      read_below 32 b Number timestamp.0 timestamp.1,
      read_below 32 c Number octets.0 octets.1,
    )
sending_callable fields event h = cc h

tick_callable : (fields : List (List ℕ)) (event : EventValue) → tick fields ≡ Ok event → IsCallable event
tick_callable (a ∷ b ∷ c ∷ []) event h =
    let moment = bind_ok (moment_in a) _ event h in
    let first = bind_ok (word_in b) _ event moment.2 in
    let second = bind_ok (word_in c) _ event first.2 in
    subst IsCallable (ok_inside (time_passed moment.0 first.0 second.0) event second.2)
    (read_below 64 a Number moment.0 moment.1, read_word b Hex first.0 first.1, read_word c Hex second.0 second.1)
tick_callable fields event h = cc h

leave_callable : (fields : List (List ℕ)) (event : EventValue) → leave fields ≡ Ok event → IsCallable event
leave_callable (a ∷ b ∷ []) event h =
    let moment = bind_ok (moment_in a) _ event h in
    let word = bind_ok (word_in b) _ event moment.2 in
    subst IsCallable (ok_inside (leave_asked moment.0 word.0) event word.2)
    (read_below 64 a Number moment.0 moment.1, read_word b Hex word.0 word.1)
leave_callable fields event h = cc h

configuring_callable : (fields : List (List ℕ)) (event : EventValue) → configuring fields ≡ Ok event → IsCallable event
configuring_callable (a ∷ b ∷ c ∷ d ∷ e ∷ f ∷ g ∷ []) event h =
    let moment = bind_ok (moment_in a) _ event h in
    let settings = bind_ok (settings_in b c d e f g) _ event moment.2 in
    subst IsCallable (ok_inside (settings_given moment.0 settings.0) event settings.2)
    (read_below 64 a Number moment.0 moment.1, settings_callable b c d e f g settings.0 settings.1)
configuring_callable fields event h = cc h

forgetting_callable : (fields : List (List ℕ)) (event : EventValue) → forgetting fields ≡ Ok event → IsCallable event
forgetting_callable (a ∷ b ∷ []) event h =
    let moment = bind_ok (moment_in a) _ event h in
    let ssrc = bind_ok (word_in b) _ event moment.2 in
    subst IsCallable (ok_inside (forget_asked moment.0 ssrc.0) event ssrc.2)
    (read_below 64 a Number moment.0 moment.1, read_word b Hex ssrc.0 ssrc.1)
forgetting_callable fields event h = cc h

kind_callable : (kind : Option LineKind) (fields : List (List ℕ)) (event : EventValue) → event_with kind fields
    ≡ Ok event → IsCallable event
kind_callable None fields event h = cc h
kind_callable (Some Rtcp) fields event h =
    arrival_callable rtcp_arrived (λ moment peer word octets a b c d. (a, b, c, d)) fields event h
kind_callable (Some Rtp) fields event h =
    arrival_callable rtp_arrived (λ moment peer word octets a b c d. (a, b, c, d)) fields event h
kind_callable (Some Sent) fields event h = sending_callable fields event h
kind_callable (Some Ticked) fields event h = tick_callable fields event h
kind_callable (Some Left) fields event h = leave_callable fields event h
kind_callable (Some Configured) fields event h = configuring_callable fields event h
kind_callable (Some Forgotten) fields event h = forgetting_callable fields event h

fields_callable : (fields : List (List ℕ)) (event : EventValue) → event_of fields ≡ Ok event → IsCallable event
fields_callable [] event h = cc h
fields_callable (name ∷ fields) event h = kind_callable (kind_named name) fields event h

pub callable : (line : List ℕ) (event : EventValue) → event_in line ≡ Ok event → IsCallable event
callable line event h = fields_callable (fields_of line) event h
