-- The settings of a line are read back, and what is read can be told.
use Rattle.std.proofs.Common.{◌≡◌, ◌≢◌, ℕ, ◌+◌, ◌*◌, ◌<◌, ◌≤◌, ◌^◌, ◌==◌, Bool, true, false, nat_le, List, [], ◌∷◌, ◌++◌, length, map, All, if◌then◌else◌, Option, Some, None, option_map, option_and_then, Result, Ok, Err, codes, w64, refl, sym, ap, subst, ◌∙◌, arith, lit<, length-append}
use Rattle.std.specs.Fmt.{decimal}
use Rattle.std.specs.Int.{from_be_bytes}
use Rattle.std.specs.List.{join_with_byte}
use Rattle.std.specs.Option.{ok_or}
use Rattle.std.specs.Result.{result_ok}
use Rattle.std.specs.Str.{bytes_eq}
use Rattle.std.specs.Str.Parse.{AllDigits}
use Rattle.std.proofs.lemmas.Bool.{false_from_ne_true, le-leb, leb-true}
use Rattle.std.proofs.lemmas.Bool.Decides.{nat_tests}
use Rattle.std.proofs.lemmas.Fmt.{decimal_is_IsNumeral, length-decimal-le}
use Rattle.std.proofs.lemmas.List.Elements.{All-weaker, All-cons, All-nil, All-append, All-head, All-tail}
use Rattle.std.proofs.lemmas.List.Splits.{slice_split_at, slice_split_none}
use Rattle.std.proofs.lemmas.Slice.Eq.{bytes_eq-Decides}
use Rattle.std.proofs.lemmas.Str.Parse.{digit_from_value}
use Rattle.hex.specs.Hex.{IsBytes, decode_of, decode_sized, encode_lower, is_hex_digit, lower_digits}
use Rattle.hex.specs.declared.error.FromHexError.{FromHexError}
use Rattle.hex.proofs.HexLemmas.{decode_of-encode_lower, decode_of-ok, decode_sized-ok, decode_sized-twice, length-encode_with}
use Rattle.rtcp_wire.specs.Values.{ItemValue}
use Rattle.rtcp_engine.specs.answers.Setups.{ClockValue, SettingsValue}
use Rattle.rtcp_text.specs.declared.fault.LineFault.{LineFault}
use Rattle.rtcp_text.specs.declared.fault.LineFault.TheVariants.{Hex, Number}
use Rattle.rtcp_text.specs.EventLines.{long_in, settings_in, short_in}
use Rattle.rtcp_text.specs.Numerals.{decimal_in, hex_in, hex_text_in}
use Rattle.rtcp_text.specs.SettingsFields.{parts_at, each_in, few_in, list_in, two_in, sides_in, clock_from, clock_in, clocks_in, item_from, item_in, items_in, list_text, clock_text, clocks_text, given_item_text, items_text, settings_fields, IsClockOfFields, IsItemOfFields, AreSettingsOfFields}
use Rattle.rtcp_text.specs.Text.{hex_long}
use Rattle.rtcp_text.proofs.FieldTextLemmas.{IsField, EachIsField, decimal_field, decimal_read_back, long_field, long_read_back, bind_ok, ok_inside, read_below}

-- ---- Octets that separate nothing

-- Digits lie above a comma (44), and are no colon (58).
abbrev pub IsPlain : List ℕ → Type 0
IsPlain text = All (λ octet. (44 < octet) × (octet ≢ 58)) text

no_colon : (octet : ℕ) → (44 < octet) × (octet ≢ 58) → (octet == 58) ≡ false
no_colon octet plain = grind (arith, nat_tests, plain.1)

no_comma : (octet : ℕ) → 44 < octet → (octet == 44) ≡ false
no_comma octet above = grind (arith, nat_tests, above)

digits_plain : (text : List ℕ) → AllDigits 10 text → IsPlain text
digits_plain [] all = All-nil (λ octet. (44 < octet) × (octet ≢ 58))
digits_plain (digit ∷ digits) all =
    let range = digit_from_value digit all.0 in
    All-cons (λ octet. (44 < octet) × (octet ≢ 58)) digit digits
    (omega (arith, range), λ same. omega (arith, range, same)) (digits_plain digits all.1)

decimal_plain : (n : ℕ) → n < 2 ^ 64 → IsPlain (decimal n)
decimal_plain n small = digits_plain (decimal n) (decimal_is_IsNumeral n small).0.1

hex_digit_plain : (octet : ℕ) → is_hex_digit octet ≡ true → (44 < octet) × (octet ≢ 58)
hex_digit_plain octet h = (grind (arith, nat_tests, h), λ same. grind (arith, nat_tests, h, same))

hex_plain : (octets : List ℕ) → IsBytes octets → IsPlain (encode_lower octets)
hex_plain octets bytes =
    All-weaker (λ octet. is_hex_digit octet ≡ true) (λ octet. (44 < octet) × (octet ≢ 58)) hex_digit_plain
    (encode_lower octets) (decode_of-ok (encode_lower octets) octets (decode_of-encode_lower octets bytes)).1

-- ---- The two sides of a colon

abbrev sides_text : (first second : List ℕ) → List ℕ
sides_text first second = first ++ 58 ∷ second

without_colons : (text : List ℕ) → IsPlain text → All (λ octet. (octet == 58) ≡ false) text
without_colons text h =
    All-weaker (λ octet. (44 < octet) × (octet ≢ 58)) (λ octet. (octet == 58) ≡ false) no_colon text h

sides_read : (first second : List ℕ) → IsPlain first → IsPlain second
    → sides_in (sides_text first second) ≡ Some (first, second)
sides_read first second one other =
    ap two_in (slice_split_at (λ octet. octet == 58) first 58 second (without_colons first one) refl
    ∙ ap (λ (parts : List (List ℕ)). first ∷ parts)
    (slice_split_none (λ octet. octet == 58) second (without_colons second other)))

-- What stands between commas: octets above a comma, at least two.
record IsListed (text : List ℕ) : Type 0 where
  above : All (λ octet. 44 < octet) text
  long : 2 ≤ length text

plain_above : (text : List ℕ) → IsPlain text → All (λ octet. 44 < octet) text
plain_above text h = All-weaker (λ octet. (44 < octet) × (octet ≢ 58)) (λ octet. 44 < octet) (λ octet plain. plain.0)
    text h

sides_listed : (first second : List ℕ) → IsPlain first → IsPlain second → 1 ≤ length first
    → IsListed (sides_text first second)
sides_listed first second one other some = record {
  above = All-append (λ octet. 44 < octet) first (58 ∷ second) (plain_above first one)
      (All-cons (λ octet. 44 < octet) 58 second (lit< tt) (plain_above second other));
  long = omega (arith, some, length-append first (58 ∷ second));
}

-- ---- Lists

module _ {A : Type 0} (read : List ℕ → Option A) (text : A → List ℕ) (P : A → Type 0)
    (each : (value : A) → P value → read (text value) ≡ Some value)
    (listed : (value : A) → P value → IsListed (text value)) where
  parts_read : (value : A) (values : List A) → All P (value ∷ values)
      → parts_at 44 (join_with_byte 44 (map text (value ∷ values))) ≡ map text (value ∷ values)
  parts_read value values h = go value values h
    where
      lacks : (v : A) → P v → All (λ octet. (octet == 44) ≡ false) (text v)
      lacks v p = All-weaker (λ octet. 44 < octet) (λ octet. (octet == 44) ≡ false) no_comma (text v) (listed v p).above

      go : (v : A) (vs : List A) → All P (v ∷ vs)
          → parts_at 44 (join_with_byte 44 (map text (v ∷ vs))) ≡ map text (v ∷ vs)
      go v [] k = slice_split_none (λ octet. octet == 44) (text v) (lacks v (All-head P v [] k))
      go v (next ∷ vs) k =
          slice_split_at (λ octet. octet == 44) (text v) 44 (join_with_byte 44 (map text (next ∷ vs)))
          (lacks v (All-head P v (next ∷ vs) k)) refl
          ∙ ap (λ (parts : List (List ℕ)). text v ∷ parts) (go next vs (All-tail P v (next ∷ vs) k))

  each_read : (values : List A) → All P values → each_in read (map text values) ≡ Some values
  each_read [] h = refl
  each_read (value ∷ values) h =
      rw (each value (All-head P value values h), each_read values (All-tail P value values h)) refl

  texts_many : (values : List A) → length (map text values) ≡ length values
  texts_many [] = refl
  texts_many (value ∷ values) = omega (arith, texts_many values)

  first_long : (value : A) (values : List A) → length (text value)
      ≤ length (join_with_byte 44 (map text (value ∷ values)))
  first_long value [] = omega arith
  first_long value (next ∷ values) =
      omega (arith, length-append (text value) (44 ∷ join_with_byte 44 (map text (next ∷ values))))

  list_read : (most : ℕ) (values : List A) → length values ≤ most → All P values
      → list_in most read (list_text text values) ≡ Some values
  list_read most [] few h = refl
  list_read most (value ∷ values) few h =
      let joined : List ℕ = join_with_byte 44 (map text (value ∷ values)) in
      let no_hyphen : bytes_eq joined (codes "-") ≡ false =
      false_from_ne_true (bytes_eq joined (codes "-")) (λ yes. omega (
        arith,
        first_long value values,
        (listed value (All-head P value values h)).long,
        ap length ((bytes_eq-Decides joined (codes "-")).0 yes),
      )) in
      let within : nat_le (length (map text (value ∷ values))) most ≡ true =
      le-leb (length (map text (value ∷ values))) most (omega (arith, few, texts_many (value ∷ values))) in
      ap (λ b. if b then Some [] else few_in most read (parts_at 44 joined)) no_hyphen
      ∙ ap (few_in most read) (parts_read value values h)
      ∙ ap (λ b. if b then each_in read (map text (value ∷ values)) else None) within
      ∙ each_read (value ∷ values) h

  above_field : (texts : List ℕ) → All (λ octet. 44 < octet) texts → IsField texts
  above_field texts h = All-weaker (λ octet. 44 < octet) (λ octet. 32 < octet) (λ octet above. omega (arith, above))
      texts h

  list_field : (values : List A) → All P values → IsField (list_text text values)
  list_field [] h = All-cons (λ octet. 32 < octet) 45 [] (lit< tt) (All-nil (λ octet. 32 < octet))
  list_field (value ∷ []) h = above_field (text value) (listed value (All-head P value [] h)).above
  list_field (value ∷ next ∷ values) h =
      All-append (λ octet. 32 < octet) (text value) (44 ∷ join_with_byte 44 (map text (next ∷ values)))
      (above_field (text value) (listed value (All-head P value (next ∷ values) h)).above)
      (All-cons (λ octet. 32 < octet) 44 (join_with_byte 44 (map text (next ∷ values))) (lit< tt)
      (list_field (next ∷ values) (All-tail P value (next ∷ values) h)))

  -- each text and its comma
  list_short : (most : ℕ) → ((value : A) → P value → length (text value) ≤ most) → (values : List A)
      → All P values → length (list_text text values) ≤ 1 + (most + 1) * length values
  list_short most short [] h = omega arith
  list_short most short (value ∷ []) h = omega (arith, short value (All-head P value [] h))
  list_short most short (value ∷ next ∷ values) h =
      omega (
        arith,
        short value (All-head P value (next ∷ values) h),
        list_short most short (next ∷ values) (All-tail P value (next ∷ values) h),
        length-append (text value) (44 ∷ join_with_byte 44 (map text (next ∷ values))),
      )

-- ---- What is read

some_first : {A B : Type 0} (o : Option A) (f : A → Option B) (y : B) → option_and_then f o ≡ Some y
    → (x : A) × (o ≡ Some x) × (f x ≡ Some y)
some_first None f y h = cc h
some_first (Some x) f y h = (x, refl, h)

some_mapped : {A B : Type 0} (o : Option A) (f : A → B) (y : B) → option_map f o ≡ Some y
    → (x : A) × (o ≡ Some x) × (f x ≡ y)
some_mapped None f y h = cc h
some_mapped (Some x) f y h = (x, refl, cc h)

module _ {A : Type 0} (read : List ℕ → Option A) (P : A → Type 0)
    (each : (part : List ℕ) (value : A) → read part ≡ Some value → P value) where
  each_are : (parts : List (List ℕ)) (values : List A) → each_in read parts ≡ Some values
      → (length values ≡ length parts) × All P values
  each_are [] values h = subst (λ (vs : List A). (length vs ≡ 0) × All P vs) (inside [] values h) (refl, All-nil P)
    where
      inside : (xs ys : List A) → ◌≡◌ {A = Option (List A)} (Some xs) (Some ys) → xs ≡ ys
      inside xs ys same = cc same
  each_are (part ∷ parts) values h =
      let first = some_first (read part) (λ x. option_map (λ others. x ∷ others) (each_in read parts)) values h in
      let others = some_mapped (each_in read parts) (λ rest. first.0 ∷ rest) values first.2 in
      let rest = each_are parts others.0 others.1 in
      subst (λ (vs : List A). (length vs ≡ length (part ∷ parts)) × All P vs) others.2
      (omega (arith, rest.0), All-cons P first.0 others.0 (each part first.0 first.1) rest.1)

  few_are : (most : ℕ) (parts : List (List ℕ)) (values : List A) → few_in most read parts ≡ Some values
      → (length values ≤ most) × All P values
  few_are most parts values h = go (nat_le (length parts) most) refl h
    where
      go : (b : Bool) → nat_le (length parts) most ≡ b → (if b then each_in read parts else None) ≡ Some values
          → (length values ≤ most) × All P values
      go true few is =
          let are = each_are parts values is in
          (omega (arith, are.0, leb-true (length parts) most few), are.1)
      go false few is = cc is

  list_are : (most : ℕ) (field : List ℕ) (values : List A) → list_in most read field ≡ Some values
      → (length values ≤ most) × All P values
  list_are most field values h = go (bytes_eq field (codes "-")) h
    where
      inside : (xs ys : List A) → ◌≡◌ {A = Option (List A)} (Some xs) (Some ys) → xs ≡ ys
      inside xs ys same = cc same

      go : (b : Bool) → (if b then Some [] else few_in most read (parts_at 44 field)) ≡ Some values
          → (length values ≤ most) × All P values
      go true is = subst (λ (vs : List A). (length vs ≤ most) × All P vs) (inside [] values is) (omega arith, All-nil P)
      go false is = few_are most (parts_at 44 field) values is

number_below : (bits : ℕ) (text : List ℕ) (n : ℕ) → decimal_in bits text ≡ Some n → n < 2 ^ bits
number_below bits text n h = read_below bits text Number n (ap (λ o. ok_or o Number) h)

-- ---- Clocks

clock_read : (clock : ClockValue) → IsClockOfFields clock → clock_in (clock_text clock) ≡ Some clock
clock_read clock h =
    ap (option_and_then clock_from) (sides_read (decimal clock.payload_type) (decimal clock.rate)
    (decimal_plain clock.payload_type (omega (arith, h.0))) (decimal_plain clock.rate (omega (arith, h.1))))
    ∙ rw (
      decimal_read_back 8 clock.payload_type (omega (arith, h.0)) h.0,
      decimal_read_back 32 clock.rate (omega (arith, h.1)) h.1,
    ) refl

clock_listed : (clock : ClockValue) → IsClockOfFields clock → IsListed (clock_text clock)
clock_listed clock h =
    let small : clock.payload_type < 2 ^ 64 = omega (arith, h.0) in
    sides_listed (decimal clock.payload_type) (decimal clock.rate) (decimal_plain clock.payload_type small)
    (decimal_plain clock.rate (omega (arith, h.1))) (omega (arith, (decimal_is_IsNumeral clock.payload_type small).0.0))

decimal_short : (n : ℕ) → n < 2 ^ 64 → length (decimal n) ≤ 20
decimal_short n small = length-decimal-le 20 n (lit< tt) (omega (arith, small)) small

clock_short : (clock : ClockValue) → IsClockOfFields clock → length (clock_text clock) ≤ 41
clock_short clock h =
    omega (
      arith,
      decimal_short clock.payload_type (omega (arith, h.0)),
      decimal_short clock.rate (omega (arith, h.1)),
      length-append (decimal clock.payload_type) (58 ∷ decimal clock.rate),
    )

clock_is : (part : List ℕ) (clock : ClockValue) → clock_in part ≡ Some clock → IsClockOfFields clock
clock_is part clock h =
    let sides = some_first (sides_in part) clock_from clock h in
    let payload_type = some_first (decimal_in 8 sides.0.0)
    (λ n. option_map (λ (r : ℕ). record { payload_type = n; rate = r }) (decimal_in 32 sides.0.1)) clock sides.2 in
    let rate = some_mapped (decimal_in 32 sides.0.1) (λ (r : ℕ). record { payload_type = payload_type.0; rate = r })
    clock
    payload_type.2 in
    subst IsClockOfFields rate.2
    (number_below 8 sides.0.0 payload_type.0 payload_type.1, number_below 32 sides.0.1 rate.0 rate.1)

-- ---- Items

hex_text_read : (octets : List ℕ) → length octets ≤ 255 → IsBytes octets →
    hex_text_in (encode_lower octets) ≡ Some octets
hex_text_read octets few bytes =
    let short : nat_le (length (encode_lower octets)) 510 ≡ true =
    le-leb (length (encode_lower octets)) 510 (omega (arith, few, length-encode_with lower_digits octets)) in
    ap (λ b. if b then result_ok (decode_of (encode_lower octets)) else None) short
    ∙ ap result_ok (decode_of-encode_lower octets bytes)

item_read : (item : ItemValue) → IsItemOfFields item → item_in (given_item_text item) ≡ Some item
item_read item h =
    ap (option_and_then item_from) (sides_read (decimal item.kind) (encode_lower item.text)
    (decimal_plain item.kind (omega (arith, h.0))) (hex_plain item.text h.2))
    ∙ rw (decimal_read_back 8 item.kind (omega (arith, h.0)) h.0, hex_text_read item.text h.1 h.2) refl

item_listed : (item : ItemValue) → IsItemOfFields item → IsListed (given_item_text item)
item_listed item h =
    let small : item.kind < 2 ^ 64 = omega (arith, h.0) in
    sides_listed (decimal item.kind) (encode_lower item.text) (decimal_plain item.kind small) (hex_plain item.text h.2)
    (omega (arith, (decimal_is_IsNumeral item.kind small).0.0))

item_short : (item : ItemValue) → IsItemOfFields item → length (given_item_text item) ≤ 531
item_short item h =
    omega (
      arith,
      decimal_short item.kind (omega (arith, h.0)),
      h.1,
      length-encode_with lower_digits item.text,
      length-append (decimal item.kind) (58 ∷ encode_lower item.text),
    )

hex_text_is : (text octets : List ℕ) → hex_text_in text ≡ Some octets → (length octets ≤ 255) × IsBytes octets
hex_text_is text octets h = short (nat_le (length text) 510) refl h
  where
    decoded : (r : Result (List ℕ) FromHexError) → decode_of text ≡ r → length text ≤ 510 → result_ok r ≡ Some octets
        → (length octets ≤ 255) × IsBytes octets
    decoded (Ok bytes) is few same =
        let ok = decode_of-ok text bytes is in
        let inside : bytes ≡ octets = cc same in
        subst (λ (o : List ℕ). (length o ≤ 255) × IsBytes o) inside (omega (arith, ok.2, few), ok.3)
    decoded (Err e) is few same = cc same

    short : (b : Bool) → nat_le (length text) 510 ≡ b → (if b then result_ok (decode_of text) else None) ≡ Some octets
        → (length octets ≤ 255) × IsBytes octets
    short true few same = decoded (decode_of text) refl (leb-true (length text) 510 few) same
    short false few same = cc same

item_is : (part : List ℕ) (item : ItemValue) → item_in part ≡ Some item → IsItemOfFields item
item_is part item h =
    let sides = some_first (sides_in part) item_from item h in
    let kind = some_first (decimal_in 8 sides.0.0)
    (λ n. option_map (λ (t : List ℕ). record { kind = n; text = t }) (hex_text_in sides.0.1)) item sides.2 in
    let text = some_mapped (hex_text_in sides.0.1) (λ (t : List ℕ). record { kind = kind.0; text = t }) item kind.2 in
    let octets = hex_text_is sides.0.1 text.0 text.1 in
    subst IsItemOfFields text.2 (number_below 8 sides.0.0 kind.0 kind.1, octets.0, octets.1)

-- ---- Settings

clocks_read : (settings : SettingsValue) → AreSettingsOfFields settings
    → clocks_in (clocks_text settings.clocks) ≡ Some settings.clocks
clocks_read settings h =
    list_read clock_in clock_text IsClockOfFields clock_read clock_listed 16 settings.clocks h.few_clocks h.clocks

items_read : (settings : SettingsValue) → AreSettingsOfFields settings
    → items_in (items_text settings.extras) ≡ Some settings.extras
items_read settings h =
    list_read item_in given_item_text IsItemOfFields item_read item_listed 7 settings.extras h.few_items h.items

pub settings_read : (settings : SettingsValue) → AreSettingsOfFields settings
    → settings_in (decimal settings.sender_bw) (decimal settings.receiver_bw) (clocks_text settings.clocks)
    (items_text settings.extras) (decimal settings.rate) (hex_long settings.ntp_base) ≡ Ok settings
settings_read settings h =
    rw (
      decimal_read_back 32 settings.sender_bw (omega (arith, h.for_senders)) h.for_senders,
      decimal_read_back 32 settings.receiver_bw (omega (arith, h.for_others)) h.for_others,
      clocks_read settings h,
      items_read settings h,
      decimal_read_back 32 settings.rate (omega (arith, h.rate)) h.rate,
      long_read_back settings.ntp_base h.ntp_base,
    ) refl

pub settings_are : (settings : SettingsValue) → AreSettingsOfFields settings → EachIsField (settings_fields settings)
settings_are settings h = (
  decimal_field settings.sender_bw (omega (arith, h.for_senders)),
  (
    decimal_field settings.receiver_bw (omega (arith, h.for_others)),
    (
      list_field clock_in clock_text IsClockOfFields clock_read clock_listed settings.clocks h.clocks,
      (
        list_field item_in given_item_text IsItemOfFields item_read item_listed settings.extras h.items,
        (decimal_field settings.rate (omega (arith, h.rate)), (long_field settings.ntp_base, tt)),
      ),
    ),
  ),
)

pub clocks_short : (settings : SettingsValue) → AreSettingsOfFields settings →
    length (clocks_text settings.clocks) ≤ 673
clocks_short settings h =
    omega (
      arith,
      h.few_clocks,
      list_short clock_in clock_text IsClockOfFields clock_read clock_listed 41 clock_short
          settings.clocks h.clocks,
    )

pub items_short : (settings : SettingsValue) → AreSettingsOfFields settings → length (items_text settings.extras) ≤ 3725
items_short settings h =
    omega (
      arith,
      h.few_items,
      list_short item_in given_item_text IsItemOfFields item_read item_listed 531 item_short
          settings.extras h.items,
    )

long_below : (text : List ℕ) (fault : LineFault) (n : ℕ) → ok_or (hex_in w64 text) fault ≡ Ok n → n < 2 ^ 64
long_below text fault n h = go (decode_sized text 8) refl h
  where
    go : (r : Result (List ℕ) FromHexError) → decode_sized text 8 ≡ r
        → ok_or (option_map (from_be_bytes w64) (result_ok r)) fault ≡ Ok n → n < 2 ^ 64
    go (Ok bytes) is same =
        let long = decode_sized-ok text 8 bytes is in
        let b = (decode_of-ok text bytes (sym (decode_sized-twice text 8 long) ∙ is)).3 in
        omega (arith, ok_inside (from_be_bytes w64 bytes) n same, b 0, b 1, b 2, b 3, b 4, b 5, b 6, b 7)
    go (Err e) is same = cc same

pub settings_callable : (senders others clocks items rate ntp : List ℕ) (settings : SettingsValue)
    → settings_in senders others clocks items rate ntp ≡ Ok settings → AreSettingsOfFields settings
settings_callable senders others clocks items rate ntp settings h =
    let for_senders = bind_ok (short_in senders) _ settings h in
    let for_others = bind_ok (short_in others) _ settings for_senders.2 in
    let rates = bind_ok (ok_or (clocks_in clocks) Number) _ settings for_others.2 in
    let extras = bind_ok (ok_or (items_in items) Hex) _ settings rates.2 in
    let units = bind_ok (short_in rate) _ settings extras.2 in
    let base = bind_ok (long_in ntp) _ settings units.2 in
    let c = list_are clock_in IsClockOfFields clock_is 16 clocks rates.0
    (was_some (clocks_in clocks) Number rates.0 rates.1) in
    let i = list_are item_in IsItemOfFields item_is 7 items extras.0
    (was_some (items_in items) Hex extras.0 extras.1) in
    subst AreSettingsOfFields
    (ok_inside (record {
      sender_bw = for_senders.0;
      receiver_bw = for_others.0;
      rate = units.0;
      clocks = rates.0;
      ntp_base = base.0;
      extras = extras.0;
    }) settings base.2)
    (record {
      for_senders = read_below 32 senders Number for_senders.0 for_senders.1;
      for_others = read_below 32 others Number for_others.0 for_others.1;
      few_clocks = c.0;
      clocks = c.1;
      few_items = i.0;
      items = i.1;
      rate = read_below 32 rate Number units.0 units.1;
      ntp_base = long_below ntp Hex base.0 base.1;
    })
  where
    was_some : {A : Type 0} (o : Option A) (fault : LineFault) (x : A) → ok_or o fault ≡ Ok x → o ≡ Some x
    was_some None fault x same = cc same
    was_some (Some y) fault x same = cc same
