-- Values whose lines are valid: their strings are UTF-8, their numbers are those of JSON, and they nest few deep.
use Rattle.std.proofs.Common.{◌≡◌, ℕ, ℤ, ◌+◌, ◌^◌, ◌<◌, ◌≤◌, Bool, true, false, List, [], ◌∷◌, ◌++◌, All, map, option_and_then, refl, sym, ap, ◌∙◌, append-nil, arith}
use Rattle.std.proofs.lemmas.Fmt.{IsAscii-decimal, IsAscii-signed}
use Rattle.std.proofs.lemmas.List.Elements.{All-head, All-tail}
use Rattle.std.proofs.lemmas.Str.{IsUtf8-append, IsUtf8-from_ascii, IsUtf8-nil}
use Rattle.std.specs.Fmt.{decimal, signed_decimal}
use Rattle.std.specs.Str.{IsUtf8}
use lib.Signed.{mag}
use Rattle.json.specs.Json.{Json, null, boolean, number, string, array, object, Items, no_items, item, Members, no_members, member, value as value_in, if_last, max_depth}
use Rattle.json.specs.Print.{token_text, ends, print_from, IsNumber, IsPrintable, ArePrintable}
use Rattle.json.specs.Token as tokens
use Rattle.json.specs.Token.{Token}
use Rattle.json.specs.Tree.{json_tokens, items_tokens, members_tokens, depth, items_depth}
use Rattle.json.specs.Value.{items_of}
use Rattle.json.proofs.Printed.Decimals.{IsNumber-decimal, IsNumber-signed_decimal}
use Rattle.json.proofs.Printed.Tokens.{tokens-print}
use Rattle.json.proofs.Printed.Trees.{value-json_tokens}
use Rattle.json.proofs.Printed.Utf8.{are_ascii, IsUtf8-are_ascii, IsUtf8-boolean, IsUtf8-key, IsUtf8-quoted, IsUtf8-separator}
use Rattle.rtcp_text.specs.Lines.{HasNoLineFeed}
use Rattle.rtcp_json.specs.JsonValues.{array_of}
use Rattle.rtcp_json.specs.Validity.{IsValidLine}
use Rattle.rtcp_json.proofs.LineLemmas.{AreOneLine, IsOneLine, decimal_line, print_line, signed_line}

-- ---- Tokens

pub record IsFitNumber (text : List ℕ) : Type 0 where
  pub number : IsNumber text
  pub utf8 : IsUtf8 text
  pub line : HasNoLineFeed text

abbrev pub IsFit : Token → Type 0
IsFit tokens.begin_object = Unit {0}
IsFit tokens.end_object = Unit {0}
IsFit tokens.begin_array = Unit {0}
IsFit tokens.end_array = Unit {0}
IsFit (tokens.key s) = IsUtf8 s
IsFit (tokens.string s) = IsUtf8 s
IsFit (tokens.number s) = IsFitNumber s
IsFit (tokens.boolean b) = Unit {0}
IsFit tokens.null = Unit {0}
IsFit tokens.bad = ⊥

abbrev pub AreFit : List Token → Type 0
AreFit [] = Unit {0}
AreFit (t ∷ ts) = IsFit t × AreFit ts

AreFit-append : (ts us : List Token) → AreFit ts → AreFit us → AreFit (ts ++ us)
AreFit-append [] us h k = k
AreFit-append (t ∷ ts) us h k = (h.0, AreFit-append ts us h.1 k)

printable : (t : Token) → IsFit t → IsPrintable t
printable tokens.begin_object h = tt
printable tokens.end_object h = tt
printable tokens.begin_array h = tt
printable tokens.end_array h = tt
printable (tokens.key s) h = tt
printable (tokens.string s) h = tt
printable (tokens.number s) h = h.number
printable (tokens.boolean b) h = tt
printable tokens.null h = tt
printable tokens.bad h = h

all_printable : (ts : List Token) → AreFit ts → ArePrintable ts
unfolding ArePrintable
all_printable [] h = tt
all_printable (t ∷ ts) h = (printable t h.0, all_printable ts h.1)

token_utf8 : (t : Token) → IsFit t → IsUtf8 (token_text t)
token_utf8 tokens.begin_object h = IsUtf8-are_ascii (token_text tokens.begin_object) refl
token_utf8 tokens.end_object h = IsUtf8-are_ascii (token_text tokens.end_object) refl
token_utf8 tokens.begin_array h = IsUtf8-are_ascii (token_text tokens.begin_array) refl
token_utf8 tokens.end_array h = IsUtf8-are_ascii (token_text tokens.end_array) refl
token_utf8 (tokens.key s) h = IsUtf8-key s h
token_utf8 (tokens.string s) h = IsUtf8-quoted s h
token_utf8 (tokens.number s) h = h.utf8
token_utf8 (tokens.boolean b) h = IsUtf8-boolean b
token_utf8 tokens.null h = IsUtf8-are_ascii (token_text tokens.null) refl
token_utf8 tokens.bad h = absurd h

print_utf8 : (after_value : Bool) (ts : List Token) → AreFit ts → IsUtf8 (print_from after_value ts)
unfolding print_from
print_utf8 after_value [] h = IsUtf8-nil
print_utf8 after_value (t ∷ ts) h =
    IsUtf8-append _ _ (IsUtf8-separator after_value t)
    (IsUtf8-append (token_text t) _ (token_utf8 t h.0) (print_utf8 (ends t) ts h.1))

one_line : (t : Token) → IsFit t → IsOneLine t
one_line tokens.begin_object h = tt
one_line tokens.end_object h = tt
one_line tokens.begin_array h = tt
one_line tokens.end_array h = tt
one_line (tokens.key s) h = tt
one_line (tokens.string s) h = tt
one_line (tokens.number s) h = h.line
one_line (tokens.boolean b) h = tt
one_line tokens.null h = tt
one_line tokens.bad h = tt

all_one_line : (ts : List Token) → AreFit ts → AreOneLine ts
all_one_line [] h = tt
all_one_line (t ∷ ts) h = (one_line t h.0, all_one_line ts h.1)

-- ---- Values

abbrev mutual
  pub IsFitJson : Json → Type 0
  IsFitJson null = Unit {0}
  IsFitJson (boolean b) = Unit {0}
  IsFitJson (number s) = IsFitNumber s
  IsFitJson (string s) = IsUtf8 s
  IsFitJson (array js) = AreItemsFit js
  IsFitJson (object ms) = AreFieldsFit ms

  pub AreItemsFit : Items → Type 0
  AreItemsFit no_items = Unit {0}
  AreItemsFit (item j js) = IsFitJson j × AreItemsFit js

  -- each name is ASCII
  pub AreFieldsFit : Members → Type 0
  AreFieldsFit no_members = Unit {0}
  AreFieldsFit (member k j ms) = (are_ascii k ≡ true) × IsFitJson j × AreFieldsFit ms

mutual
  fit_tokens : (j : Json) → IsFitJson j → AreFit (json_tokens j)
  fit_tokens null h = (tt, tt)
  fit_tokens (boolean b) h = (tt, tt)
  fit_tokens (number s) h = (h, tt)
  fit_tokens (string s) h = (h, tt)
  fit_tokens (array js) h = (tt, fit_items js h)
  fit_tokens (object ms) h = (tt, fit_fields ms h)

  fit_items : (js : Items) → AreItemsFit js → AreFit (items_tokens js)
  fit_items no_items h = (tt, tt)
  fit_items (item j js) h = AreFit-append (json_tokens j) (items_tokens js) (fit_tokens j h.0) (fit_items js h.1)

  fit_fields : (ms : Members) → AreFieldsFit ms → AreFit (members_tokens ms)
  fit_fields no_members h = (tt, tt)
  fit_fields (member k j ms) h = (
    IsUtf8-are_ascii k h.0,
    AreFit-append (json_tokens j) (members_tokens ms) (fit_tokens j h.1) (fit_fields ms h.2),
  )

-- It nests so deep at most, and each part of it is fit.
pub record IsFitTo (deep : ℕ) (value : Json) : Type 0 where
  pub shallow : depth value ≤ deep
  pub fit : IsFitJson value

-- Its line is valid.
pub valid : {deep : ℕ} (value : Json) → deep ≤ 128 → IsFitTo deep value → IsValidLine value
valid {deep} value few h =
    let ts = fit_tokens value h.fit in
    let shallow = h.shallow in
    record {
      reads = ap (option_and_then (λ p. if_last p.0 p.1))
          (ap (value_in max_depth) (tokens-print (json_tokens value) (all_printable (json_tokens value) ts)
          ∙ sym (append-nil (json_tokens value)))
          ∙ value-json_tokens value max_depth [] (omega arith));
      utf8 = print_utf8 false (json_tokens value) ts;
      whole = print_line false (json_tokens value) (all_one_line (json_tokens value) ts);
    }

-- ---- Arrays

array_items : {A : Type 0} (json : A → Json) (deep : ℕ) (P : A → Type 0) → ((x : A) → P x → IsFitTo deep (json x))
    → (xs : List A) → All P xs
    → (items_depth (items_of (map json xs)) ≤ deep) × AreItemsFit (items_of (map json xs))
array_items json deep P each [] all = (omega arith, tt)
array_items json deep P each (x ∷ xs) all =
    let first = each x (All-head P x xs all) in
    let others = array_items json deep P each xs (All-tail P x xs all) in
    let shallow = first.shallow in
    let shallow_others = others.0 in
    (omega arith, (first.fit, others.1))

pub arrays : {A : Type 0} (json : A → Json) (deep : ℕ) (P : A → Type 0) → ((x : A) → P x → IsFitTo deep (json x))
    → (xs : List A) → All P xs → IsFitTo (deep + 1) (array_of (map json xs))
arrays json deep P each xs all =
    let items = array_items json deep P each xs all in
    let shallow = items.0 in
    record { shallow = omega arith; fit = items.1 }

-- ---- Numbers

pub decimal_fit : (n : ℕ) → n < 2 ^ 64 → IsFitNumber (decimal n)
decimal_fit n small = record {
  number = IsNumber-decimal n small;
  utf8 = IsUtf8-from_ascii (decimal n) (IsAscii-decimal n small);
  line = decimal_line n;
}

pub signed_fit : (z : ℤ) → mag z < 2 ^ 63 → IsFitNumber (signed_decimal z)
signed_fit z small = record {
  number = IsNumber-signed_decimal z small;
  utf8 = IsUtf8-from_ascii (signed_decimal z) (IsAscii-signed z small);
  line = signed_line z;
}
