-- Lemmas on the texts of endpoints.
use Rattle.std.proofs.Common.{◌≡◌, ◌≢◌, ℕ, zero, suc, ◌<◌, ◌^◌, ◌==◌, Bool, true, false, nat_lt, cond, All, List, [], ◌∷◌, ◌++◌, length, slice_index, Option, Some, None, Result, Ok, Err, append-nil, append_assoc, decimal, get_or, lit≤, option_map, refl, subst, sym, ap, ap₂, ◌∙◌, arith}
use Rattle.std.specs.List.{after_first}
use Rattle.std.specs.Net.Grammar.{IsDotted, IsSocketV4Text, Parses}
use Rattle.std.specs.Net.Reader.{read_socket_v4, v4_parts, whole_value}
use Rattle.std.specs.Net.Text.{dotted_text}
use Rattle.std.specs.Result.{result_ok}
use Rattle.std.specs.declared.net.socket_addr.SocketAddrV4.{SocketAddrV4}
use Rattle.std.proofs.NetLemmas.Alphabet.{All-ipv4_text, IsDigitOrDot}
use Rattle.std.proofs.NetLemmas.Sockets.{read_socket_v4_complete, read_socket_v4_sound}
use Rattle.std.proofs.lemmas.Bool.{and_right, cond-false, eq-eqb, eqb-true, ne_eqb}
use Rattle.std.proofs.lemmas.Bool.Decides.{nat_tests}
use Rattle.std.proofs.lemmas.Fmt.{decimal-digits_value, decimal_digit, decimal_is_IsNumeral, first_decimal}
use Rattle.std.proofs.lemmas.Grind.{common_steps}
use Rattle.std.proofs.lemmas.List.{nil_from_length}
use Rattle.std.proofs.lemmas.List.Sums.{position_or_len_is}
use Rattle.std.proofs.lemmas.Option.{cond_some, none-some, option_and_then_some}
use Rattle.std.proofs.lemmas.Str.Parse.{numerals_by_value, tells_digits}
use Rattle.rtcp_command.specs.Endpoints.{Endpoint, IsEndpointText, endpoint_in, endpoint_of, has_leading_zero, leads_with_zero}

-- ---- What std's parser reads

abbrev pub reading : List ℕ → Option (List ℕ × ℕ)
reading text = whole_value (read_socket_v4 text)

abbrev pub endpoint_read : List ℕ × ℕ → Endpoint
endpoint_read parts = record { octets = parts.0; port = parts.1 }

abbrev address_of : List ℕ × ℕ → SocketAddrV4
address_of parts = record { ip = record { octets = parts.0 }; port = parts.1 }

is_read : (text : List ℕ) (a : SocketAddrV4) → IsSocketV4Text text a → reading text ≡ Some (v4_parts a)
is_read text a h = ap whole_value (read_socket_v4_complete text a h)

read_is : (text : List ℕ) (parts : List ℕ × ℕ) → reading text ≡ Some parts → IsSocketV4Text text (address_of parts)
read_is text parts e =
    option_and_then_some _ (read_socket_v4 text) parts e λ found is e₁.
    let whole = cond_some (length found.1 == 0) found.0 parts e₁ in
    let rest = nil_from_length found.1 (eqb-true (length found.1) 0 whole.0) in
    let sound = read_socket_v4_sound text [] (address_of parts) (is ∙ ap₂ (λ x y. Some (x, y)) whole.1 rest) in
    subst (λ front. IsSocketV4Text front (address_of parts)) (sym (sound.1 ∙ append-nil sound.0)) sound.2

no_reading : (found : Option (List ℕ × ℕ)) → ((parts : List ℕ × ℕ) → found ≡ Some parts → ⊥) →
    None ≡ option_map endpoint_read found
no_reading None lacks = refl
no_reading (Some parts) lacks = absurd (lacks parts refl)

pub parsed : {E : Type 0} (text : List ℕ) (r : Result SocketAddrV4 E) → Parses IsSocketV4Text text r
    → option_map endpoint_of (result_ok r) ≡ option_map endpoint_read (reading text)
parsed text (Ok a) h = sym (ap (option_map endpoint_read) (is_read text a h))
parsed text (Err e) lacks = no_reading (reading text) λ parts is. lacks (address_of parts) (read_is text parts is)

-- ---- The port

small : (a b c d k : ℕ) → (a < 256) × (b < 256) × (c < 256) × (d < 256) → get_or (a ∷ b ∷ c ∷ d ∷ []) k 0 < 2 ^ 8
small a b c d zero fit = fit.0
small a b c d (suc zero) fit = fit.1
small a b c d (suc (suc zero)) fit = fit.2
small a b c d (suc (suc (suc zero))) fit = fit.3
small a b c d (suc (suc (suc (suc k)))) fit = lit≤ tt

-- No colon stands in an address.
lacks_colon : (ip octets : List ℕ) → IsDotted ip octets → (k : ℕ) → k < length ip → get_or ip k 0 ≢ 58
lacks_colon ip octets h k inside colon =
    let all : All IsDigitOrDot ip = subst (All IsDigitOrDot) (sym h.spelled)
    (All-ipv4_text (h.a ∷ h.b ∷ h.c ∷ h.d ∷ []) (λ i. small h.a h.b h.c h.d i h.fit)) in
    grind (arith, common_steps)

after_colon : (front back : List ℕ) → ((k : ℕ) → k < length front → get_or front k 0 ≢ 58) →
    after_first (λ c. c == 58) (front ++ 58 ∷ back) ≡ back
after_colon front back lacks =
    let p = λ (c : ℕ). c == 58 in
    let text = front ++ 58 ∷ back in
    let longer : length front < length text = grind (arith, common_steps) in
    let before : (k : ℕ) → k < length front → p (get_or text k 0) ≡ false =
    λ k inside. let same : get_or text k 0 ≡ get_or front k 0 = grind (arith, common_steps) in
    ne_eqb _ 58 (λ e. lacks k inside (sym same ∙ e)) in
    let here : get_or text (length front) 0 ≡ 58 = grind (arith, common_steps) in
    let at = position_or_len_is p text (length front) 0 (omega arith) before (λ _. eq-eqb _ 58 here) in
    let after : after_first p text ≡ back = grind (arith, common_steps) in
    after

no_leading_zero : (n : ℕ) → n < 2 ^ 64 → leads_with_zero (decimal n) ≡ false
no_leading_zero zero small = ap leads_with_zero (decimal_digit 0 (omega arith))
no_leading_zero (suc n) small =
    let first = first_decimal (suc n) (omega arith) small in
    let other = ne_eqb (slice_index (decimal (suc n)) 0) 48 (λ e. omega (arith, first, e)) in
    and_right (nat_lt 1 (length (decimal (suc n)))) (slice_index (decimal (suc n)) 0 == 48) other

-- A text without a leading zero that begins with a zero is that zero alone.
alone : (digits : List ℕ) → leads_with_zero digits ≡ false → 0 < length digits → slice_index digits 0 ≡ 48 →
    length digits ≡ 1
alone digits plain some begins = grind (arith, nat_tests)

-- ---- Whole texts

none_else : {A : Type 0} (b : Bool) (o : Option A) (x : A) → cond b None o ≡ Some x → (b ≡ false) × (o ≡ Some x)
none_else true o x e = absurd (none-some x e)
none_else false o x e = (refl, e)

mapped : (o : Option (List ℕ × ℕ)) (endpoint : Endpoint) → option_map endpoint_read o ≡ Some endpoint →
    o ≡ Some (endpoint.octets, endpoint.port)
mapped None endpoint e = absurd (none-some endpoint e)
mapped (Some parts) endpoint e = let same : endpoint_read parts ≡ endpoint = cc e in
    ap (λ shown. Some (shown.octets, shown.port)) same

pub endpoint_in-read : (text : List ℕ) (endpoint : Endpoint) → endpoint_in text ≡ Some endpoint →
    IsEndpointText text endpoint
endpoint_in-read text endpoint found =
    let plain = none_else (has_leading_zero text) (option_map endpoint_read (reading text)) endpoint found in
    let (ip, port, parts, dotted, (digits, colon, number, fits)) = read_is text (endpoint.octets, endpoint.port)
    (mapped (reading text) endpoint plain.1) in
    let whole : text ≡ ip ++ 58 ∷ digits = parts ∙ ap (λ x. ip ++ x) colon in
    let same = ap (after_first (λ c. c == 58)) whole ∙ after_colon ip digits (lacks_colon ip endpoint.octets dotted) in
    let leads : leads_with_zero digits ≡ false = ap leads_with_zero (sym same) ∙ plain.0 in
    let spelled : digits ≡ decimal endpoint.port =
    sym (decimal-digits_value (numerals_by_value _ tells_digits) digits number.0.1 number.0.0
    (alone digits leads number.0.0) (omega (arith, number.1, fits))) ∙ ap decimal number.1 in
    record {
      a = dotted.a;
      b = dotted.b;
      c = dotted.c;
      d = dotted.d;
      octets = dotted.value;
      octets_fit = dotted.fit;
      port_fits = fits;
      spelled = whole ∙ ap₂ (λ x y. x ++ 58 ∷ y) dotted.spelled spelled
          ∙ sym (append_assoc (dotted_text dotted.a dotted.b dotted.c dotted.d) (58 ∷ []) (decimal endpoint.port));
    }

pub endpoint_in-text : (text : List ℕ) (endpoint : Endpoint) → IsEndpointText text endpoint →
    endpoint_in text ≡ Some endpoint
endpoint_in-text text endpoint h =
    let digits = decimal endpoint.port in
    let ip = dotted_text h.a h.b h.c h.d in
    let dotted : IsDotted ip endpoint.octets = record {
      a = h.a;
      b = h.b;
      c = h.c;
      d = h.d;
      fit = h.octets_fit;
      value = h.octets;
      spelled = refl;
    } in
    let number = decimal_is_IsNumeral endpoint.port (omega (arith, h.port_fits)) in
    let whole : text ≡ ip ++ 58 ∷ digits = h.spelled ∙ append_assoc ip (58 ∷ []) digits in
    let is : IsSocketV4Text text (address_of (endpoint.octets, endpoint.port)) =
    (ip, 58 ∷ digits, whole, dotted, (digits, refl, number, h.port_fits)) in
    let same = ap (after_first (λ c. c == 58)) whole ∙ after_colon ip digits (lacks_colon ip endpoint.octets dotted) in
    let plain = ap leads_with_zero same ∙ no_leading_zero endpoint.port (omega (arith, h.port_fits)) in
    cond-false (has_leading_zero text) None (option_map endpoint_read (reading text)) plain
    ∙ ap (option_map endpoint_read) (is_read text _ is)
