-- Tokens that are written one after the other.
use Rattle.std.proofs.Common.{◌≡◌, ℕ, Ok, List, [], ◌∷◌, ◌++◌, ◌∙◌, ap, append_assoc, refl, sym}
use Rattle.json.specs.Json.{Json}
use Rattle.json.specs.Token.{Token, end_object, key}
use Rattle.json.specs.Tree.{json_tokens, members_tokens}
use Rattle.json.specs.Written.{Written, Writes}
use Rattle.rtcp_json.specs.Adding.{Adds, fields_tokens}
use Rattle.rtcp_json.specs.JsonValues.{fields_of}

-- what one token adds
pub one : {E : Type 0} {a b : Written} {t : Token} → Writes {E = E} (Ok tt) a b t → Adds a b (t ∷ [])
one h = record { tokens = h.ok; before = h.room.0 }

-- what is added, and then more
pub then : {a b c : Written} {ts us : List Token} → Adds a b ts → Adds b c us → Adds a c (ts ++ us)
then {a} {b} {c} {ts} {us} h k = record {
  tokens = k.tokens ∙ ap (λ l. l ++ us) h.tokens ∙ append_assoc a.tokens ts us;
  before = k.before ∙ h.before;
}

-- The fields of an object are those that are written, and then its end.
pub fields_end : (fields : List (List ℕ × Json)) → members_tokens (fields_of fields)
    ≡ fields_tokens fields ++ end_object ∷ []
fields_end [] = refl
fields_end (field ∷ fields) =
    ap (λ (ts : List Token). key field.0 ∷ ts)
    (ap (λ ts. json_tokens field.1 ++ ts) (fields_end fields)
    ∙ sym (append_assoc (json_tokens field.1) (fields_tokens fields) (end_object ∷ [])))
