-- Lemmas on the fields of a line.
use Rattle.std.proofs.Common.{◌≡◌, ℕ, zero, suc, ◌<◌, ◌==◌, true, false, cond, List, [], ◌∷◌, length, take, drop, slice_index, Some, refl, ap, ◌∙◌, arith}
use Rattle.std.specs.List.{onto_first}
use Rattle.rtcp_text.specs.declared.event_line.LineKind.{LineKind}
use Rattle.rtcp_text.specs.EventLines.{fields_of, kind_named, event_with, event_of, event_in}
use Rattle.rtcp_text.specs.SettingsFields.{parts_at}

-- The first part ends before the first separator.
pub parts_at-split : (separator : ℕ) (octets : List ℕ) (end : ℕ) → end < length octets
    → (slice_index octets end == separator) ≡ true → ((k : ℕ) → k < end → (slice_index octets k == separator) ≡ false)
    → parts_at separator octets ≡ take end octets ∷ parts_at separator (drop (suc end) octets)
parts_at-split separator [] end within found before = absurd (omega arith)
parts_at-split separator (octet ∷ octets) zero within found before =
    ap (λ b. cond b ([] ∷ parts_at separator octets) (onto_first octet (parts_at separator octets))) found
parts_at-split separator (octet ∷ octets) (suc end) within found before =
    ap (λ b. cond b ([] ∷ parts_at separator octets) (onto_first octet (parts_at separator octets)))
    (before 0 (omega arith))
    ∙ ap (onto_first octet)
    (parts_at-split separator octets end (omega arith) found (λ k lt. before (suc k) (omega arith)))

-- A text without separators is one part.
pub parts_at-whole : (separator : ℕ) (octets : List ℕ)
    → ((k : ℕ) → k < length octets → (slice_index octets k == separator) ≡ false) →
    parts_at separator octets ≡ octets ∷ []
parts_at-whole separator [] none = refl
parts_at-whole separator (octet ∷ octets) none =
    ap (λ b. cond b ([] ∷ parts_at separator octets) (onto_first octet (parts_at separator octets)))
    (none 0 (omega arith))
    ∙ ap (onto_first octet) (parts_at-whole separator octets (λ k lt. none (suc k) (omega arith)))

-- The event of a line by its first field.
pub event_in-named : (line name : List ℕ) (fields : List (List ℕ)) (kind : LineKind) → fields_of line ≡ name ∷ fields →
    kind_named name ≡ Some kind
    → event_in line ≡ event_with (Some kind) fields
event_in-named line name fields kind parts named = ap event_of parts ∙ ap (λ k. event_with k fields) named
