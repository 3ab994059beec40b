-- Parts of lists of octets, and the words, extensions and padding that they are.
use Rattle.std.proofs.Common.{◌≡◌, ◌≢◌, ℕ, zero, suc, ◌+◌, ◌-◌, ◌*◌, ◌<◌, ◌≤◌, if◌then◌else◌, Bool, true, false, List, [], ◌∷◌, ◌++◌, length, get_or, take, drop, slice_index, refl, sym, ap, subst, ◌∙◌, append_assoc, arith}
use Rattle.std.proofs.Math.Seq.{take-append_seam, drop-append_seam, get_or-append_seam}
use Rattle.std.proofs.lemmas.List.{take-append-drop, take_more, drop-append-le, length-append, length-drop, length-take-le, get_or_append_left, get_or-drop}
use Rattle.byteorder.specs.Endian.{big_from, big_number}
use Rattle.rtcp_wire.specs.Grammar.{Joins}
use Rattle.rtcp_wire.specs.RtpHeads.{IsCsrc, csrcs_in, extension_size, IsExtensionPart, without_extension, last_of, IsPaddingPart, IsPadded, without_padding}

-- ---- Prefixes

-- A list is cut after a prefix.
pub cut_at : (b x y : List ℕ) (n : ℕ) → b ≡ x ++ y → length x ≡ n → (take n b ≡ x) × (drop n b ≡ y)
cut_at b x y n e size = (
  ap (take n) e ∙ ap (λ (k : ℕ). take k (x ++ y)) (sym size) ∙ take-append_seam x y,
  ap (drop n) e ∙ ap (λ (k : ℕ). drop k (x ++ y)) (sym size) ∙ drop-append_seam x y,
)

-- A number's octets may stand in a prefix.
big_from-append : (n i : ℕ) (x y : List ℕ) → i + n ≤ length x → big_from i n (x ++ y) ≡ big_from i n x
big_from-append zero i x y h = refl
big_from-append (suc n) i x y h =
    let here : slice_index (x ++ y) i ≡ slice_index x i = get_or_append_left x y 0 i (omega arith) in
    let following : big_from (suc i) n (x ++ y) ≡ big_from (suc i) n x = big_from-append n (suc i) x y (omega arith) in
    cc

-- So may those of one that begins at a place in it.
pub big_number-prefix : (n i : ℕ) (x y : List ℕ) → i + n ≤ length x →
    big_number n (drop i (x ++ y)) ≡ big_number n (drop i x)
big_number-prefix n i x y h =
    ap (λ (t : List ℕ). big_number n t) (drop-append-le i x y (omega arith))
    ∙ big_from-append n 0 (drop i x) y (omega (arith, length-drop i x))

-- ---- Contributing sources

-- Four octets and others are a source and others.
csrcs_in-append : (x y : List ℕ) → length x ≡ 4 → csrcs_in (x ++ y) ≡ big_number 4 x ∷ csrcs_in y
csrcs_in-append (a ∷ b ∷ c ∷ d ∷ []) y h = refl
csrcs_in-append [] y h = absurd (omega arith)
csrcs_in-append (a ∷ []) y h = absurd (omega arith)
csrcs_in-append (a ∷ b ∷ []) y h = absurd (omega arith)
csrcs_in-append (a ∷ b ∷ c ∷ []) y h = absurd (omega arith)
csrcs_in-append (a ∷ b ∷ c ∷ d ∷ e ∷ x) y h = absurd (omega arith)

-- Octets that are joined of sources say these and no others.
pub joined_csrcs : (csrcs octets : List ℕ) → Joins IsCsrc csrcs octets →
    (length octets ≡ 4 * length csrcs) × (csrcs ≡ csrcs_in octets)
joined_csrcs [] octets h = (omega (arith, ap length h), ap csrcs_in (sym h))
joined_csrcs (x ∷ xs) octets h =
    let others = joined_csrcs xs h.1 h.4 in
    let first : x ≡ big_number 4 h.0 = h.3.1 in
    let rest : xs ≡ csrcs_in h.1 = others.1 in
    let both : csrcs_in octets ≡ big_number 4 h.0 ∷ csrcs_in h.1 = ap csrcs_in h.2 ∙ csrcs_in-append h.0 h.1 h.3.0 in
    (omega (arith, ap length h.2, length-append h.0 h.1, h.3.0, others.0), cc)

-- Whole words are joined of as many sources.
pub words_joined : (n : ℕ) (octets : List ℕ) → length octets ≡ 4 * n → Joins IsCsrc (csrcs_in octets) octets
    × (length (csrcs_in octets) ≡ n)
words_joined zero [] h = (refl, refl)
words_joined zero (a ∷ octets) h = absurd (omega arith)
words_joined (suc n) (a ∷ b ∷ c ∷ d ∷ rest) h =
    let others = words_joined n rest (omega arith) in
    ((a ∷ b ∷ c ∷ d ∷ [], rest, refl, (refl, refl), others.0), ap suc others.1)
words_joined (suc n) [] h = absurd (omega arith)
words_joined (suc n) (a ∷ []) h = absurd (omega arith)
words_joined (suc n) (a ∷ b ∷ []) h = absurd (omega arith)
words_joined (suc n) (a ∷ b ∷ c ∷ []) h = absurd (omega arith)

-- ---- Extensions

-- An extension says its size, whatever follows it.
extension_size-append : (x y : List ℕ) → 4 ≤ length x → extension_size (x ++ y) ≡ extension_size x
extension_size-append x y h = ap (λ (n : ℕ). 4 + 4 * n) (big_number-prefix 2 2 x y h)

-- What follows an extension is what is left without it.
pub extension_off : (extended : Bool) (x y : List ℕ) → IsExtensionPart extended x →
    (without_extension extended (x ++ y) ≡ y) × (extended ≡ true → extension_size (x ++ y) ≤ length (x ++ y))
extension_off true x y h =
    let size : extension_size (x ++ y) ≡ extension_size x = extension_size-append x y (omega arith) in (
      (cut_at (x ++ y) x y (extension_size (x ++ y)) refl (h ∙ sym size)).1,
      λ _. omega (arith, size, h, length-append x y),
    )
extension_off false x y h = (ap (λ (t : List ℕ). t ++ y) h, λ e. absurd cc)

-- Where there is room for it, an extension stands first.
pub extension_on : (extended : Bool) (b : List ℕ) → (extended ≡ true → extension_size b ≤ length b) →
    (x : List ℕ) × (b ≡ x ++ without_extension extended b) × IsExtensionPart extended x
extension_on true b room =
    let x : List ℕ = take (extension_size b) b in
    let rest : List ℕ = drop (extension_size b) b in
    let whole : b ≡ x ++ rest = sym (take-append-drop (extension_size b) b) in
    let size : length x ≡ extension_size b = length-take-le (extension_size b) b (room refl) in
    (x, whole, size ∙ ap extension_size whole ∙ extension_size-append x rest (omega arith))
extension_on false b room = ([], refl, refl)

-- ---- Padding

-- the last octet of a list that ends with it
last_of-append : (x : List ℕ) (o : ℕ) → last_of (x ++ o ∷ []) ≡ o
last_of-append x o =
    let place : length (x ++ o ∷ []) - 1 ≡ length x = omega (arith, length-append x (o ∷ [])) in
    ap (λ (i : ℕ). slice_index (x ++ o ∷ []) i) place ∙ get_or-append_seam x o [] 0

-- What stands before the padding is what is left without it, and the last octet counts it.
pub padding_off : (padded : Bool) (x y : List ℕ) → IsPaddingPart padded y → (without_padding padded (x ++ y) ≡ x)
    × (padded ≡ true → IsPadded (x ++ y)) × ((if padded then last_of (x ++ y) else 0) ≡ length y)
padding_off true x y h =
    let n : ℕ = length h.0 + 1 in
    let whole : x ++ y ≡ (x ++ h.0) ++ n ∷ [] = ap (λ (t : List ℕ). x ++ t) h.1 ∙ sym (append_assoc x h.0 (n ∷ [])) in
    let last : last_of (x ++ y) ≡ n = ap last_of whole ∙ last_of-append (x ++ h.0) n in
    let size : length y ≡ n = omega (arith, ap length h.1, length-append h.0 (n ∷ [])) in
    let both : length (x ++ y) ≡ length x + length y = length-append x y in (
      (cut_at (x ++ y) x y (length (x ++ y) - last_of (x ++ y)) refl (omega (arith, last, size, both))).0,
      λ _. (λ none. omega (arith, last, none), omega (arith, last, size, both)),
      last ∙ sym size,
    )
padding_off false x y h = (
  ap (λ (t : List ℕ). x ++ t) h ∙ search Rattle.std.proofs.Common.rules,
  λ e. absurd cc,
  sym (ap length h),
)

-- A list of some octets ends with its last one.
last_apart : (b : List ℕ) → 0 < length b → b ≡ take (length b - 1) b ++ last_of b ∷ []
last_apart b some =
    let n : ℕ = length b - 1 in
    let all : take (n + 1) b ≡ b = ap (λ (k : ℕ). take k b) (omega arith) ∙ Rattle.std.proofs.Math.Seq.take-length b in
    sym all ∙ take_more b n 0 (omega arith)

-- Where it is counted right, padding stands at the end.
pub padding_on : (padded : Bool) (b : List ℕ) → (padded ≡ true → IsPadded b) →
    (y : List ℕ) × (b ≡ without_padding padded b ++ y) × IsPaddingPart padded y
padding_on true b counts =
    let good : IsPadded b = counts refl in
    let n : ℕ = last_of b in
    let k : ℕ = length b - n in
    let y : List ℕ = drop k b in
    let size : length y ≡ n = omega (arith, length-drop k b, good.0, good.1) in
    let free : List ℕ = take (length y - 1) y in
    let free_size : length free + 1 ≡ n = omega (arith, length-take-le (length y - 1) y (omega arith), size, good.0) in
    let last : last_of y ≡ n = get_or-drop k b (length y - 1) 0
    ∙ ap (λ (i : ℕ). slice_index b i) (omega (arith, size, good.0, good.1)) in
    let ends : y ≡ free ++ last_of y ∷ [] = last_apart y (omega (arith, size, good.0)) in
    (y, sym (take-append-drop k b), (free, ends ∙ ap (λ (o : ℕ). free ++ o ∷ []) (last ∙ sym free_size)))
padding_on false b counts = ([], search Rattle.std.proofs.Common.rules, refl)
