-- A packet's first four octets say how long it is, so its octets are no proper prefix of another packet's, and they say
-- one packet.
use Rattle.std.proofs.Common.{◌≡◌, ℕ, ◌+◌, ◌-◌, ◌*◌, ◌<◌, ◌≤◌, Bool, cond, List, [], ◌∷◌, ◌++◌, length, get_or, take, drop, refl, sym, ap, subst, ◌∙◌, arith}
use Rattle.std.proofs.lemmas.List.{get_or_append_left, take-append-le, drop-append-le, length-drop}
use Rattle.std.proofs.lemmas.List.{take-append-drop, length-take-le}
use Rattle.byteorder.specs.Endian.{big_number}
use Rattle.rtcp_wire.specs.Values.{RtcpPacket}
use Rattle.rtcp_wire.specs.Grammar.{IsBody, IsSpelling, IsAccepted}
use Rattle.rtcp_wire.specs.Readings.{size_of}
use Rattle.rtcp_wire.specs.Headers.{version_of, is_padded, count_of, type_of, padding_of, body_of}
use Rattle.rtcp_wire.proofs.Joining.{IsNeverEmpty, same_whole}
use Rattle.rtcp_wire.proofs.Prefixes.{same_prefixes}
use Rattle.rtcp_wire.proofs.Bodies.{same_body}

-- ---- The header's word

-- Both lists begin with the same header.
pub record SameHeader (s b : List ℕ) : Type 0 where
  pub version : version_of b ≡ version_of s
  pub padded : is_padded b ≡ is_padded s
  pub count : count_of b ≡ count_of s
  pub kind : type_of b ≡ type_of s
  pub size : size_of b ≡ size_of s

-- Four octets are the whole header, whatever follows.
pub same_header : (s after : List ℕ) → 4 ≤ length s → SameHeader s (s ++ after)
same_header [] after h = absurd (omega arith)
same_header (o ∷ []) after h = absurd (omega arith)
same_header (o ∷ p ∷ []) after h = absurd (omega arith)
same_header (o ∷ p ∷ q ∷ []) after h = absurd (omega arith)
same_header (o ∷ p ∷ q ∷ r ∷ s) after h = record {
  version = refl;
  padded = refl;
  count = refl;
  kind = refl;
  size = refl;
}

-- A whole packet has its padding and its body, whatever follows it.
pub record SameParts (s b : List ℕ) : Type 0 where
  pub header : SameHeader s b
  pub padding : padding_of b ≡ padding_of s
  pub body : body_of b ≡ body_of s

-- an octet of the prefix
at_start : (s after : List ℕ) (i j : ℕ) → i ≡ j → j < length s → get_or (s ++ after) i 0 ≡ get_or s j 0
at_start s after i j same h = ap (λ (n : ℕ). get_or (s ++ after) n 0) same ∙ get_or_append_left s after 0 j h

-- the padding, which is 0 where its bit is clear
same_choice : (p q : Bool) (x y : ℕ) → p ≡ q → x ≡ y → cond p x 0 ≡ cond q y 0
same_choice p q x y same e = cc

-- a part of the prefix, after the header
take_prefix : (s after : List ℕ) (n m : ℕ) → n ≡ m → 4 ≤ length s → m ≤ length s - 4 →
    take n (drop 4 (s ++ after)) ≡ take m (drop 4 s)
take_prefix s after n m same h le =
    ap (λ (k : ℕ). take k (drop 4 (s ++ after))) same ∙ ap (take m) (drop-append-le 4 s after h)
    ∙ take-append-le m (drop 4 s) after (omega (arith, length-drop 4 s))

-- the size of a body
less : (a b c d : ℕ) → a ≡ b → c ≡ d → a - 4 - c ≡ b - 4 - d
less a b c d p q = cc

-- A list that is as long as its header says has its parts, whatever follows.
pub same_parts : (s after : List ℕ) → 4 ≤ length s → length s ≡ size_of s → SameParts s (s ++ after)
same_parts s after h whole =
    let header : SameHeader s (s ++ after) = same_header s after h in
    let padding : padding_of (s ++ after) ≡ padding_of s =
    same_choice (is_padded (s ++ after)) (is_padded s) (get_or (s ++ after) (size_of (s ++ after) - 1) 0)
    (get_or s (size_of s - 1) 0) header.padded
    (at_start s after (size_of (s ++ after) - 1) (size_of s - 1) (ap (λ (n : ℕ). n - 1) header.size)
    (below_one (length s) (size_of s) whole h)) in
    record {
      header = header;
      padding = padding;
      body = take_prefix s after (size_of (s ++ after) - 4 - padding_of (s ++ after)) (size_of s - 4 - padding_of s)
          (less (size_of (s ++ after)) (size_of s) (padding_of (s ++ after)) (padding_of s) header.size padding) h
          (at_most (length s) (size_of s) (padding_of s) whole);
    }
  where
    below_one : (n m : ℕ) → n ≡ m → 4 ≤ n → m - 1 < n
    below_one n m e le = omega arith

    at_most : (n m p : ℕ) → n ≡ m → m - 4 - p ≤ n - 4
    at_most n m p e = omega arith

-- A size that a header says is a header's at least.
four_times : (n m : ℕ) → n ≡ 4 * (m + 1) → 4 ≤ n
four_times n m e = omega arith

-- the octets of the packet that begins here
abbrev pub own : List ℕ → List ℕ
own octets = take (size_of octets) octets

-- They are as long as their own header says, and have the parts that stand here.
pub record IsOwn (octets : List ℕ) : Type 0 where
  pub long : 4 ≤ length (own octets)
  pub size : length (own octets) ≡ size_of (own octets)
  pub parts : SameParts (own octets) octets

pub is_own : (octets : List ℕ) → size_of octets ≤ length octets → IsOwn octets
is_own octets room =
    let s : List ℕ = own octets in
    let after : List ℕ = drop (size_of octets) octets in
    let whole : s ++ after ≡ octets = take-append-drop (size_of octets) octets in
    let size : length s ≡ size_of octets = length-take-le (size_of octets) octets room in
    let long : 4 ≤ length s = four_times (length s) (big_number 2 (drop 2 octets)) size in
    let sizes : size_of octets ≡ size_of s = ap size_of (sym whole) ∙ (same_header s after long).size in
    record {
      long = long;
      size = size ∙ sizes;
      parts = subst (λ (t : List ℕ). SameParts s t) whole
          (same_parts s after long (size ∙ sizes));
    }

-- A spelling has its header.
pub spelling_length : (p : RtcpPacket) (s : List ℕ) → IsSpelling p s → 4 ≤ length s
spelling_length p s h = four_times (length s) (big_number 2 (drop 2 s)) h.size

-- the parts of a spelling, whatever follows it
pub spelling_parts : (p : RtcpPacket) (s after : List ℕ) → IsSpelling p s → SameParts s (s ++ after)
spelling_parts p s after h = same_parts s after (spelling_length p s h) h.size

-- No spelling is empty.
pub spelling_has_octets : IsNeverEmpty IsSpelling
spelling_has_octets p h = absurd (omega (arith, spelling_length p [] h))

-- ---- One packet for each spelling

-- No spelling is a proper prefix of another, and a spelling says one packet.
pub one_spelling : (p q : RtcpPacket) (s t x y : List ℕ) → IsSpelling p s → IsSpelling q t → s ++ x ≡ t ++ y →
    (s ≡ t) × (p ≡ q)
one_spelling p q s t x y h k e =
    let sizes : length s ≡ length t = h.size ∙ sym (spelling_parts p s x h).header.size ∙ ap size_of e
    ∙ (spelling_parts q t y k).header.size ∙ sym k.size in
    let same : s ≡ t = (same_prefixes s t x y sizes e).0 in
    let other_body : IsBody q (type_of s) (count_of s) (body_of s) =
    (subst (λ (z : List ℕ). IsSpelling q z) (sym same) k).body in
    (same, same_body p q (type_of s) (count_of s) (body_of s) h.body other_body)

-- A datagram is read in one way.
pub one_reading : (octets : List ℕ) (ps qs : List RtcpPacket) → IsAccepted octets ps → IsAccepted octets qs → ps ≡ qs
one_reading octets ps qs h k = same_whole IsSpelling one_spelling spelling_has_octets ps qs octets h.joined k.joined
