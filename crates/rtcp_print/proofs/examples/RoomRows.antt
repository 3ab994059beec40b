-- What rooms of several sizes hold of a text.
use Rattle.std.proofs.Common.{◌≡◌, [], ◌∷◌, codes, refl}
use Rattle.rtcp_print.specs.Pages.{shown_in}

-- what is after the zero octet stays
larger : shown_in (1 ∷ 2 ∷ 3 ∷ 4 ∷ []) (codes "ab") ≡ 97 ∷ 98 ∷ 0 ∷ 4 ∷ []
larger = refl

just_enough : shown_in (1 ∷ 2 ∷ 3 ∷ []) (codes "ab") ≡ 97 ∷ 98 ∷ 0 ∷ []
just_enough = refl

too_small : shown_in (1 ∷ 2 ∷ 3 ∷ []) (codes "abc") ≡ 97 ∷ 98 ∷ 0 ∷ []
too_small = refl

one_octet : shown_in (1 ∷ []) (codes "abc") ≡ 0 ∷ []
one_octet = refl

none : shown_in [] (codes "abc") ≡ []
none = refl
