-- Lemmas on the options of a session.
use Rattle.std.proofs.Common.{◌≡◌, ℕ, List, [], ◌∷◌, Option, Some, Ok, ap}
use Rattle.std.specs.Option.{ok_or}
use Rattle.rtcp_command.specs.Options.{item_in}
use Rattle.rtcp_text.specs.Results.{◌>>=◌}

-- The item of an option that is given.
pub item_in-given : (kind : ℕ) (name text octets : List ℕ) (read : List ℕ → Option (List ℕ)) → read text ≡ Some octets
    → item_in kind name read (Some text) ≡ Ok (record { kind = kind; text = octets } ∷ [])
item_in-given kind name text octets read given =
    ap (λ octets. ok_or octets name >>= (λ octets. Ok (record { kind = kind; text = octets } ∷ []))) given
