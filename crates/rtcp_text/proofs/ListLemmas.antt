-- Values between commas, read one after the other.
use Rattle.std.proofs.Common.{◌≡◌, ℕ, ◌+◌, ◌≤◌, true, false, nat_le, List, [], ◌++◌, length, if◌then◌else◌, Option, Some, None, option_map, codes, ap, ◌∙◌, arith}
use Rattle.std.specs.Str.{bytes_eq}
use Rattle.std.proofs.lemmas.Bool.{le-leb}
use Rattle.std.proofs.lemmas.List.{append-nil}
use Rattle.rtcp_text.specs.SettingsFields.{parts_at, each_in, few_in, list_in}

-- values before those that are read
abbrev pub after : {A : Type 0} → List A → Option (List A) → Option (List A)
after done others = option_map (λ values. done ++ values) others

-- These parts say the values so far, and then what those say that are left.
pub record IsReading {A : Type 0} (read : List ℕ → Option A) (parts : List (List ℕ)) (done : List A)
    (left : List (List ℕ)) : Type 0 where
  pub so_far : each_in read parts ≡ after done (each_in read left)
  pub count : length done + length left ≡ length parts

module _ {A : Type 0} (read : List ℕ → Option A) (parts : List (List ℕ)) where
  pub reading_ends : (most : ℕ) (done : List A) → IsReading read parts done [] → length done ≤ most
      → few_in most read parts ≡ Some done
  reading_ends most done h few =
      let within : nat_le (length parts) most ≡ true =
      le-leb (length parts) most (omega (arith, h.count, few)) in
      ap (λ b. if b then each_in read parts else None) within
      ∙ h.so_far ∙ ap Some (append-nil done)

-- what is no hyphen is a list
pub list_in-listed : {A : Type 0} (read : List ℕ → Option A) (field : List ℕ) (most : ℕ) (values : Option (List A))
    → bytes_eq field (codes "-") ≡ false → few_in most read (parts_at 44 field) ≡ values
    → list_in most read field ≡ values
list_in-listed read field most values no_hyphen is =
    ap (λ b. if b then Some [] else few_in most read (parts_at 44 field)) no_hyphen ∙ is
