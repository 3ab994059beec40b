-- The entries of a map that pass a test, counted by a list that has each of their keys once.
use Rattle.std.proofs.Common.{◌≡◌, ℕ, suc, ◌+◌, Bool, true, false, true≢false, cond, ◌||◌, ◌==◌, List, [], ◌∷◌, length, filter, Option, Some, None, is_some, nat_cmp, arith, refl, sym, ap, ◌∙◌}
use Rattle.std.proofs.lemmas.Bool.{eqb-true, eq-eqb, or_parts}
use Rattle.std.proofs.lemmas.Bool.Decides.{nat_tests}
use Rattle.std.specs.Prelude.{map as map_list}
use Rattle.std.specs.List.{list_any}
use Rattle.std.specs.Ordering.{eq_by_cmp}
use Rattle.std.specs.Cmp.{unsigned_tied}
use Rattle.std.specs.FinMap as map
use Rattle.rtcp_members.specs.Entries.{EntryValue, is_such}
use Rattle.rtcp_members.specs.Tables.{EntryMap, IsApart}
use Rattle.rtcp_members.proofs.lists.Listing.{filter_longer}
use Rattle.rtcp_members.proofs.maps.Updated.{entries_are_apart}

abbrev pub has : ℕ → List ℕ → Bool
has key keys = list_any (λ other. other == key) keys

-- No key stands twice.
abbrev pub IsOnce : List ℕ → Type 0
IsOnce [] = Unit {0}
IsOnce (key ∷ keys) = (has key keys ≡ false) × IsOnce keys

-- how many pass a test
abbrev pub passing : {X : Type 0} → (X → Bool) → List X → ℕ
passing test xs = length (filter test xs)

unfoldable pub one_or_none : Bool → ℕ
one_or_none b = cond b 1 0

-- ---- Two tests of keys

pub same_passing : (f g : ℕ → Bool) → ((key : ℕ) → f key ≡ g key) → (keys : List ℕ) → passing f keys ≡ passing g keys
same_passing f g same keys = λ i. passing (λ key. same key i) keys

pub first_and_rest : {X : Type 0} (test : X → Bool) (x : X) (xs : List X) →
    passing test (x ∷ xs) ≡ one_or_none (test x) + passing test xs
unfolding one_or_none
first_and_rest test x xs = filter_longer test x xs

none_pass : (keys : List ℕ) → passing (λ key. false) keys ≡ 0
none_pass [] = refl
none_pass (key ∷ keys) = none_pass keys

swapped : (a b n : ℕ) → a + (b + n) ≡ b + (a + n)
swapped a b n = omega arith

pub no_more : (n : ℕ) → one_or_none false + n ≡ n
unfolding one_or_none
no_more n = omega arith

module _ (f g : ℕ → Bool) (here : ℕ) (value : Bool)
    (differs : (key : ℕ) → g key ≡ cond (key == here) value (f key)) where
  at_other : (key : ℕ) → (key == here) ≡ false → g key ≡ f key
  at_other key apart = differs key ∙ ap (λ b. cond b value (f key)) apart

  same_elsewhere : (keys : List ℕ) → has here keys ≡ false → passing g keys ≡ passing f keys
  same_elsewhere [] absent = refl
  same_elsewhere (key ∷ keys) absent =
      let parts = or_parts (key == here) _ absent in
      first_and_rest g key keys ∙ (λ i. one_or_none (at_other key parts.0 i) + same_elsewhere keys parts.1 i)
      ∙ sym (first_and_rest f key keys)

  more_here : f here ≡ false → (key : ℕ) (keys : List ℕ) → has key keys ≡ false → (key == here) ≡ true →
      passing g (key ∷ keys) ≡ one_or_none value + passing f (key ∷ keys)
  more_here fails key keys absent is_here =
      let same : key ≡ here = eqb-true key here is_here in
      let rest = same_elsewhere keys (ap (λ k. has k keys) (sym same) ∙ absent) in
      let passes : g key ≡ value = differs key ∙ ap (λ b. cond b value (f key)) is_here in
      let none : passing f (key ∷ keys) ≡ passing f keys = first_and_rest f key keys
      ∙ ap (λ b. one_or_none b + passing f keys) (ap f same ∙ fails) ∙ no_more (passing f keys) in
      first_and_rest g key keys ∙ (λ i. one_or_none (passes i) + rest i) ∙ ap (λ n. one_or_none value + n) (sym none)

  -- Where g is f but at one key, at which f fails, it passes as many as f, and one more if it passes there.
  pub one_more : f here ≡ false → (keys : List ℕ) → IsOnce keys → has here keys ≡ true →
      passing g keys ≡ one_or_none value + passing f keys
  one_more fails [] once present = absurd (true≢false (sym present))
  one_more fails (key ∷ keys) once present =
      elim (key == here) as (λ b. (key == here) ≡ b → (b || has here keys) ≡ true →
      passing g (key ∷ keys) ≡ one_or_none value + passing f (key ∷ keys)) [
        | true ↦ λ is_here _. more_here fails key keys once.0 is_here
        | false ↦ λ apart later.
            first_and_rest g key keys
            ∙ (λ i. one_or_none (at_other key apart i) + one_more fails keys once.1 later i)
            ∙ swapped (one_or_none (f key)) (one_or_none value) (passing f keys)
            ∙ ap (λ n. one_or_none value + n) (sym (first_and_rest f key keys))
      ] refl present

-- ---- Rows and their keys

-- A list has each key of the rows.
abbrev pub HasKeys : List (ℕ × EntryValue) → List ℕ → Type 0
HasKeys rows keys = (key : ℕ) → is_some (map.find nat_cmp key rows) ≡ true → has key keys ≡ true

module _ (test : EntryValue → Bool) (row : ℕ × EntryValue) (rows : List (ℕ × EntryValue)) where
  such_at : (key : ℕ) → is_such test (map.find nat_cmp key (row ∷ rows)) ≡ cond (key == row.0) (test row.1)
      (is_such test (map.find nat_cmp key rows))
  such_at key =
      ap (λ b. is_such test (cond b (Some row.1) (map.find nat_cmp key rows))) (unsigned_tied key row.0)
      ∙ elim (key == row.0) as (λ b. is_such test (cond b (Some row.1) (map.find nat_cmp key rows)) ≡ cond b
      (test row.1) (is_such test (map.find nat_cmp key rows))) [ true ↦ refl | false ↦ refl ]

  first_is_found : is_some (map.find nat_cmp row.0 (row ∷ rows)) ≡ true
  first_is_found = ap (λ b. is_some (cond b (Some row.1) (map.find nat_cmp row.0 rows)))
      (unsigned_tied row.0 row.0 ∙ eq-eqb row.0 row.0 refl)

  keys_of_rest : (keys : List ℕ) → HasKeys (row ∷ rows) keys → HasKeys rows keys
  keys_of_rest keys has_keys key found =
      has_keys key (elim (eq_by_cmp nat_cmp key row.0) as (λ b. is_some
      (cond b (Some row.1) (map.find nat_cmp key rows)) ≡ true) [ true ↦ refl | false ↦ found ])

-- As many rows pass a test as keys at which an entry is found that does.
passing_rows : (test : EntryValue → Bool) (keys : List ℕ) → IsOnce keys → (rows : List (ℕ × EntryValue)) →
    IsApart rows → HasKeys rows keys
    → passing (λ (row : ℕ × EntryValue). test row.1) rows ≡ passing (λ key. is_such test (map.find nat_cmp key rows))
    keys
passing_rows test keys once [] apart has_keys = sym (none_pass keys)
passing_rows test keys once (row ∷ rows) apart has_keys =
    let rest = passing_rows test keys once rows apart.1 (keys_of_rest test row rows keys has_keys) in
    let before : ℕ → Bool = λ key. is_such test (map.find nat_cmp key rows) in
    let later : ℕ → Bool = λ key. is_such test (map.find nat_cmp key (row ∷ rows)) in
    let more = one_more before later row.0 (test row.1) (such_at test row rows) (ap (is_such test) apart.0) keys once
    (has_keys row.0 (first_is_found test row rows)) in
    first_and_rest (λ (r : ℕ × EntryValue). test r.1) row rows ∙ ap (λ n. one_or_none (test row.1) + n) rest ∙ sym more

-- The same of a map.
pub passing_entries : (test : EntryValue → Bool) (keys : List ℕ) → IsOnce keys → (entries : EntryMap) →
    ((key : ℕ) → is_some (map.get entries key) ≡ true → has key keys ≡ true)
    → passing (λ (row : ℕ × EntryValue). test row.1) (map.entries entries) ≡ passing
    (λ key. is_such test (map.get entries key)) keys
passing_entries test keys once entries has_keys =
    passing_rows test keys once (map.entries entries) (entries_are_apart entries)
    (λ key found. has_keys key (ap is_some (map.get-entries entries key) ∙ found))
    ∙ same_passing _ _ (λ key. ap (is_such test) (sym (map.get-entries entries key))) keys

all_pass : {X : Type 0} (xs : List X) → passing (λ (x : X). true) xs ≡ length xs
all_pass [] = refl
all_pass (x ∷ xs) = ap suc (all_pass xs)

such_is_some : (entry : Option EntryValue) → is_such (λ e. true) entry ≡ is_some entry
such_is_some None = refl
such_is_some (Some e) = refl

-- A map is as long as there are keys with an entry.
pub len_by_keys : (keys : List ℕ) → IsOnce keys → (entries : EntryMap) →
    ((key : ℕ) → is_some (map.get entries key) ≡ true → has key keys ≡ true)
    → map.len entries ≡ passing (λ key. is_some (map.get entries key)) keys
len_by_keys keys once entries has_keys =
    map.len-entries entries
    ∙ sym (all_pass (map.entries entries))
    ∙ passing_entries (λ e. true) keys once entries has_keys
    ∙ same_passing _ _ (λ key. such_is_some (map.get entries key)) keys

-- ---- The keys of a map

abbrev pub keys_of : List (ℕ × EntryValue) → List ℕ
keys_of rows = map_list (λ (row : ℕ × EntryValue). row.0) rows

has_key : (key : ℕ) (rows : List (ℕ × EntryValue)) → has key (keys_of rows) ≡ is_some (map.find nat_cmp key rows)
has_key key [] = refl
has_key key (row ∷ rows) =
    ap (λ b. (row.0 == key) || b) (has_key key rows)
    ∙ elim (row.0 == key) as (λ b. (b || is_some (map.find nat_cmp key rows)) ≡ is_some
    (cond b (Some row.1) (map.find nat_cmp key rows))) [ true ↦ refl | false ↦ refl ]
    ∙ ap (λ b. is_some (cond b (Some row.1) (map.find nat_cmp key rows)))
    (sym (unsigned_tied key row.0 ∙ turned key row.0))
  where
    turned : (a b : ℕ) → (a == b) ≡ (b == a)
    turned a b = grind (arith, nat_tests)

keys_are_once : (rows : List (ℕ × EntryValue)) → IsApart rows → IsOnce (keys_of rows)
keys_are_once [] apart = tt
keys_are_once (row ∷ rows) apart = (has_key row.0 rows ∙ ap is_some apart.0, keys_are_once rows apart.1)

pub own_keys_once : (entries : EntryMap) → IsOnce (keys_of (map.entries entries))
own_keys_once entries = keys_are_once (map.entries entries) (entries_are_apart entries)

pub has_own_key : (entries : EntryMap) (key : ℕ) → is_some (map.get entries key) ≡ true →
    has key (keys_of (map.entries entries)) ≡ true
has_own_key entries key found =
    has_key key (map.entries entries) ∙ ap is_some (sym (map.get-entries entries key)) ∙ found
