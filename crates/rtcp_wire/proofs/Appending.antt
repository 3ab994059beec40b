-- Octets appended in turn: what a buffer then holds, and that what is left to append has room.
use Rattle.std.proofs.Common.{◌≡◌, ℕ, suc, ◌+◌, ◌*◌, ◌<◌, ◌≤◌, List, [], ◌∷◌, ◌++◌, All, Bool, true, false, IsTrue, ◌↔◌, length, map, take, drop, get_or, refl, sym, ap, subst, ◌∙◌, append_assoc, append-nil, drop-cons, arith}
use Rattle.std.specs.List.{flat_map}
use Rattle.std.proofs.lemmas.List.{take_more, take_all, take-append-drop, map-append, length-append, length-map, map_push}
use Rattle.std.proofs.lemmas.List.Concat.{flat_map-append}
use Rattle.std.proofs.lemmas.List.Elements.{All-push}
use Rattle.std.proofs.Math.ListN.{get_or-map}
use Rattle.std.proofs.Math.Nat.{mul-zero, mul-suc}
use Rattle.rtcp_wire.specs.declared.block.Block.{Block}
use Rattle.rtcp_wire.specs.Views.{block_value}
use Rattle.rtcp_wire.specs.Writing.{written_word, written_block}

-- ---- One more after a prefix

-- some octets, and then more
pub then_more : (a b c x y : List ℕ) → b ≡ a ++ x → c ≡ b ++ y → c ≡ a ++ (x ++ y)
then_more a b c x y e g = g ∙ ap (λ (t : List ℕ). t ++ y) e ∙ append_assoc a x y

-- one value more is written
more_values : {B : Type 0} (f : B → List ℕ) (prefix next : List B) (x : B) (old mid new : List ℕ) →
    next ≡ prefix ++ x ∷ [] → mid ≡ old ++ flat_map f prefix → new ≡ mid ++ f x → new ≡ old ++ flat_map f next
more_values {B = B} f prefix next x old mid new is before now =
    let both : flat_map f prefix ++ f x ≡ flat_map f next =
    ap (λ (t : List ℕ). flat_map f prefix ++ t) (sym (append-nil (f x))) ∙ sym (flat_map-append f prefix (x ∷ []))
    ∙ ap (λ (t : List B). flat_map f t) (sym is) in
    then_more old mid new (flat_map f prefix) (f x) before now ∙ ap (λ (t : List ℕ). old ++ t) both

-- Where all values have room, so has the next.
room_in : {B : Type 0} (f : B → List ℕ) (prefix rest whole : List B) (x : B) (old mid : List ℕ) (n : ℕ) →
    whole ≡ prefix ++ x ∷ rest → mid ≡ old ++ flat_map f prefix → length old + length (flat_map f whole) ≤ n →
    length mid + length (f x) ≤ n
room_in {B = B} f prefix rest whole x old mid n is before room =
    let parts = ap (λ (t : List B). length (flat_map f t)) is ∙ ap length (flat_map-append f prefix (x ∷ rest))
    ∙ length-append (flat_map f prefix) (f x ++ flat_map f rest) in
    let sofar = ap length before ∙ length-append old (flat_map f prefix) in
    omega (arith, parts, length-append (f x) (flat_map f rest), sofar, room)

-- a list, by the item at i
parts_at : {A : Type 0} (xs : List A) (i : ℕ) (d : A) → i < length xs →
    xs ≡ take i xs ++ get_or xs i d ∷ drop (suc i) xs
parts_at {A = A} xs i d lt = sym (take-append-drop i xs) ∙ ap (λ (t : List A). take i xs ++ t) (drop-cons xs i d lt)

-- ---- Numbers, which are their own values

pub one_number_more : (f : ℕ → List ℕ) (xs : List ℕ) (i d : ℕ) (old mid new : List ℕ) → i < length xs →
    mid ≡ old ++ flat_map f (take i xs) → new ≡ mid ++ f (get_or xs i d) → new ≡ old ++ flat_map f (take (i + 1) xs)
one_number_more f xs i d old mid new lt before now = more_values f (take i xs) (take (i + 1) xs) (get_or xs i d) old mid
    new (take_more xs i d lt) before now

pub room_for_number : (f : ℕ → List ℕ) (xs : List ℕ) (i d : ℕ) (old mid : List ℕ) (n : ℕ) → i < length xs →
    mid ≡ old ++ flat_map f (take i xs) → length old + length (flat_map f xs) ≤ n →
    length mid + length (f (get_or xs i d)) ≤ n
room_for_number f xs i d old mid n lt before room = room_in f (take i xs) (drop (suc i) xs) xs (get_or xs i d) old mid n
    (parts_at xs i d lt) before room

-- ---- Items that are seen as values

-- the values of the items up to i + 1
next_values : {A B : Type 0} (view : A → B) (xs : List A) (i : ℕ) (d : A) → i < length xs →
    map view (take (i + 1) xs) ≡ map view (take i xs) ++ view (get_or xs i d) ∷ []
next_values {A = A} view xs i d lt = ap (λ (t : List A). map view t) (take_more xs i d lt)
    ∙ map_push view (take i xs) (get_or xs i d)

-- the values of all items, by the one at i
values_at : {A B : Type 0} (view : A → B) (xs : List A) (i : ℕ) (d : A) → i < length xs →
    map view xs ≡ map view (take i xs) ++ view (get_or xs i d) ∷ map view (drop (suc i) xs)
values_at {A = A} view xs i d lt = ap (λ (t : List A). map view t) (parts_at xs i d lt)
    ∙ map-append view (take i xs) (get_or xs i d ∷ drop (suc i) xs)

-- One item more is appended.
pub one_more : {A B : Type 0} (view : A → B) (f : B → List ℕ) (xs : List A) (i : ℕ) (d : A) (old mid new : List ℕ) →
    i < length xs → mid ≡ old ++ flat_map f (map view (take i xs)) → new ≡ mid ++ f (view (get_or xs i d)) →
    new ≡ old ++ flat_map f (map view (take (i + 1) xs))
one_more view f xs i d old mid new lt before now =
    more_values f (map view (take i xs)) (map view (take (i + 1) xs)) (view (get_or xs i d)) old mid new
    (next_values view xs i d lt) before now

-- Where all items have room, so has the next.
pub room_for_one : {A B : Type 0} (view : A → B) (f : B → List ℕ) (xs : List A) (i : ℕ) (d : A) (old mid : List ℕ)
    (n : ℕ) → i < length xs → mid ≡ old ++ flat_map f (map view (take i xs)) →
    length old + length (flat_map f (map view xs)) ≤ n → length mid + length (f (view (get_or xs i d))) ≤ n
room_for_one view f xs i d old mid n lt before room =
    room_in f (map view (take i xs)) (map view (drop (suc i) xs)) (map view xs) (view (get_or xs i d)) old mid n
    (values_at view xs i d lt) before room

-- What holds of the items so far, and of the next, holds of one more.
pub all_more : {A B : Type 0} (P : B → Type 0) (view : A → B) (xs : List A) (i : ℕ) (d : A) → i < length xs →
    All P (map view (take i xs)) → P (view (get_or xs i d)) → All P (map view (take (i + 1) xs))
all_more {B = B} P view xs i d lt before here = subst (λ (t : List B). All P t) (sym (next_values view xs i d lt))
    (All-push P (map view (take i xs)) (view (get_or xs i d)) before here)

-- What holds of all items holds of the one at i.
pub all_here : {A B : Type 0} (P : B → Type 0) (view : A → B) (xs : List A) (i : ℕ) (d : A) → i < length xs →
    All P (map view xs) → P (view (get_or xs i d))
all_here {B = B} P view xs i d lt all = subst P (get_or-map view xs i d)
    (all i (view d) (omega (arith, length-map xs view)))

-- What holds of the items up to the end holds of all.
pub all_done : {A B : Type 0} (P : B → Type 0) (view : A → B) (xs : List A) (i : ℕ) → length xs ≤ i →
    All P (map view (take i xs)) → All P (map view xs)
all_done {A = A} P view xs i done all = subst (λ (t : List A). All P (map view t)) (take_all i xs done) all

-- ---- A test of each item

-- Where an item fails its test, not all hold.
pub one_fails : {A B : Type 0} (P : B → Type 0) (view : A → B) (xs : List A) (i : ℕ) (d : A) (test : Bool) →
    i < length xs → IsTrue test ↔ P (view (get_or xs i d)) → test ≡ false → IsTrue false ↔ All P (map view xs)
one_fails P view xs i d test lt is fails =
    ((λ no. absurd (cc)), (λ all. sym fails ∙ is.1 (all_here P view xs i d lt all)))

-- Where each passes, all hold.
pub each_passes : {A B : Type 0} (P : B → Type 0) (view : A → B) (xs : List A) (i : ℕ) → length xs ≤ i →
    All P (map view (take i xs)) → IsTrue true ↔ All P (map view xs)
each_passes P view xs i done all = ((λ yes. all_done P view xs i done all), (λ each. refl))

-- ---- Values of one size

pub same_size : {B : Type 0} (f : B → List ℕ) (n : ℕ) → ((x : B) → length (f x) ≡ n) → (xs : List B) →
    length (flat_map f xs) ≡ n * length xs
same_size f n each [] = sym (mul-zero n)
same_size f n each (x ∷ xs) =
    let sum : length (flat_map f (x ∷ xs)) ≡ n * length xs + n =
    omega (arith, length-append (f x) (flat_map f xs), each x, same_size f n each xs) in
    sum ∙ sym (mul-suc n (length xs))

-- as many words as identifiers
pub ids_size : (ids : List ℕ) → length (flat_map written_word ids) ≡ 4 * length ids
ids_size ids = same_size written_word 4 (λ x. refl) ids

-- six words for each block
pub blocks_size : (blocks : List Block) → length (flat_map written_block (map block_value blocks)) ≡ 24 * length blocks
blocks_size blocks = same_size written_block 24 (λ x. refl) (map block_value blocks)
    ∙ ap (λ (n : ℕ). 24 * n) (length-map blocks block_value)
