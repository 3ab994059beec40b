-- A piece of a text goes on with what a room shows of it.
use Rattle.std.proofs.Common.{◌≡◌, ℕ, false, eqb, ◌+◌, ◌-◌, ◌<◌, ◌^◌, slice_set, List, [], ◌∷◌, ◌++◌, length, take, drop, min, refl, sym, ap, ◌∙◌, subst, arith, append_assoc, zero, suc}
use Rattle.std.proofs.lemmas.List.{append-nil, drop-drop, drop_all, drop_at, drop_min, length-append, length-drop, length-take, set_split, take-append-le, take-take, take_all, take_at, take_min}
use Rattle.std.proofs.Math.Seq.{drop-append-add}
use Rattle.std.proofs.lemmas.Bool.Decides.{nat_tests}
use borrow.Rule.Slice.PartMut.{put_mid}
use Rattle.rtcp_print.specs.declared.page.Page.{Page}
use Rattle.rtcp_print.specs.Pages.{Adds, ShowsText, ended, laid_over, shown_in}

take-append : (n : ℕ) (xs ys : List ℕ) → take n (xs ++ ys) ≡ take n xs ++ take (n - length xs) ys
take-append zero xs ys = let e : 0 - length xs ≡ 0 = omega arith in rw e refl
take-append (suc n) [] ys = let e : suc n - 0 ≡ suc n = omega arith in rw e refl
take-append (suc n) (x ∷ xs) ys =
    let e : suc n - suc (length xs) ≡ n - length xs = omega arith in
    rw e (ap (λ (l : List ℕ). x ∷ l) (take-append n xs ys))

laid-append : (text piece room : List ℕ) →
    laid_over (text ++ piece) room ≡ take (length room) text ++ laid_over piece (drop (length text) room)
laid-append text piece room =
    rw (
      take-append (length room) text piece,
      length-append text piece,
      ← drop-drop (length piece) (length text) room,
      length-drop (length text) room,
    )
    (append_assoc (take (length room) text) (take (length room - length text) piece)
    (drop (length piece) (drop (length text) room)))

pub length-laid_over : (text room : List ℕ) → length (laid_over text room) ≡ length room
length-laid_over text room =
    length-append (take (length room) text) (drop (length text) room)
    ∙ omega (arith, length-take (length room) text, length-drop (length text) room)

-- What stands in a room after a piece was copied to where the text ends, or to the end of the room.
put : (text piece room now : List ℕ) (count start taken : ℕ) → length room < 2 ^ 64 →
    ShowsText text room now count → start ≡ min count (length now) → taken ≡ min (length piece) (length now - start) →
    put_mid start (start + taken - start) now (take taken piece) ≡ laid_over (text ++ piece) room
put text piece room now count start taken fits was start_is taken_is =
    let size : length now ≡ length room = ap length was.shown ∙ length-laid_over text room in
    let start_at : start ≡ length (take (length room) text) =
    omega (arith, was.counted, length-take (length room) text) in
    let front : take start now ≡ take (length room) text = rw was.shown (take_at _ _ start (sym start_at)) in
    let rest : drop start now ≡ drop (length text) room = rw was.shown (drop_at _ _ start (sym start_at)) in
    let left : length now - start ≡ length (drop (length text) room) =
    omega (arith, length-drop (length text) room, length-take (length room) text) in
    let e : start + taken - start ≡ taken = omega arith in
    let taken_at : taken ≡ min (length (drop (length text) room)) (length piece) = omega arith in
    let taken_from : taken ≡ min (length piece) (length (drop (length text) room)) = omega arith in
    let head : take taken piece ≡ take (length (drop (length text) room)) piece =
    ap (λ (n : ℕ). take n piece) taken_at ∙ take_min _ piece in
    let tail : drop taken (drop start now) ≡ drop (length piece) (drop (length text) room) =
    ap (drop taken) rest ∙ ap (λ (n : ℕ). drop n (drop (length text) room)) taken_from
    ∙ drop_min (length piece) (drop (length text) room) in
    rw e (rw (front, head, tail) (sym (laid-append text piece room)))

pub adds : (text piece room now : List ℕ) (count start taken later : ℕ) → length room < 2 ^ 64 →
    ShowsText text room now count → start ≡ min count (length now) → taken ≡ min (length piece) (length now - start) →
    later ≡ min (count + length piece) (2 ^ 64 - 1) →
    ShowsText (text ++ piece) room (put_mid start (start + taken - start) now (take taken piece)) later
adds text piece room now count start taken later fits was start_is taken_is later_is = record {
  shown = put text piece room now count start taken fits was start_is taken_is;
  counted = omega (arith, was.counted, length-append text piece);
}

-- ---- Pieces one after the other

pub both : {first second third : Page} {a b : List ℕ} → Adds first second a → Adds second third b →
    Adds first third (a ++ b)
both {first} {second} {third} {a} {b} one other = record {
  goes_on = λ text room fits was.
      subst (λ (t : List ℕ). ShowsText t room third.room.now third.count) (append_assoc text a b)
      (other.goes_on (text ++ a) room fits (one.goes_on text room fits was));
}

pub told_as : {first second : Page} {a b : List ℕ} → Adds first second a → a ≡ b → Adds first second b
told_as {first} {second} adds same = subst (Adds first second) same adds

pub nothing_added : (page : Page) → Adds page page []
nothing_added page = record {
  goes_on = λ text room fits was.
      subst (λ (t : List ℕ). ShowsText t room page.room.now page.count) (sym (append-nil text)) was;
}

-- What is shown since a page, and then the rest, brings it to the whole.
pub record Brings (start now : Page) (rest whole : List ℕ) : Type 0 where
  pub front : List ℕ
  pub joined : front ++ rest ≡ whole
  pub added : Adds start now front

pub goes_on : {start now next : Page} {piece rest whole : List ℕ} → Brings start now (piece ++ rest) whole →
    Adds now next piece → Brings start next rest whole
goes_on {piece = piece} {rest = rest} brings adds = record {
  front = brings.front ++ piece;
  joined = append_assoc brings.front piece rest ∙ brings.joined;
  added = both brings.added adds;
}

pub brought : {start now : Page} {whole : List ℕ} → Brings start now [] whole → Adds start now whole
brought {start} {now} {whole} brings = subst (Adds start now) (sym (append-nil brings.front) ∙ brings.joined)
    brings.added

-- ---- The end

take-nil : (n : ℕ) → take {A = ℕ} n [] ≡ []
take-nil zero = refl
take-nil (suc n) = refl

-- no text yet
blank : (room : List ℕ) → ShowsText [] room room 0
blank room = record { shown = rw (take-nil (length room)) refl; counted = refl }

-- where the zero octet comes
abbrev last_place : (text room : List ℕ) → ℕ
last_place text room = min (length room - 1) (length text)

drop_past : (n : ℕ) (text room : List ℕ) → last_place text room < n → drop n (laid_over text room) ≡ drop n room
drop_past n text room past =
    let front = take (length room) text in
    let size : length front ≡ min (length room) (length text) = length-take (length room) text in
    let from : min (length text) (length room) ≡ length front = omega arith in
    let after : drop (length text) room ≡ drop (length front) room =
    sym (drop_min (length text) room) ∙ ap (λ (k : ℕ). drop k room) from in
    let whole : length front + (n - length front) ≡ n = omega arith in
    ap (λ (k : ℕ). drop k (laid_over text room)) (sym whole)
    ∙ drop-append-add front (drop (length text) room) (n - length front)
    ∙ ap (drop (n - length front)) after ∙ drop-drop (n - length front) (length front) room
    ∙ ap (λ (k : ℕ). drop k room) whole

take_cut : (text room : List ℕ) →
    take (last_place text room) (laid_over text room) ≡ take (length room - 1) text
take_cut text room =
    let size = length-take (length room) text in
    take-append-le (last_place text room) (take (length room) text) (drop (length text) room) (omega (arith, size))
    ∙ take-take (last_place text room) (length room) text (omega arith)
    ∙ take_min (length room - 1) text

some_ended : (text room now : List ℕ) (count : ℕ) → 0 < length room → length room < 2 ^ 64 →
    ShowsText text room now count → slice_set now (min count (length now - 1)) 0 ≡ shown_in room text
some_ended text room now count some fits shows =
    let size : length now ≡ length room = ap length shows.shown ∙ length-laid_over text room in
    let place : min count (length now - 1) ≡ last_place text room = omega (arith, shows.counted) in
    let cut = take (length room - 1) text in
    let cut_size : length cut ≡ last_place text room = length-take (length room - 1) text in
    let end_size : length (cut ++ 0 ∷ []) ≡ suc (last_place text room) =
    omega (arith, length-append cut (0 ∷ []), cut_size) in
    let rest : drop (suc (last_place text room)) now ≡ drop (length (cut ++ 0 ∷ [])) room =
    ap (drop (suc (last_place text room))) shows.shown
    ∙ drop_past (suc (last_place text room)) text room (omega arith) ∙ ap (λ (k : ℕ). drop k room) (sym end_size) in
    let front : take (last_place text room) now ≡ cut =
    ap (take (last_place text room)) shows.shown ∙ take_cut text room in
    let whole : take (length room) (cut ++ 0 ∷ []) ≡ cut ++ 0 ∷ [] = take_all _ _ (omega (arith, end_size)) in
    ap (λ (k : ℕ). slice_set now k 0) place ∙ set_split now (last_place text room) 0 (omega arith)
    ∙ rw (front, rest, whole) (sym (append_assoc cut (0 ∷ []) (drop (length (cut ++ 0 ∷ [])) room)))

all_ended : (text room now : List ℕ) (count : ℕ) → length room < 2 ^ 64 → ShowsText text room now count →
    ended count now ≡ shown_in room text
all_ended text [] now count fits shows =
    let none : now ≡ [] = shows.shown ∙ drop_all (length text) [] (omega arith) in rw none refl
all_ended text (x ∷ xs) now count fits shows =
    let size : length now ≡ suc (length xs) = ap length shows.shown ∙ length-laid_over text (x ∷ xs) in
    let test : eqb (length now) 0 ≡ false = grind (arith, nat_tests, size) in
    rw test (some_ended text (x ∷ xs) now count (omega arith) fits shows)

pub printed : {before after : Page} (text : List ℕ) → before.count ≡ 0 → length before.room.now < 2 ^ 64 →
    Adds before after text →
    (ended after.count after.room.now ≡ shown_in before.room.now text) × (after.count ≡ min (length text) (2 ^ 64 - 1))
printed {before} {after} text none fits adds =
    let room = before.room.now in
    let shows = adds.goes_on [] room fits (subst (ShowsText [] room room) (sym none) (blank room)) in
    (all_ended text room after.room.now after.count fits shows, shows.counted)
