-- The number of changes, and that a new identifier is a new one.
use Rattle.std.proofs.Common.{◌≡◌, ℕ, suc, zero, ◌+◌, ◌%◌, ◌^◌, ◌<◌, ◌≤◌, ◌&&◌, ◌||◌, ◌==◌, not, nat_lt, Bool, true, false, cond, List, [], ◌∷◌, ◌++◌, length, filter, is_some, Option, Some, None, if◌then◌else◌, refl, sym, ap, ◌∙◌, arith}
use Rattle.std.proofs.lemmas.Bool.{and_parts, cond_both, false≢true, eqb-true, ltb-true, ne_eqb}
use Rattle.std.proofs.lemmas.List.{length-append, length-map}
use Rattle.std.proofs.lemmas.Map.Made.{is_member-filter, length-le_from_is_member}
use Rattle.std.proofs.lemmas.List.Folds.{list_any-append}
use Rattle.std.proofs.lemmas.Cmp.{nat_eq_equiv}
use Rattle.std.specs.Cmp.{IsEquivalence}
use Rattle.std.specs.List.{AllByRecursion, IsDistinct, list_any}
use Rattle.std.specs.Set.{is_member}
use Rattle.rtcp_members.specs.Traces.{TraceStep, names}
use Rattle.rtcp_members.specs.Stays.{stay_of}
use Rattle.rtcp_members.proofs.LawLemmas.{present_were_named_and_fit-named, present_were_named_and_fit-fit}
use Rattle.rtcp_engine.specs.declared.changes.IdentifierChange.{IdentifierChange}
use Rattle.rtcp_engine.specs.declared.refusal.Refusal.TheVariants.{OwnSsrc}
use Rattle.rtcp_engine.specs.answers.Setups.{Setup}
use Rattle.rtcp_engine.specs.answers.Acts.{Datagram, Act, arrived, moment_of, OutValue}
use Rattle.rtcp_engine.specs.answers.Identities.{AreApart}
use Rattle.rtcp_engine.specs.answers.Leaving.{Life, present, backing_off, finished}
use Rattle.rtcp_engine.specs.answers.Changes.{NewIdentifier, Session, change_by, changed_by, changing_peers, identifiers, is_about, is_in_table, is_taken, most_taken, named_by, new_identifier, first_free, is_among, may_change, most_changes}
use Rattle.rtcp_engine.specs.answers.Histories.{History, brought_by, session_at, session_for, session_of}
use Rattle.rtcp_engine.specs.answers.Refusals.{refusal_if}
use Rattle.rtcp_engine.specs.state.Taken.{AllTaken, IsHistory}
use Rattle.rtcp_engine.specs.bounds.Sent.{Sent, deciding_interval, is_report, sent_over, sent_with}
use Rattle.rtcp_engine.specs.bounds.Spacing.{is_change_bye}
use Rattle.rtcp_engine.proofs.AnswerLemmas.{neither, unrefused}
use Rattle.rtcp_engine.proofs.Changing.{usable_in}
use Rattle.rtcp_engine.specs.answers.Answers.{fault_in, refusal_of_content}

-- ---- Few changes

may_if : (own may : Bool) → own ≡ true → refusal_if (own && not may) OwnSsrc ≡ None → may ≡ true
may_if true true is none = refl
may_if own may is none = absurd cc

-- a change is for a peer that may bring one
may_by : (session : Session) (moment peer word : ℕ) (datagram : Datagram) →
    refusal_of_content session (arrived moment peer word datagram) ≡ None →
    is_about session.setup.ssrc datagram ≡ true → may_change (changing_peers session) peer ≡ true
may_by session moment peer word datagram none own = may_if _ _ own (neither (fault_in datagram) _ none).1

few_after : (session : Session) (act : Act) → refusal_of_content session act ≡ None →
    length session.changes ≤ most_changes → length (session_for session act).changes ≤ most_changes
few_after session (arrived moment peer word datagram) none few =
    cond_both (is_about session.setup.ssrc datagram) (Some _) None
    (λ (change : Option NewIdentifier). length (changed_by change session).changes ≤ most_changes)
    (λ own.
    let below = ltb-true (length (changing_peers session)) most_changes
    (and_parts (not (is_among (changing_peers session) peer)) (nat_lt (length (changing_peers session)) most_changes)
    (may_by session moment peer word datagram none own)).1 in
    omega (arith, below, length-map session.changes (λ (change : IdentifierChange). change.peer)))
    (λ other. few)
few_after session act none few = few

pub few_listed : (setup : Setup) (word : ℕ) (acts : List Act) → AllTaken setup word acts →
    length (session_of setup word acts).changes ≤ most_changes
few_listed setup word [] taken = omega arith
few_listed setup word (act ∷ earlier) taken =
    few_after (session_of setup word earlier) act
    (unrefused (record { setup = setup; word = word; acts = earlier }) act taken.0).1
    (few_listed setup word earlier taken.2)

-- ---- A change for a peer

not_true : (b : Bool) → not b ≡ true → b ≡ false
not_true true h = absurd cc
not_true false h = refl

apart_after : (session : Session) (act : Act) → refusal_of_content session act ≡ None →
    AreApart (changing_peers session) → AreApart (changing_peers (session_for session act))
apart_after session (arrived moment peer word datagram) none apart =
    let peers = changing_peers session in
    cond_both (is_about session.setup.ssrc datagram) (Some _) None
    (λ (change : Option NewIdentifier). AreApart (changing_peers (changed_by change session)))
    (λ own.
    let other = and_parts (not (is_among peers peer)) (nat_lt (length peers) most_changes)
    (may_by session moment peer word datagram none own) in
    (not_true (is_among peers peer) other.0, apart))
    (λ other. apart)
apart_after session act none apart = apart

pub apart_listed : (setup : Setup) (word : ℕ) (acts : List Act) → AllTaken setup word acts →
    AreApart (changing_peers (session_of setup word acts))
apart_listed setup word [] taken = tt
apart_listed setup word (act ∷ earlier) taken =
    apart_after (session_of setup word earlier) act
    (unrefused (record { setup = setup; word = word; acts = earlier }) act taken.0).1
    (apart_listed setup word earlier taken.2)

-- how many changes an act brings
abbrev listed : (changes : Bool) → ℕ
listed changes = cond changes 1 0

-- An act sends a BYE of an old identifier only where it is a change.
few_sent_with : (moment interval : ℕ) (changes : Bool) (out : Option OutValue) (sent : List Sent) →
    length (filter is_change_bye (sent_with moment interval changes out ++ sent)) ≤ listed changes + length
    (filter is_change_bye sent)
few_sent_with moment interval changes None sent = omega arith
few_sent_with moment interval true (Some out) sent =
    let others = filter is_change_bye sent in
    cond_both (is_change_bye (record { moment = moment; interval = interval; out = out; changes = true })) _ others
    (λ (all : List Sent). length all ≤ 1 + length others) (λ _. omega arith) (λ _. omega arith)
few_sent_with moment interval false (Some out) sent =
    let others = filter is_change_bye sent in
    let report : Sent = record { moment = moment; interval = interval; out = out; changes = false } in
    cond_both (is_change_bye report) (report ∷ others) others (λ (all : List Sent). length all ≤ 0 + length others)
    (λ changes. absurd (false≢true (and_parts (not (is_report report)) false changes).1)) (λ _. omega arith)

lists_by : (change : Option NewIdentifier) (session : Session) → listed (is_some change) + length session.changes
    ≡ length (changed_by change session).changes
lists_by None session = omega arith
lists_by (Some new) session = omega arith

changes_are_listed : (setup : Setup) (word : ℕ) (acts : List Act) →
    length (filter is_change_bye (sent_over setup word acts)) ≤ length (session_of setup word acts).changes
changes_are_listed setup word [] = omega arith
changes_are_listed setup word (act ∷ earlier) =
    let session = session_of setup word earlier in
    let change = change_by session act in
    let more = few_sent_with (moment_of act) (deciding_interval session act) (is_some change) (brought_by session act)
    (sent_over setup word earlier) in
    omega (arith, more, lists_by change session, changes_are_listed setup word earlier)

pub few_changes : (setup : Setup) (word : ℕ) (acts : List Act) → AllTaken setup word acts →
    length (filter is_change_bye (sent_over setup word acts)) ≤ most_changes
few_changes setup word acts taken = omega (arith, changes_are_listed setup word acts, few_listed setup word acts taken)

-- ---- A new identifier

-- a number and those that follow it, modulo 2^32
abbrev run_from : (ssrc count : ℕ) → List ℕ
run_from ssrc zero = []
run_from ssrc (suc count) = ssrc ∷ run_from ((ssrc + 1) % 2 ^ 32) count

length_run : (ssrc count : ℕ) → length (run_from ssrc count) ≡ count
length_run ssrc zero = refl
length_run ssrc (suc count) = ap suc (length_run ((ssrc + 1) % 2 ^ 32) count)

-- none of those that follow a number by less than 2^32 is that number
others_follow : (first distance ssrc count : ℕ) → first < 2 ^ 32 → ssrc ≡ (first + distance) % 2 ^ 32 → 1 ≤ distance →
    distance + count ≤ 2 ^ 32
    → AllByRecursion (λ other. (first == other) ≡ false) (run_from ssrc count)
others_follow first distance ssrc zero fits is some few = tt
others_follow first distance ssrc (suc count) fits is some few = (
  ne_eqb first ssrc (λ same. omega (arith, fits, is, some, few, same)),
  others_follow first (distance + 1) ((ssrc + 1) % 2 ^ 32) count fits (omega (arith, is)) (omega arith)
      (omega (arith, few)),
)

run_is_distinct : (ssrc count : ℕ) → ssrc < 2 ^ 32 → count ≤ 2 ^ 32 →
    IsDistinct (λ (a b : ℕ). a == b) (run_from ssrc count)
unfolding IsDistinct
run_is_distinct ssrc zero fits few = tt
run_is_distinct ssrc (suc count) fits few = (
  others_follow ssrc 1 ((ssrc + 1) % 2 ^ 32) count fits refl (omega arith) (omega (arith, few)),
  run_is_distinct ((ssrc + 1) % 2 ^ 32) count (omega arith) (omega (arith, few)),
)

-- if what was chosen is taken, all that were tried are
all_taken : (most : ℕ) (is_taken : ℕ → Bool) (ssrc : ℕ) → is_taken (first_free most is_taken ssrc) ≡ true →
    AllByRecursion (λ tried. is_taken tried ≡ true) (run_from ssrc (suc most))
all_taken zero is_taken ssrc taken = (taken, tt)
all_taken (suc most) is_taken ssrc taken = by_test (is_taken ssrc) refl (all_taken most is_taken ((ssrc + 1) % 2 ^ 32))
  where
    false_is_true : false ≡ true → ⊥
    false_is_true e = cc

    by_test : (b : Bool) → is_taken ssrc ≡ b →
        (is_taken (first_free most is_taken ((ssrc + 1) % 2 ^ 32)) ≡ true →
        AllByRecursion (λ tried. is_taken tried ≡ true) (run_from ((ssrc + 1) % 2 ^ 32) (suc most)))
        → AllByRecursion (λ tried. is_taken tried ≡ true) (run_from ssrc (suc (suc most)))
    by_test true is others = (
      is,
      others
          (sym (ap (λ (b : Bool). is_taken (if b then first_free most is_taken ((ssrc + 1) % 2 ^ 32) else ssrc)) is)
          ∙ taken),
    )
    by_test false is others = absurd
        (false_is_true (sym is ∙ sym (ap
        (λ (b : Bool). is_taken (if b then first_free most is_taken ((ssrc + 1) % 2 ^ 32) else ssrc)) is)
        ∙ taken))

member_is_such : (test : ℕ → Bool) (numbers : List ℕ) (number : ℕ) →
    AllByRecursion (λ other. test other ≡ true) numbers → is_member (λ (a b : ℕ). a == b) numbers number ≡ true →
    test number ≡ true
member_is_such test [] number all is = absurd cc
member_is_such test (other ∷ others) number all is = by_test (number == other) refl
    (member_is_such test others number all.1)
  where
    by_test : (b : Bool) → (number == other) ≡ b →
        (is_member (λ (a b : ℕ). a == b) others number ≡ true → test number ≡ true) → test number ≡ true
    by_test true same later = ap test (eqb-true number other same) ∙ all.0
    by_test false apart later = later (sym (ap (λ (b : Bool). b || list_any (λ (y : ℕ). number == y) others) apart)
        ∙ is)

number_equality : IsEquivalence (λ (a b : ℕ). a == b)
number_equality = nat_eq_equiv

-- Where fewer numbers are taken than are tried, what is chosen is not.
pub chosen_is_free : (most : ℕ) (is_taken : ℕ → Bool) (ssrc : ℕ) (those : List ℕ) → ssrc < 2 ^ 32 → most < 2 ^ 32 →
    length those ≤ most
    → ((number : ℕ) → is_taken number ≡ true → is_member (λ (a b : ℕ). a == b) those number ≡ true) →
    is_taken (first_free most is_taken ssrc) ≡ false
chosen_is_free most is_taken ssrc those fits small few are = by_test (is_taken (first_free most is_taken ssrc)) refl
  where
    by_test : (b : Bool) → is_taken (first_free most is_taken ssrc) ≡ b →
        is_taken (first_free most is_taken ssrc) ≡ false
    by_test false free = free
    by_test true taken =
        let all = all_taken most is_taken ssrc taken in
        let within = length-le_from_is_member number_equality (run_from ssrc (suc most)) those
        (run_is_distinct ssrc (suc most) fits (omega (arith, small)))
        (λ number tried. are number (member_is_such is_taken (run_from ssrc (suc most)) number all tried)) in
        absurd (omega (arith, within, few, length_run ssrc (suc most)))

-- ---- What may be taken

-- the sources of a table
abbrev held_at : (capacity : ℕ) → List TraceStep → List ℕ
held_at capacity trace = filter (λ ssrc. is_some (stay_of capacity trace ssrc)) (names trace)

abbrev held_in : Setup → Life → List ℕ
held_in setup (present outcome) = held_at setup.capacity outcome.trace
held_in setup (backing_off outcome backoff) = held_at setup.capacity outcome.trace
held_in setup (finished outcome) = []

few_held : (setup : Setup) (life : Life) → length (held_in setup life) ≤ setup.capacity
few_held setup (present outcome) = present_were_named_and_fit-fit setup.capacity outcome.trace
few_held setup (backing_off outcome backoff) = present_were_named_and_fit-fit setup.capacity outcome.trace
few_held setup (finished outcome) = omega arith

abbrev those_taken : Session → Datagram → List ℕ
those_taken session datagram = identifiers session ++ (held_in session.setup session.life ++ named_by datagram)

few_taken : (session : Session) (datagram : Datagram) → length session.changes ≤ most_changes →
    length (those_taken session datagram) ≤ most_taken session datagram
few_taken session datagram few =
    let own = identifiers session in
    let held = held_in session.setup session.life in
    omega (
      arith,
      length-append own (held ++ named_by datagram),
      length-append held (named_by datagram),
      length-map session.changes (λ (change : IdentifierChange). change.former),
      few,
      few_held session.setup session.life,
    )

among_is_member : (numbers : List ℕ) (number : ℕ) → is_among numbers number ≡ is_member (λ (a b : ℕ). a == b) numbers
    number
among_is_member numbers number = λ i. list_any (λ (other : ℕ). number_equality.symm other number i) numbers

held_is_among : (capacity : ℕ) (trace : List TraceStep) (named : List ℕ) (ssrc : ℕ) →
    is_some (stay_of capacity trace ssrc) ≡ true → is_among named ssrc ≡ true
    → is_among (filter (λ other. is_some (stay_of capacity trace other)) named) ssrc ≡ true
held_is_among capacity trace named ssrc there is =
    let held = λ (other : ℕ). is_some (stay_of capacity trace other) in
    among_is_member (filter held named) ssrc
    ∙ is_member-filter number_equality held ssrc (λ other same. ap held (eqb-true ssrc other same)) named
    ∙ ap (λ (b : Bool). b && held ssrc) (sym (among_is_member named ssrc) ∙ is) ∙ there

in_table_is_held : (setup : Setup) (life : Life) (ssrc : ℕ) → is_in_table setup life ssrc ≡ true →
    is_among (held_in setup life) ssrc ≡ true
in_table_is_held setup (present outcome) ssrc is =
    held_is_among setup.capacity outcome.trace (names outcome.trace) ssrc is
    (present_were_named_and_fit-named setup.capacity outcome.trace ssrc is)
in_table_is_held setup (backing_off outcome backoff) ssrc is =
    held_is_among setup.capacity outcome.trace (names outcome.trace) ssrc is
    (present_were_named_and_fit-named setup.capacity outcome.trace ssrc is)
in_table_is_held setup (finished outcome) ssrc is = absurd cc

one_instead : (a b c d : Bool) → (b ≡ true → c ≡ true) → (a || (b || d)) ≡ true → (a || (c || d)) ≡ true
one_instead true b c d h is = refl
one_instead false true c d h is = ap (λ (x : Bool). x || d) (h refl)
one_instead false false true d h is = refl
one_instead false false false d h is = is

taken_is_among : (session : Session) (datagram : Datagram) (ssrc : ℕ) → is_taken session datagram ssrc ≡ true →
    is_among (those_taken session datagram) ssrc ≡ true
taken_is_among session datagram ssrc is =
    let own = identifiers session in
    let held = held_in session.setup session.life in
    let named = named_by datagram in
    let is_it = λ (other : ℕ). other == ssrc in
    list_any-append is_it own (held ++ named)
    ∙ ap (λ (b : Bool). is_among own ssrc || b) (list_any-append is_it held named)
    ∙ one_instead (is_among own ssrc) (is_in_table session.setup session.life ssrc) (is_among held ssrc)
    (is_among named ssrc) (in_table_is_held session.setup session.life ssrc) is

-- A new identifier is none of the participant's, none of the table's, and none that the datagram names.
new_in_session : (session : Session) (datagram : Datagram) (word : ℕ) → session.setup.capacity ≤ 1024 →
    length session.changes ≤ most_changes → word < 2 ^ 32 → length (named_by datagram) < 2 ^ 31
    → is_taken session datagram (new_identifier word session datagram) ≡ false
new_in_session session datagram word small listed fits few =
    chosen_is_free (most_taken session datagram) (is_taken session datagram) word (those_taken session datagram) fits
    (omega (arith, few, small)) (few_taken session datagram listed)
    (λ number taken. sym (among_is_member (those_taken session datagram) number)
    ∙ taken_is_among session datagram number taken)

pub new_is_free : (history : History) (datagram : Datagram) (word : ℕ) → IsHistory history → word < 2 ^ 32 →
    length (named_by datagram) < 2 ^ 31 →
    is_taken (session_at history) datagram (new_identifier word (session_at history) datagram) ≡ false
new_is_free history datagram word is fits few =
    new_in_session (session_at history) datagram word
    (usable_in history.setup history.word history.acts is.usable is.taken).capacity.1
    (few_listed history.setup history.word history.acts is.taken) fits few

-- Fewer than 2^17 stand in the way, where a datagram names fewer than 2^16.
pub few_are_taken : (history : History) (datagram : Datagram) → IsHistory history →
    length (named_by datagram) < 2 ^ 16 → most_taken (session_at history) datagram < 2 ^ 17
few_are_taken history datagram is few =
    omega (arith, few, (usable_in history.setup history.word history.acts is.usable is.taken).capacity.1)
