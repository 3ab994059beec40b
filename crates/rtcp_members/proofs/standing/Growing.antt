-- What a fact that is no BYE leaves of the members, and how the counts of a table lie to each other.
use Rattle.std.proofs.Common.{◌≡◌, ◌≤◌, ℕ, suc, Bool, true, false, true≢false, cond, if◌then◌else◌, ◌||◌, ◌==◌, ◌&&◌, List, [], ◌∷◌, length, filter, Option, Some, None, is_some, is_none, option_and_then, arith, refl, sym, ap, subst, ◌∙◌, le_refl}
use Rattle.std.proofs.lemmas.Bool.{and_parts, or_right}
use Rattle.std.specs.FinMap as finite
use Rattle.rtcp_wire.specs.Facts.{subject, is_gone}
use Rattle.rtcp_wire.specs.declared.fact.Fact.{Fact}
use Rattle.rtcp_wire.specs.declared.fact.Fact.TheVariants.{Heard, Told, Named, Gone, Media}
use Rattle.rtcp_source.specs.Takings.{is_counted}
use Rattle.rtcp_source.specs.Steps.{taken_by}
use Rattle.rtcp_members.specs.declared.table.Place.TheVariants.{Kept, Ignored, Left}
use Rattle.rtcp_members.specs.Traces.{Horizons, TraceStep, fact_came, names}
use Rattle.rtcp_members.specs.Stays.{is_removed}
use Rattle.rtcp_members.specs.Entries.{EntryValue, still_sending, is_member, is_sender, is_such, entry_at, members_at}
use Rattle.rtcp_members.specs.Tables.{TableValue, changes, entry_after, entry_after_check, after_check, members_in, senders_in, updated}
use Rattle.rtcp_members.proofs.maps.Counting.{has, passing, passing_entries, keys_of, own_keys_once, has_own_key}
use Rattle.rtcp_members.proofs.maps.Updated.{get_updated}
use Rattle.rtcp_members.proofs.standing.Counts.{members_by_entries}
use Rattle.rtcp_members.proofs.stays.Naming.{room_at}
use Rattle.rtcp_members.proofs.stays.TraceStepLemmas.{kept_by, own_entry_at, other_entry_at}

-- ---- Two tests

pub more_pass : {X : Type 0} (f g : X → Bool) → ((x : X) → f x ≡ true → g x ≡ true) → (xs : List X) →
    passing f xs ≤ passing g xs
more_pass f g more [] = le_refl 0
more_pass f g more (x ∷ xs) =
    let rest = more_pass f g more xs in
    elim (f x) as (λ b. f x ≡ b → length (cond b (x ∷ filter f xs) (filter f xs)) ≤ length
    (cond (g x) (x ∷ filter g xs) (filter g xs))) [
      | true ↦ λ is. subst (λ b. suc (length (filter f xs)) ≤ length (cond b (x ∷ filter g xs) (filter g xs)))
          (sym (more x is)) (omega (arith, rest))
      | false ↦ λ is. elim (g x) as (λ b. length (filter f xs) ≤ length
          (cond b (x ∷ filter g xs) (filter g xs))) [ true ↦ omega (arith, rest) | false ↦ rest ]
    ] refl

one_more_name : (test : ℕ → Bool) (x : ℕ) (xs : List ℕ) → passing test xs ≤ passing test (x ∷ xs)
one_more_name test x xs = elim
    (test x) as (λ b. length (filter test xs) ≤ length (cond b (x ∷ filter test xs) (filter test xs))) [
      | true ↦
          omega arith
      | false ↦ le_refl _
    ]

-- ---- Members of a trace

still_member : (moment : ℕ) (fact : Fact) (entry : EntryValue) → is_gone fact ≡ false → is_member entry ≡ true →
    is_member (entry_after fact moment entry) ≡ true
still_member moment (Heard ssrc) entry stays member = member
still_member moment (Told ssrc ntp rtp) entry stays member = member
still_member moment (Named ssrc) entry stays member = (and_parts entry.valid _ member).1
still_member moment (Gone ssrc) entry stays member = absurd (true≢false stays)
still_member moment (Media ssrc seq timestamp octets rate) entry stays member =
    let parts = and_parts entry.valid _ member in
    λ i. or_right (is_counted (taken_by entry.source seq)) entry.valid parts.0 i && parts.1 i

unmarked : (mark : Option ℕ) → is_none mark ≡ true → is_some mark ≡ false
unmarked None h = refl
unmarked (Some m) h = absurd cc

kept_member : (moment : ℕ) (fact : Fact) (room : Bool) (entry : Option EntryValue) → is_gone fact ≡ false →
    is_such is_member entry ≡ true → is_such is_member (kept_by fact moment room entry) ≡ true
kept_member moment fact room None stays member = absurd (true≢false (sym member))
kept_member moment fact room (Some entry) stays member =
    let parts = and_parts entry.valid _ member in
    (λ i. is_such is_member (if changes
    (if unmarked entry.mark parts.1 i then Ignored else (if stays i then Left else Kept)) then Some
    (entry_after fact moment entry) else Some entry))
    ∙ still_member moment fact entry stays member

module _ (capacity : ℕ) (trace : List TraceStep) (fact : Fact) (moment : ℕ) (stays : is_gone fact ≡ false) where
  member_stays : (ssrc : ℕ) → is_such is_member (entry_at capacity trace ssrc) ≡ true →
      is_such is_member (entry_at capacity (fact_came fact moment ∷ trace) ssrc) ≡ true
  member_stays ssrc member =
      elim (subject fact == ssrc) as (λ b. (subject fact == ssrc) ≡ b →
      is_such is_member (entry_at capacity (fact_came fact moment ∷ trace) ssrc) ≡ true) [
        | true ↦ λ own. ap (is_such is_member) (own_entry_at capacity ssrc moment fact trace own)
            ∙ kept_member moment fact (room_at capacity trace) (entry_at capacity trace ssrc) stays member
        | false ↦ λ apart. ap (is_such is_member) (other_entry_at capacity ssrc moment fact trace apart) ∙ member
      ] refl

  no_fewer_names : (test : ℕ → Bool) (known : Bool) →
      passing test (names trace) ≤ passing test (cond known (names trace) (subject fact ∷ names trace))
  no_fewer_names test true = le_refl _
  no_fewer_names test false = one_more_name test (subject fact) (names trace)

  pub members_stay : members_at capacity trace ≤ members_at capacity (fact_came fact moment ∷ trace)
  members_stay =
      let before : ℕ → Bool = λ ssrc. is_such is_member (entry_at capacity trace ssrc) in
      let next : ℕ → Bool = λ ssrc. is_such is_member (entry_at capacity (fact_came fact moment ∷ trace) ssrc) in
      let more : passing before (names trace) ≤ passing next (names trace) = more_pass before next member_stays
      (names trace) in
      let further : passing next (names trace) ≤ passing next (names (fact_came fact moment ∷ trace)) =
      no_fewer_names next (is_gone fact || has (subject fact) (names trace)) in
      omega (
        arith,
        more,
        further,
        members_by_entries capacity trace,
        members_by_entries capacity (fact_came fact moment ∷ trace),
      )

-- ---- Counts of a table

sender_is_member : (entry : EntryValue) → is_sender entry ≡ true → is_member entry ≡ true
sender_is_member entry sends = (and_parts (is_member entry) _ sends).0

pub senders_are_members : (table : TableValue) → senders_in table ≤ members_in table
senders_are_members table = more_pass (λ (row : ℕ × EntryValue). is_sender row.1) (λ row. is_member row.1)
    (λ row. sender_is_member row.1) (finite.entries table.entries)

at_most_all : {X : Type 0} (test : X → Bool) (xs : List X) → passing test xs ≤ length xs
at_most_all test [] = le_refl 0
at_most_all test (x ∷ xs) =
    let rest = at_most_all test xs in
    elim (test x) as (λ b. length (cond b (x ∷ filter test xs) (filter test xs)) ≤ suc (length xs)) [
      | true ↦
          omega (arith, rest)
      | false ↦ omega (arith, rest)
    ]

pub members_are_entries : (table : TableValue) → members_in table ≤ finite.len table.entries
members_are_entries table = rw (finite.len-entries table.entries)
    (at_most_all (λ (row : ℕ × EntryValue). is_member row.1) (finite.entries table.entries))

-- ---- A check adds no sender

was_there : (step : EntryValue → Option EntryValue) (entry : Option EntryValue) →
    is_some (option_and_then step entry) ≡ true → is_some entry ≡ true
was_there step None found = found
was_there step (Some e) found = refl

-- What an entry passes after a check it passed before, if a sending that ends lets it pass no more.
pub checked_such : (test : EntryValue → Bool) (horizons : Horizons) → ((entry : EntryValue) →
    test (record entry { sending = still_sending horizons entry.sending }) ≡ true → test entry ≡ true)
    → (entry : Option EntryValue) → is_such test (option_and_then (entry_after_check horizons) entry) ≡ true →
    is_such test entry ≡ true
checked_such test horizons fewer None passes = passes
checked_such test horizons fewer (Some entry) passes =
    elim (is_removed horizons entry.sighting entry.mark) as (λ b. is_such test
    (if b then None else Some (if is_some entry.mark then entry else record
    entry { sending = still_sending horizons entry.sending })) ≡ true → test entry ≡ true) [
      | true ↦ λ h. absurd (true≢false (sym h))
      | false ↦ elim (is_some entry.mark) as (λ b. test
          (if b then entry else record entry { sending = still_sending horizons entry.sending }) ≡ true →
          test entry ≡ true) [ true ↦ λ h. h | false ↦ fewer entry ]
    ] passes

pub checked_sender : (horizons : Horizons) (entry : Option EntryValue) →
    is_such is_sender (option_and_then (entry_after_check horizons) entry) ≡ true → is_such is_sender entry ≡ true
checked_sender horizons =
    checked_such is_sender horizons (λ entry sends. let parts = and_parts (is_member entry)
    (is_some (still_sending horizons entry.sending)) sends in
    λ i. parts.0 i && was_sending entry.sending parts.1 i)
  where
    was_sending : (sending : Option ℕ) → is_some (still_sending horizons sending) ≡ true → is_some sending ≡ true
    was_sending None h = h
    was_sending (Some m) h = refl

pub check_adds_no_sender : (table : TableValue) (horizons : Horizons) →
    senders_in (after_check horizons table) ≤ senders_in table
check_adds_no_sender table horizons =
    let step = entry_after_check horizons in
    let keys = keys_of (finite.entries table.entries) in
    let once = own_keys_once table.entries in
    let known = has_own_key table.entries in
    let still = λ (key : ℕ) (found : is_some (finite.get (updated step table.entries) key) ≡ true). known key
    (was_there step (finite.get table.entries key) (ap is_some (sym (get_updated step table.entries key))
    ∙ found)) in
    let before : senders_in table ≡ passing (λ key. is_such is_sender (finite.get table.entries key)) keys =
    passing_entries is_sender keys once table.entries known in
    let next : senders_in (after_check horizons table) ≡ passing
    (λ key. is_such is_sender (finite.get (updated step table.entries) key)) keys =
    passing_entries is_sender keys once (updated step table.entries) still in
    let fewer = more_pass (λ key. is_such is_sender (finite.get (updated step table.entries) key))
    (λ key. is_such is_sender (finite.get table.entries key))
    (λ key sends. checked_sender horizons (finite.get table.entries key)
    (ap (is_such is_sender) (sym (get_updated step table.entries key)) ∙ sends)) keys in
    omega (arith, before, next, fewer)
