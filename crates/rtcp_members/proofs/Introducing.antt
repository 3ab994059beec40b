-- A source whose CNAME comes is a member, if there is room for it.
use Rattle.std.proofs.Common.{◌≡◌, ℕ, zero, suc, ◌+◌, ◌≤◌, ◌&&◌, ◌||◌, ◌==◌, not, nat_lt, Bool, true, false, cond, List, [], ◌∷◌, length, filter, All, Contains, Option, Some, None, is_some, if◌then◌else◌, refl, sym, ap, ◌∙◌, arith, subst}
use Rattle.std.proofs.lemmas.Bool.{eq-eqb}
use Rattle.std.proofs.lemmas.Bool.Decides.{nat_tests}
use Rattle.std.proofs.lemmas.List.Elements.{All-head, All-tail}
use Rattle.rtcp_wire.specs.declared.fact.Fact.{Fact}
use Rattle.rtcp_wire.specs.declared.fact.Fact.TheVariants.{Named}
use Rattle.rtcp_wire.specs.Facts.{subject, is_gone}
use Rattle.rtcp_members.specs.Traces.{TraceStep, fact_came, names, with_facts}
use Rattle.rtcp_members.specs.Stays.{present_among, stay_with, stay_of}
use Rattle.rtcp_members.specs.Lasting.{count_of_others, has_room_beside, IsUnmarked, MayBring}
use Rattle.rtcp_members.specs.Entries.{gives_name, is_counted_by, given_of, is_valid, entry_at, is_member, is_such}
use Rattle.rtcp_members.specs.Tables.{after_fact, table_at}
use Rattle.rtcp_members.proofs.StepByStep.{valid_after}
use Rattle.rtcp_members.proofs.standing.Capacity.{fact_keeps_bounds, fact_adds_one}
use Rattle.rtcp_members.proofs.standing.Following.{fact_follows, len_is_present}
use Rattle.rtcp_members.proofs.stays.Naming.{admitted as admission}
use Rattle.rtcp_members.proofs.standing.TraceTables.{table_stands}
use Rattle.rtcp_members.proofs.Lasting.{unmarked_by, member_by_stay, member_on}

-- how many are present
abbrev present_in : (capacity : ℕ) → List TraceStep → ℕ
present_in capacity trace = present_among (names trace) (stay_of capacity trace)

-- A fact brings in one source at most.
at_most_one_more : (capacity : ℕ) (fact : Fact) (moment : ℕ) (trace : List TraceStep) →
    present_in capacity (fact_came fact moment ∷ trace) ≤ present_in capacity trace + 1
at_most_one_more capacity fact moment trace =
    let table = table_at capacity trace in
    let stands = table_stands capacity trace in
    let next = after_fact fact moment table in
    let same = (fact_keeps_bounds table fact moment).capacity in
    let now = len_is_present next (fact_came fact moment ∷ trace) (fact_follows table trace fact moment stands) in
    let held : present_in next.capacity (fact_came fact moment ∷ trace)
    ≡ present_in capacity (fact_came fact moment ∷ trace) =
    ap (λ (c : ℕ). present_in c (fact_came fact moment ∷ trace)) same in
    let before = len_is_present table trace stands in
    let more = fact_adds_one table fact moment in
    omega (arith, now, held, before, more)

-- ---- A fact of the source

-- a source that is absent, and that a fact names, is admitted
admitted : (capacity ssrc moment : ℕ) (fact : Fact) (trace : List TraceStep) → is_gone fact ≡ false →
    (subject fact == ssrc) ≡ true → stay_of capacity trace ssrc ≡ None →
    nat_lt (present_in capacity trace) capacity ≡ true →
    stay_of capacity (fact_came fact moment ∷ trace) ssrc ≡ Some (fact_came fact moment ∷ [])
admitted capacity ssrc moment fact trace stays own absent room =
    let step = fact_came fact moment in
    ap (stay_with capacity step (names trace) (stay_of capacity trace) ssrc) absent
    ∙ (λ i. elim (not (stays i) && own i) [ false ↦ None | true ↦ if room i then Some (step ∷ []) else None ])

-- a source that is absent, and that a fact does not name, stays absent
still_absent : (capacity ssrc moment : ℕ) (fact : Fact) (trace : List TraceStep) → (subject fact == ssrc) ≡ false →
    stay_of capacity trace ssrc ≡ None → stay_of capacity (fact_came fact moment ∷ trace) ssrc ≡ None
still_absent capacity ssrc moment fact trace other absent =
    let step = fact_came fact moment in
    ap (stay_with capacity step (names trace) (stay_of capacity trace) ssrc) absent
    ∙ by (is_gone fact) (subject fact == ssrc) other
  where
    by : (gone own : Bool) → own ≡ false →
        admission (not gone && own) (nat_lt (present_in capacity trace) capacity) (fact_came fact moment) ≡ None
    by true own is = refl
    by false true is = absurd cc
    by false false is = refl

-- a source that is present stays so
still_present : (capacity ssrc moment : ℕ) (fact : Fact) (trace stay : List TraceStep) →
    stay_of capacity trace ssrc ≡ Some stay →
    stay_of capacity (fact_came fact moment ∷ trace) ssrc ≡ Some (fact_came fact moment ∷ stay)
still_present capacity ssrc moment fact trace stay found =
    ap (stay_with capacity (fact_came fact moment) (names trace) (stay_of capacity trace) ssrc) found

-- what is no BYE of a source is none where it is a fact of it
not_gone : (gone own : Bool) → (gone && own) ≡ false → own ≡ true → gone ≡ false
not_gone true own quiet is = sym (sym quiet ∙ is)
not_gone false own quiet is = refl

enough : (n others capacity : ℕ) → nat_lt (n + others) capacity ≡ true → nat_lt n capacity ≡ true
enough n others capacity room = grind (arith, nat_tests, room)

-- ---- Facts one after the other

module _ (capacity ssrc moment : ℕ) (fact : Fact) (facts : List Fact) (trace : List TraceStep)
    (may : MayBring capacity ssrc (fact ∷ facts) trace) where
  quiet : (is_gone fact && subject fact == ssrc) ≡ false
  quiet = All-head (λ (fact : Fact). (is_gone fact && subject fact == ssrc) ≡ false) fact facts may.no_bye

  room_if_absent : stay_of capacity trace ssrc ≡ None →
      nat_lt (present_in capacity trace + count_of_others ssrc (fact ∷ facts)) capacity ≡ true
  room_if_absent absent =
      sym (ap (λ (stay : Option (List TraceStep)). is_some stay
      || nat_lt (present_in capacity trace + count_of_others ssrc (fact ∷ facts)) capacity) absent) ∙ may.room

  room_for_it : stay_of capacity trace ssrc ≡ None → nat_lt (present_in capacity trace) capacity ≡ true
  room_for_it absent =
      enough (present_in capacity trace) (count_of_others ssrc (fact ∷ facts)) capacity (room_if_absent absent)

  -- what the next fact leaves of the stay, and of the room
  next_stay : (stay : Option (List TraceStep)) → stay_of capacity trace ssrc ≡ stay → IsUnmarked ssrc stay →
      IsUnmarked ssrc (stay_of capacity (fact_came fact moment ∷ trace) ssrc)
  next_stay (Some stay) found unmarked =
      subst (IsUnmarked ssrc) (sym (still_present capacity ssrc moment fact trace stay found))
      (unmarked_by ssrc (fact_came fact moment) stay quiet unmarked)
  next_stay None found unmarked = by (subject fact == ssrc) refl
    where
      by : (own : Bool) → (subject fact == ssrc) ≡ own →
          IsUnmarked ssrc (stay_of capacity (fact_came fact moment ∷ trace) ssrc)
      by true own =
          subst (IsUnmarked ssrc) (sym (admitted capacity ssrc moment fact trace
          (not_gone (is_gone fact) (subject fact == ssrc) quiet own) own found (room_for_it found)))
          (unmarked_by ssrc (fact_came fact moment) [] quiet refl)
      by false other =
          subst (IsUnmarked ssrc) (sym (still_absent capacity ssrc moment fact trace other found)) tt

  next_room : (stay : Option (List TraceStep)) → stay_of capacity trace ssrc ≡ stay →
      has_room_beside (count_of_others ssrc facts) capacity ssrc (fact_came fact moment ∷ trace) ≡ true
  next_room (Some stay) found = there (still_present capacity ssrc moment fact trace stay found)
    where
      there : {now : List TraceStep} → stay_of capacity (fact_came fact moment ∷ trace) ssrc ≡ Some now →
          has_room_beside (count_of_others ssrc facts) capacity ssrc (fact_came fact moment ∷ trace) ≡ true
      there is = ap (λ (stay : Option (List TraceStep)). is_some stay || nat_lt
          (present_in capacity (fact_came fact moment ∷ trace) + count_of_others ssrc facts) capacity) is
  next_room None found = by (subject fact == ssrc) refl
    where
      there : {now : List TraceStep} → stay_of capacity (fact_came fact moment ∷ trace) ssrc ≡ Some now →
          has_room_beside (count_of_others ssrc facts) capacity ssrc (fact_came fact moment ∷ trace) ≡ true
      there is = ap (λ (stay : Option (List TraceStep)). is_some stay || nat_lt
          (present_in capacity (fact_came fact moment ∷ trace) + count_of_others ssrc facts) capacity) is

      fewer : (n now others : ℕ) → now ≤ n + 1 → nat_lt (n + suc others) capacity ≡ true →
          nat_lt (now + others) capacity ≡ true
      fewer n now others most room = grind (arith, nat_tests, most, room)

      by : (own : Bool) → (subject fact == ssrc) ≡ own →
          has_room_beside (count_of_others ssrc facts) capacity ssrc (fact_came fact moment ∷ trace) ≡ true
      by true own = there (admitted capacity ssrc moment fact trace
          (not_gone (is_gone fact) (subject fact == ssrc) quiet own) own found (room_for_it found))
      by false other =
          let one : count_of_others ssrc (fact ∷ facts) ≡ suc (count_of_others ssrc facts) =
          ap (λ (b : Bool). length (cond (not b) (fact ∷ filter (λ (fact : Fact). not (subject fact == ssrc)) facts)
          (filter (λ (fact : Fact). not (subject fact == ssrc)) facts))) other in
          let room = sym (ap (λ (n : ℕ). nat_lt (present_in capacity trace + n) capacity) one) ∙ room_if_absent found in
          let now = fewer (present_in capacity trace) (present_in capacity (fact_came fact moment ∷ trace))
          (count_of_others ssrc facts) (at_most_one_more capacity fact moment trace) room in
          ap (λ (stay : Option (List TraceStep)). is_some stay || nat_lt
          (present_in capacity (fact_came fact moment ∷ trace) + count_of_others ssrc facts) capacity)
          (still_absent capacity ssrc moment fact trace other found) ∙ now

  may_bring_on : MayBring capacity ssrc facts (fact_came fact moment ∷ trace)
  may_bring_on = record {
    no_bye =
        All-tail (λ (fact : Fact). (is_gone fact && subject fact == ssrc) ≡ false) fact facts may.no_bye;
    unmarked = next_stay (stay_of capacity trace ssrc) refl may.unmarked;
    room = next_room (stay_of capacity trace ssrc) refl;
  }

  -- the CNAME
  valid_now : (stay : List TraceStep) → fact ≡ Named ssrc → is_valid ssrc (fact_came fact moment ∷ stay) ≡ true
  valid_now stay is =
      let gives : gives_name ssrc (fact_came fact moment) ≡ true =
      ap (λ (fact : Fact). gives_name ssrc (fact_came fact moment)) is ∙ eq-eqb ssrc ssrc refl in
      valid_after ssrc stay (fact_came fact moment)
      ∙ ap (λ (b : Bool). b || is_counted_by ssrc (fact_came fact moment) (given_of ssrc stay) || is_valid ssrc stay)
      gives

  named_now : (stay : Option (List TraceStep)) → stay_of capacity trace ssrc ≡ stay → IsUnmarked ssrc stay →
      fact ≡ Named ssrc → is_such is_member (entry_at capacity (fact_came fact moment ∷ trace) ssrc) ≡ true
  named_now (Some stay) found unmarked is =
      member_by_stay capacity ssrc (fact_came fact moment ∷ trace) (fact_came fact moment ∷ stay) (record {
        is = record {
          found = still_present capacity ssrc moment fact trace stay found;
          unmarked = unmarked_by ssrc (fact_came fact moment) stay quiet unmarked;
        };
        valid = valid_now stay is;
      })
  named_now None found unmarked is =
      let own : (subject fact == ssrc) ≡ true =
      ap (λ (fact : Fact). subject fact == ssrc) is ∙ eq-eqb ssrc ssrc refl in
      member_by_stay capacity ssrc (fact_came fact moment ∷ trace) (fact_came fact moment ∷ []) (record {
        is = record {
          found = admitted capacity ssrc moment fact trace (ap is_gone is) own found (room_for_it found);
          unmarked = unmarked_by ssrc (fact_came fact moment) [] quiet refl;
        };
        valid = valid_now [] is;
      })

-- ---- All facts of a compound

pub members_through : (capacity ssrc moment : ℕ) (facts : List Fact) (trace : List TraceStep) →
    All (λ fact. (is_gone fact && subject fact == ssrc) ≡ false) facts →
    is_such is_member (entry_at capacity trace ssrc) ≡ true →
    is_such is_member (entry_at capacity (with_facts facts moment trace) ssrc) ≡ true
members_through capacity ssrc moment [] trace quiet member = member
members_through capacity ssrc moment (fact ∷ facts) trace quiet member =
    let Quiet : Fact → Type 0 = λ (fact : Fact). (is_gone fact && subject fact == ssrc) ≡ false in
    members_through capacity ssrc moment facts (fact_came fact moment ∷ trace) (All-tail Quiet fact facts quiet)
    (member_on capacity ssrc (fact_came fact moment) trace member
    (record { quiet = All-head Quiet fact facts quiet; kept = refl; heard = omega arith }))

pub named_become_members : (capacity ssrc moment : ℕ) (facts : List Fact) (trace : List TraceStep) →
    Contains facts (Named ssrc) → MayBring capacity ssrc facts trace →
    is_such is_member (entry_at capacity (with_facts facts moment trace) ssrc) ≡ true
named_become_members capacity ssrc moment [] trace (k, inside, is) may = absurd (omega (arith, inside))
named_become_members capacity ssrc moment (fact ∷ facts) trace (zero, inside, is) may =
    members_through capacity ssrc moment facts (fact_came fact moment ∷ trace)
    (All-tail (λ (fact : Fact). (is_gone fact && subject fact == ssrc) ≡ false) fact facts may.no_bye)
    (named_now capacity ssrc moment fact facts trace may (stay_of capacity trace ssrc) refl may.unmarked is)
named_become_members capacity ssrc moment (fact ∷ facts) trace (suc k, inside, is) may =
    named_become_members capacity ssrc moment facts (fact_came fact moment ∷ trace) (k, omega (arith, inside), is)
    (may_bring_on capacity ssrc moment fact facts trace may)
