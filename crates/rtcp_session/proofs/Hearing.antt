-- Those whom a participant hears are counted.
use Rattle.std.proofs.Common.{◌≡◌, ℕ, ◌+◌, ◌-◌, ◌≤◌, ◌&&◌, ◌||◌, ◌==◌, not, Bool, true, false, cond, List, [], ◌∷◌, length, get_or, filter, All, Option, Some, None, is_some, option_map, if◌then◌else◌, refl, sym, ap, ◌∙◌, arith, subst}
use Rattle.std.proofs.Math.Nat.{le_trans, mul-le-mul_left}
use Rattle.std.specs.Cmp.{IsEquivalence}
use Rattle.std.specs.List.{IsDistinct, list_any}
use Rattle.std.specs.Set.{is_member as is_in}
use Rattle.std.proofs.lemmas.Bool.{eqb-true}
use Rattle.std.proofs.lemmas.Cmp.{nat_eq_equiv}
use Rattle.std.proofs.lemmas.List.Elements.{All-head, All-tail, All-weaker}
use Rattle.std.proofs.lemmas.Map.Made.{is_member-filter, length-le_from_is_member}
use Rattle.rtcp_members.specs.Traces.{TraceStep, names}
use Rattle.rtcp_members.specs.Stays.{stay_of}
use Rattle.rtcp_members.specs.Entries.{EntryValue, entry_at, entry_of, is_member, is_sender, is_such, count_at, members_at, senders_at}
use Rattle.rtcp_members.proofs.LawLemmas.{counts_are_of_entries-members, counts_are_of_entries-senders, present_were_named_and_fit-named}
use Rattle.rtcp_engine.specs.answers.Setups.{Setup}
use Rattle.rtcp_engine.specs.answers.OwnStreams.{we_sent}
use Rattle.rtcp_engine.specs.answers.Outcomes.{Outcome, load_of, one_if}
use Rattle.rtcp_session.specs.Windows.{Decided, load_at, Joined}
use Rattle.rtcp_session.specs.Joins.{CountsJoining, HearsJoining}
use Rattle.rtcp_session.specs.Waits.{Wait, open_at, CountsWaiting, AreCounted, HearsWaiting, AreHeardWaiting}
use Rattle.rtcp_session.specs.Crowds.{CountsMost, AreHeard, is_listener, has_role, HearsMost}

abbrev pub same : ℕ → ℕ → Bool
same one other = one == other

same_equiv : IsEquivalence same
same_equiv = nat_eq_equiv

-- ---- Distinct sources of a kind

one_of : (P : ℕ → Type 0) (numbers : List ℕ) → All P numbers → (number : ℕ) → is_in same numbers number ≡ true →
    P number
one_of P [] h number is = absurd cc
one_of P (first ∷ others) h number is = by (number == first) refl (one_of P others (All-tail P first others h) number)
  where
    by : (b : Bool) → (number == first) ≡ b → (is_in same others number ≡ true → P number) → P number
    by true here later = subst P (sym (eqb-true number first here)) (All-head P first others h)
    by false apart later = later (sym (ap (λ (b : Bool). b || is_in same others number) apart) ∙ is)

there_is : (test : EntryValue → Bool) (ssrc : ℕ) (stay : Option (List TraceStep)) →
    is_such test (option_map (entry_of ssrc) stay) ≡ true → is_some stay ≡ true
there_is test ssrc None is = absurd cc
there_is test ssrc (Some stay) is = refl

heard_counted : (test : EntryValue → Bool) (capacity : ℕ) (trace : List TraceStep) (ssrcs : List ℕ) →
    IsDistinct same ssrcs
    → All (λ ssrc. is_such test (entry_at capacity trace ssrc) ≡ true) ssrcs →
    length ssrcs ≤ count_at test capacity trace
heard_counted test capacity trace ssrcs apart heard =
    length-le_from_is_member same_equiv ssrcs (filter counts (names trace)) apart
    (λ ssrc is. kept ssrc (one_of (λ (s : ℕ). counts s ≡ true) ssrcs heard ssrc is))
  where
    counts : ℕ → Bool
    counts ssrc = is_such test (entry_at capacity trace ssrc)

    alike : (one other : ℕ) → (one == other) ≡ true → counts one ≡ counts other
    alike one other is = ap counts (eqb-true one other is)

    kept : (ssrc : ℕ) → counts ssrc ≡ true → is_in same (filter counts (names trace)) ssrc ≡ true
    kept ssrc is =
        let there : is_some (stay_of capacity trace ssrc) ≡ true = there_is test ssrc (stay_of capacity trace ssrc)
        is in
        let named : list_any (λ named. named == ssrc) (names trace) ≡ true = present_were_named_and_fit-named capacity
        trace ssrc there in
        let among : is_in same (names trace) ssrc ≡ true =
        (λ i. list_any (λ (named : ℕ). same_equiv.symm ssrc named i) (names trace)) ∙ named in
        is_member-filter same_equiv counts ssrc (alike ssrc) (names trace)
        ∙ ap (λ (b : Bool). b && counts ssrc) among ∙ is

-- ---- Members that do not send

two_kinds : (f g h : ℕ → Bool) →
    ((n : ℕ) → length (cond (f n) (n ∷ []) []) ≡ length (cond (g n) (n ∷ []) []) + length (cond (h n) (n ∷ []) [])) →
    (all : List ℕ)
    → length (filter f all) ≡ length (filter g all) + length (filter h all)
two_kinds f g h one [] = refl
two_kinds f g h one (n ∷ rest) = by (f n) (g n) (h n) (one n) (two_kinds f g h one rest)
  where
    by : (x y z : Bool) → length (cond x (n ∷ []) []) ≡ length (cond y (n ∷ []) []) + length (cond z (n ∷ []) [])
        → length (filter f rest) ≡ length (filter g rest) + length (filter h rest)
        → length (cond x (n ∷ filter f rest) (filter f rest)) ≡ length (cond y (n ∷ filter g rest) (filter g rest))
        + length (cond z (n ∷ filter h rest) (filter h rest))
    by true true true is before = absurd (omega (arith, is))
    by true true false is before = omega (arith, before)
    by true false true is before = omega (arith, before)
    by true false false is before = absurd (omega (arith, is))
    by false true true is before = absurd (omega (arith, is))
    by false true false is before = absurd (omega (arith, is))
    by false false true is before = absurd (omega (arith, is))
    by false false false is before = before

members_are : (capacity : ℕ) (trace : List TraceStep) →
    members_at capacity trace ≡ senders_at capacity trace + count_at is_listener capacity trace
members_are capacity trace =
    counts_are_of_entries-members capacity trace
    ∙ two_kinds (such is_member) (such is_sender) (such is_listener)
    (λ ssrc. by_entry ssrc (entry_at capacity trace ssrc)) (names trace)
    ∙ ap (λ (senders : ℕ). senders + count_at is_listener capacity trace)
    (sym (counts_are_of_entries-senders capacity trace))
  where
    such : (EntryValue → Bool) → ℕ → Bool
    such test ssrc = is_such test (entry_at capacity trace ssrc)

    by_both : (ssrc : ℕ) (member sends : Bool) →
        length (cond member (ssrc ∷ []) []) ≡ length (cond (member && sends) (ssrc ∷ []) []) + length
        (cond (member && not (member && sends)) (ssrc ∷ []) [])
    by_both ssrc true true = refl
    by_both ssrc true false = refl
    by_both ssrc false sends = refl

    by_entry : (ssrc : ℕ) (entry : Option EntryValue)
        → length (cond (is_such is_member entry) (ssrc ∷ []) []) ≡ length
        (cond (is_such is_sender entry) (ssrc ∷ []) []) + length (cond (is_such is_listener entry) (ssrc ∷ []) [])
    by_entry ssrc None = refl
    by_entry ssrc (Some entry) = by_both ssrc (is_member entry) (is_some entry.sending)

-- ---- Loads

pub heard_members : (setup : Setup) (outcome : Outcome) (ssrcs : List ℕ) → AreHeard is_member setup outcome ssrcs →
    1 + length ssrcs ≤ (load_of setup outcome).members
heard_members setup outcome ssrcs h =
    let counted = heard_counted is_member setup.capacity outcome.trace ssrcs h.apart h.heard in
    omega (arith, counted, counts_are_of_entries-members setup.capacity outcome.trace)

pub heard_senders : (setup : Setup) (outcome : Outcome) (ssrcs : List ℕ) → AreHeard is_sender setup outcome ssrcs →
    one_if (we_sent outcome.own) + length ssrcs ≤ (load_of setup outcome).senders
heard_senders setup outcome ssrcs h =
    let counted = heard_counted is_sender setup.capacity outcome.trace ssrcs h.apart h.heard in
    omega (arith, counted, counts_are_of_entries-senders setup.capacity outcome.trace)

pub heard_listeners : (setup : Setup) (outcome : Outcome) (ssrcs : List ℕ) → AreHeard is_listener setup outcome ssrcs
    → one_if (not (we_sent outcome.own)) + length ssrcs
    ≤ (load_of setup outcome).members - (load_of setup outcome).senders
heard_listeners setup outcome ssrcs h =
    let counted = heard_counted is_listener setup.capacity outcome.trace ssrcs h.apart h.heard in
    let others = members_are setup.capacity outcome.trace in
    let own = one (we_sent outcome.own) in
    omega (arith, counted, others, own)
  where
    one : (sends : Bool) → one_if (not sends) + one_if sends ≡ 1
    one true = refl
    one false = refl

-- ---- A crowd

same_role_counted : (setup : Setup) (outcome : Outcome) (ssrcs : List ℕ) (sends : Bool) → we_sent outcome.own ≡ sends →
    AreHeard (has_role sends) setup outcome ssrcs
    → 1 + length ssrcs ≤ (if sends then (load_of setup outcome).senders else
    (load_of setup outcome).members - (load_of setup outcome).senders)
same_role_counted setup outcome ssrcs true is h =
    let own : one_if (we_sent outcome.own) ≡ 1 = ap one_if is in
    let counted = heard_senders setup outcome ssrcs h in
    omega (arith, own, counted)
same_role_counted setup outcome ssrcs false is h =
    let own : one_if (not (we_sent outcome.own)) ≡ 1 = ap (λ (sends : Bool). one_if (not sends)) is in
    let counted = heard_listeners setup outcome ssrcs h in
    omega (arith, own, counted)

pub heard_are_counted : (percent from width : ℕ) (all : List Joined) (decided : Decided) →
    HearsMost percent from width all decided → CountsMost percent from width all (load_at decided)
heard_are_counted percent from width all decided h =
    let members = mul-le-mul_left percent (heard_members decided.setup decided.outcome h.members h.heard) in
    let alike = mul-le-mul_left percent
    (same_role_counted decided.setup decided.outcome h.those (load_at decided).we_sent refl h.same_role) in
    record { everyone = le_trans h.everyone members; alike = le_trans h.alike alike }

-- ---- Those who wait

heard_waiting_are_counted : (percent : ℕ) (waits : List Wait) (moment : ℕ) (decided : Decided) →
    HearsWaiting percent waits moment decided → CountsWaiting percent waits moment (load_at decided)
heard_waiting_are_counted percent waits moment decided h =
    let members = mul-le-mul_left percent (heard_members decided.setup decided.outcome h.members h.heard) in
    let alike = mul-le-mul_left percent
    (same_role_counted decided.setup decided.outcome h.those (load_at decided).we_sent refl h.same_role) in
    record { everyone = le_trans h.everyone members; alike = le_trans h.alike alike }

pub those_heard_wait : (percent : ℕ) (waits : List Wait) → AreHeardWaiting percent waits → AreCounted percent waits
those_heard_wait percent waits h =
    λ k d inside.
    let moment = (get_or waits k d).until in
    All-weaker (λ (wait : Wait). HearsWaiting percent waits moment wait.next)
    (λ (wait : Wait). CountsWaiting percent waits moment (load_at wait.next))
    (λ wait hears. heard_waiting_are_counted percent waits moment wait.next hears) (open_at moment waits) (h k d inside)

-- ---- Those who join

pub those_heard_join : (percent : ℕ) (joins : List Wait) → All (HearsJoining percent joins) joins →
    All (CountsJoining percent joins) joins
those_heard_join percent joins h =
    All-weaker (HearsJoining percent joins) (CountsJoining percent joins)
    (λ join hears.
    let counted = mul-le-mul_left percent
    (same_role_counted join.next.setup join.next.outcome hears.those (load_at join.next).we_sent refl hears.heard) in
    le_trans hears.enough counted) joins h
