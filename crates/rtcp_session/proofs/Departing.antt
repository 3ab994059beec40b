-- What a step of a trace leaves of the members: those who do not depart by it. So they fall in number only where one
-- of them departs.
use Rattle.std.proofs.Common.{◌≡◌, ℕ, ◌+◌, ◌<◌, ◌≤◌, ◌&&◌, ◌||◌, ◌==◌, not, nat_lt, Bool, true, false, cond, List, [], ◌∷◌, length, filter, Option, Some, None, is_none, is_some, option_map, if◌then◌else◌, refl, sym, ap, ◌∙◌, arith, le_refl}
use Rattle.std.specs.List.{list_any}
use Rattle.std.proofs.lemmas.Bool.{ltb-false, or_parts, or_right}
use Rattle.rtcp_wire.specs.declared.fact.Fact.{Fact}
use Rattle.rtcp_wire.specs.Facts.{subject, is_gone}
use Rattle.rtcp_members.specs.Traces.{Horizons, TraceStep, fact_came, check_made, block_made_of, source_forgotten, names, with_facts, with_blocks}
use Rattle.rtcp_members.specs.Stays.{mark_at, mark_of, ends_stay, is_removed, last_naming, stay_of, stay_with}
use Rattle.rtcp_members.specs.Entries.{count_at, entry_of, entry_at, is_member, is_such, members_at}
use Rattle.rtcp_members.proofs.Lasting.{all_before, member_on, naming_of_stay, stay_of_member}
use Rattle.rtcp_members.proofs.StepByStep.{mark_after}
use Rattle.rtcp_members.proofs.LawLemmas.{counts_are_of_entries-members, present_were_named_and_fit-named, roles_move_with_counts-block, roles_move_with_counts-kept}

-- whether one of these facts says that a source left
abbrev pub says_bye_among : (ssrc : ℕ) → List Fact → Bool
says_bye_among ssrc facts = list_any (λ fact. is_gone fact && subject fact == ssrc) facts

-- whether a source is one of these
abbrev pub is_in : ℕ → List ℕ → Bool
is_in x xs = list_any (λ other. other == x) xs

-- ---- Members after a step

module _ (capacity : ℕ) where
  -- whether a source is a member by a trace
  abbrev pub member : List TraceStep → ℕ → Bool
  member trace ssrc = is_such is_member (entry_at capacity trace ssrc)

  -- A source without a stay is no member.
  no_stay : (ssrc : ℕ) (trace : List TraceStep) → stay_of capacity trace ssrc ≡ None → member trace ssrc ≡ false
  no_stay ssrc trace none =
      ap (λ (stay : Option (List TraceStep)). is_such is_member (option_map (entry_of ssrc) stay)) none

  -- The stay of a member ends with a step.
  ended : (ssrc : ℕ) (step : TraceStep) (trace stay : List TraceStep) → stay_of capacity trace ssrc ≡ Some stay →
      ends_stay ssrc step stay ≡ true → member (step ∷ trace) ssrc ≡ false
  ended ssrc step trace stay found ends =
      no_stay ssrc (step ∷ trace)
      (ap (stay_with capacity step (names trace) (stay_of capacity trace) ssrc) found
      ∙ ap (λ (b : Bool). if b then None else Some (step ∷ stay)) ends)

  -- ---- Checks

  checked_member : (ssrc : ℕ) (horizons : Horizons) (trace : List TraceStep) → member trace ssrc ≡ true →
      member (check_made horizons ∷ trace) ssrc ≡ not (nat_lt (last_naming ssrc trace) horizons.silent)
  checked_member ssrc horizons trace is = by (nat_lt (last_naming ssrc trace) horizons.silent) refl
    where
      by : (silent : Bool) → nat_lt (last_naming ssrc trace) horizons.silent ≡ silent →
          member (check_made horizons ∷ trace) ssrc ≡ not silent
      by true silent =
          let (stay, lasts) = stay_of_member capacity ssrc trace is in
          let last : last_naming ssrc trace ≡ last_naming ssrc stay =
          naming_of_stay capacity ssrc trace stay lasts.is.found in
          ended ssrc (check_made horizons) trace stay lasts.is.found
          ((λ i. is_removed horizons (last_naming ssrc (all_before ssrc stay lasts.is.unmarked i))
          (lasts.is.unmarked i))
          ∙ ap (λ (n : ℕ). nat_lt n horizons.silent || false) (sym last)
          ∙ ap (λ (b : Bool). b || false) silent)
      by false heard =
          member_on capacity ssrc (check_made horizons) trace is
          (record { quiet = refl; kept = refl; heard = ltb-false (last_naming ssrc trace) horizons.silent heard })

  -- ---- Sources that the host says are gone

  forgotten_member : (ssrc gone : ℕ) (trace : List TraceStep) → member trace ssrc ≡ true →
      member (source_forgotten gone ∷ trace) ssrc ≡ not (gone == ssrc)
  forgotten_member ssrc gone trace is = by (gone == ssrc) refl
    where
      by : (own : Bool) → (gone == ssrc) ≡ own → member (source_forgotten gone ∷ trace) ssrc ≡ not own
      by true own =
          let (stay, lasts) = stay_of_member capacity ssrc trace is in
          ended ssrc (source_forgotten gone) trace stay lasts.is.found
          (λ i. own i && is_none (lasts.is.unmarked i))
      by false apart =
          member_on capacity ssrc (source_forgotten gone) trace is
          (record { quiet = refl; kept = apart; heard = omega arith })

  -- ---- Blocks

  block_member : (ssrc reported : ℕ) (trace : List TraceStep) →
      member trace ssrc ≡ member (block_made_of reported ∷ trace) ssrc
  block_member ssrc reported trace =
      (roles_move_with_counts-kept capacity (block_made_of reported) trace
      (roles_move_with_counts-block capacity reported trace) ssrc).0

  blocks_member : (ssrc : ℕ) (ssrcs : List ℕ) (trace : List TraceStep) →
      member trace ssrc ≡ member (with_blocks ssrcs trace) ssrc
  blocks_member ssrc [] trace = refl
  blocks_member ssrc (reported ∷ ssrcs) trace =
      block_member ssrc reported trace ∙ blocks_member ssrc ssrcs (block_made_of reported ∷ trace)

  -- ---- Facts

  -- one that sent a BYE
  record IsMarked (ssrc : ℕ) (trace : List TraceStep) : Type 0 where
    stay : List TraceStep
    moment : ℕ
    found : stay_of capacity trace ssrc ≡ Some stay
    marked : mark_of ssrc stay ≡ Some moment

  marked_is_none : (ssrc : ℕ) (trace : List TraceStep) → IsMarked ssrc trace → member trace ssrc ≡ false
  marked_is_none ssrc trace h =
      ap (λ (stay : Option (List TraceStep)). is_such is_member (option_map (entry_of ssrc) stay)) h.found
      ∙ by (entry_of ssrc h.stay).valid (mark_of ssrc h.stay) h.marked
    where
      by : (valid : Bool) (mark : Option ℕ) → mark ≡ Some h.moment → (valid && is_none mark) ≡ false
      by true mark is = ap (λ (m : Option ℕ). is_none m) is
      by false mark is = refl

  still_marked : (ssrc t : ℕ) (fact : Fact) (trace : List TraceStep) → IsMarked ssrc trace →
      IsMarked ssrc (fact_came fact t ∷ trace)
  still_marked ssrc t fact trace h = record {
    stay = fact_came fact t ∷ h.stay;
    moment = h.moment;
    found = ap (stay_with capacity (fact_came fact t) (names trace) (stay_of capacity trace) ssrc) h.found;
    marked = mark_after ssrc (fact_came fact t) h.stay ∙ ap (mark_at ssrc (fact_came fact t)) h.marked;
  }

  marked_through : (ssrc t : ℕ) (facts : List Fact) (trace : List TraceStep) → IsMarked ssrc trace →
      member (with_facts facts t trace) ssrc ≡ false
  marked_through ssrc t [] trace h = marked_is_none ssrc trace h
  marked_through ssrc t (fact ∷ facts) trace h =
      marked_through ssrc t facts (fact_came fact t ∷ trace) (still_marked ssrc t fact trace h)

  marked_now : (ssrc t : ℕ) (fact : Fact) (trace : List TraceStep) → member trace ssrc ≡ true →
      (is_gone fact && subject fact == ssrc) ≡ true → IsMarked ssrc (fact_came fact t ∷ trace)
  marked_now ssrc t fact trace is says =
      let (stay, lasts) = stay_of_member capacity ssrc trace is in
      record {
        stay = fact_came fact t ∷ stay;
        moment = t;
        found = ap (stay_with capacity (fact_came fact t) (names trace) (stay_of capacity trace) ssrc) lasts.is.found;
        marked =
            mark_after ssrc (fact_came fact t) stay
            ∙ ap (mark_at ssrc (fact_came fact t)) lasts.is.unmarked
            ∙ ap (λ (b : Bool). if b then Some t else None) says;
      }

  facts_member : (ssrc t : ℕ) (facts : List Fact) (trace : List TraceStep) → member trace ssrc ≡ true →
      member (with_facts facts t trace) ssrc ≡ not (says_bye_among ssrc facts)
  facts_member ssrc t [] trace is = is
  facts_member ssrc t (fact ∷ facts) trace is =
      by (is_gone fact && subject fact == ssrc) refl (facts_member ssrc t facts (fact_came fact t ∷ trace))
    where
      by : (says : Bool) → (is_gone fact && subject fact == ssrc) ≡ says →
          (member (fact_came fact t ∷ trace) ssrc ≡ true →
          member (with_facts facts t (fact_came fact t ∷ trace)) ssrc ≡ not (says_bye_among ssrc facts)) →
          member (with_facts facts t (fact_came fact t ∷ trace)) ssrc ≡ not (says || says_bye_among ssrc facts)
      by true says still = marked_through ssrc t facts (fact_came fact t ∷ trace) (marked_now ssrc t fact trace is says)
      by false quiet still =
          still (member_on capacity ssrc (fact_came fact t) trace is
          (record { quiet = quiet; kept = refl; heard = omega arith }))

-- ---- Names

one_more_name : (test : ℕ → Bool) (known : Bool) (x : ℕ) (xs : List ℕ) →
    length (filter test xs) ≤ length (filter test (if known then xs else x ∷ xs))
one_more_name test true x xs = le_refl _
one_more_name test false x xs = by (test x)
  where
    by : (passes : Bool) → length (filter test xs) ≤ length (cond passes (x ∷ filter test xs) (filter test xs))
    by true = omega arith
    by false = le_refl _

facts_name : (test : ℕ → Bool) (t : ℕ) (facts : List Fact) (trace : List TraceStep) →
    length (filter test (names trace)) ≤ length (filter test (names (with_facts facts t trace)))
facts_name test t [] trace = le_refl _
facts_name test t (fact ∷ facts) trace =
    let known : Bool = is_gone fact || list_any (λ ssrc. ssrc == subject fact) (names trace) in
    let one : length (filter test (names trace)) ≤ length (filter test (names (fact_came fact t ∷ trace))) =
    one_more_name test known (subject fact) (names trace) in
    let rest : length (filter test (names (fact_came fact t ∷ trace)))
    ≤ length (filter test (names (with_facts facts t (fact_came fact t ∷ trace)))) =
    facts_name test t facts (fact_came fact t ∷ trace) in
    omega (arith, one, rest)

-- Whom a fact does not name yet is no earlier member, and so those are counted once.
known_before : (test : ℕ → Bool) (fact : Fact) (trace : List TraceStep) →
    ((x : ℕ) → test x ≡ true → is_in x (names trace) ≡ true) → (known : Bool) →
    (is_gone fact || is_in (subject fact) (names trace)) ≡ known →
    length (filter test (if known then names trace else subject fact ∷ names trace))
    ≤ length (filter test (names trace))
known_before test fact trace all true is = le_refl _
known_before test fact trace all false is = by (test (subject fact)) (all (subject fact))
  where
    by : (passes : Bool) → (passes ≡ true → is_in (subject fact) (names trace) ≡ true) →
        length (cond passes (subject fact ∷ filter test (names trace)) (filter test (names trace)))
        ≤ length (filter test (names trace))
    by true there =
        let unknown = (or_parts (is_gone fact) (is_in (subject fact) (names trace)) is).1 in
        let both : false ≡ true = sym unknown ∙ there refl in absurd cc
    by false there = le_refl _

still_in : (x : ℕ) (fact : Fact) (trace : List TraceStep) → is_in x (names trace) ≡ true →
    is_in x (names (fact_came fact 0 ∷ trace)) ≡ true
still_in x fact trace there = by (is_gone fact || is_in (subject fact) (names trace))
  where
    by : (known : Bool) → is_in x (if known then names trace else subject fact ∷ names trace) ≡ true
    by true = there
    by false = or_right (subject fact == x) (is_in x (names trace)) there

facts_known : (test : ℕ → Bool) (t : ℕ) (facts : List Fact) (trace : List TraceStep) →
    ((x : ℕ) → test x ≡ true → is_in x (names trace) ≡ true) →
    length (filter test (names (with_facts facts t trace))) ≤ length (filter test (names trace))
facts_known test t [] trace all = le_refl _
facts_known test t (fact ∷ facts) trace all =
    let one : length (filter test (names (fact_came fact t ∷ trace))) ≤ length (filter test (names trace)) =
    known_before test fact trace all (is_gone fact || is_in (subject fact) (names trace)) refl in
    let rest : length (filter test (names (with_facts facts t (fact_came fact t ∷ trace))))
    ≤ length (filter test (names (fact_came fact t ∷ trace))) =
    facts_known test t facts (fact_came fact t ∷ trace) (λ x is. still_in x fact trace (all x is)) in
    omega (arith, one, rest)

blocks_known : (test : ℕ → Bool) (ssrcs : List ℕ) (trace : List TraceStep) →
    length (filter test (names (with_blocks ssrcs trace))) ≤ length (filter test (names trace))
blocks_known test [] trace = le_refl _
blocks_known test (reported ∷ ssrcs) trace = blocks_known test ssrcs (block_made_of reported ∷ trace)

blocks_name : (test : ℕ → Bool) (ssrcs : List ℕ) (trace : List TraceStep) →
    length (filter test (names trace)) ≤ length (filter test (names (with_blocks ssrcs trace)))
blocks_name test [] trace = le_refl _
blocks_name test (reported ∷ ssrcs) trace = blocks_name test ssrcs (block_made_of reported ∷ trace)

-- ---- Counts

-- Where nobody passes a test and departs, no fewer pass what those pass who did not depart.
no_fewer : (test departs later : ℕ → Bool) → ((x : ℕ) → test x ≡ true → later x ≡ not (departs x)) → (xs : List ℕ) →
    list_any (λ x. test x && departs x) xs ≡ false → length (filter test xs) ≤ length (filter later xs)
no_fewer test departs later stay [] none = le_refl 0
no_fewer test departs later stay (x ∷ xs) none =
    let parts = or_parts (test x && departs x) (list_any (λ x. test x && departs x) xs) none in
    by (test x) (departs x) (later x) (stay x) parts.0 (no_fewer test departs later stay xs parts.1)
  where
    by : (passes departs_here passes_later : Bool) → (passes ≡ true → passes_later ≡ not departs_here) →
        (passes && departs_here) ≡ false → length (filter test xs) ≤ length (filter later xs) →
        length (cond passes (x ∷ filter test xs) (filter test xs))
        ≤ length (cond passes_later (x ∷ filter later xs) (filter later xs))
    by true true passes_later stays none_here rest = absurd cc
    by true false true stays none_here rest = omega (arith, rest)
    by true false false stays none_here rest = absurd (let is : false ≡ true = stays refl in cc)
    by false departs_here true stays none_here rest = omega (arith, rest)
    by false departs_here false stays none_here rest = rest

-- What a trace has come to: of its members just those are none any more who depart, and nobody who was named is left
-- out of the count.
pub record Leaves (capacity : ℕ) (departs : ℕ → Bool) (before now : List TraceStep) : Type 0 where
  pub roles : (ssrc : ℕ) → member capacity before ssrc ≡ true → member capacity now ssrc ≡ not (departs ssrc)
  pub named : (test : ℕ → Bool) → length (filter test (names before)) ≤ length (filter test (names now))
  pub known : (test : ℕ → Bool) → ((x : ℕ) → test x ≡ true → is_in x (names before) ≡ true) →
      length (filter test (names now)) ≤ length (filter test (names before))

module _ (capacity : ℕ) where
  pub alike : (departs others : ℕ → Bool) (before now : List TraceStep) → ((ssrc : ℕ) → departs ssrc ≡ others ssrc) →
      Leaves capacity departs before now → Leaves capacity others before now
  alike departs others before now same h = record {
    roles = λ ssrc is. h.roles ssrc is ∙ ap not (same ssrc);
    named = h.named;
    known = h.known;
  }

  pub by_nothing : (trace : List TraceStep) → Leaves capacity (λ ssrc. false) trace trace
  by_nothing trace = record { roles = λ ssrc is. is; named = λ test. le_refl _; known = λ test all. le_refl _ }

  pub by_facts : (t : ℕ) (facts : List Fact) (trace : List TraceStep) →
      Leaves capacity (λ ssrc. says_bye_among ssrc facts) trace (with_facts facts t trace)
  by_facts t facts trace = record {
    roles = λ ssrc is. facts_member capacity ssrc t facts trace is;
    named = λ test. facts_name test t facts trace;
    known = λ test. facts_known test t facts trace;
  }

  pub by_check : (horizons : Horizons) (trace : List TraceStep) →
      Leaves capacity (λ ssrc. nat_lt (last_naming ssrc trace) horizons.silent) trace (check_made horizons ∷ trace)
  by_check horizons trace = record {
    roles = λ ssrc is. checked_member capacity ssrc horizons trace is;
    named = λ test. le_refl _;
    known = λ test all. le_refl _;
  }

  pub by_forgetting : (gone : ℕ) (trace : List TraceStep) →
      Leaves capacity (λ ssrc. gone == ssrc) trace (source_forgotten gone ∷ trace)
  by_forgetting gone trace = record {
    roles = λ ssrc is. forgotten_member capacity ssrc gone trace is;
    named = λ test. le_refl _;
    known = λ test all. le_refl _;
  }

  pub with_blocks_too : (departs : ℕ → Bool) (ssrcs : List ℕ) (before now : List TraceStep) →
      Leaves capacity departs before now → Leaves capacity departs before (with_blocks ssrcs now)
  with_blocks_too departs ssrcs before now h = record {
    roles = λ ssrc is. sym (blocks_member capacity ssrc ssrcs now) ∙ h.roles ssrc is;
    named = λ test. (let one = h.named test in let more = blocks_name test ssrcs now in omega (arith, one, more));
    known = λ test all.
        (let one = h.known test all in let more = blocks_known test ssrcs now in omega (arith, one, more));
  }

  -- Where there are fewer members than before, one of those departs.
  pub fewer_by_departure : (departs : ℕ → Bool) (before now : List TraceStep) → Leaves capacity departs before now →
      members_at capacity now < members_at capacity before →
      list_any (λ ssrc. member capacity before ssrc && departs ssrc) (names before) ≡ true
  fewer_by_departure departs before now h fell =
      by (list_any (λ ssrc. member capacity before ssrc && departs ssrc) (names before)) refl
    where
      by : (any : Bool) → list_any (λ ssrc. member capacity before ssrc && departs ssrc) (names before) ≡ any →
          any ≡ true
      by true is = refl
      by false none =
          let kept : count_at is_member capacity before ≤ length
          (filter (λ ssrc. member capacity now ssrc) (names before)) =
          no_fewer (λ ssrc. member capacity before ssrc) departs (λ ssrc. member capacity now ssrc) h.roles
          (names before) none in
          let more : length (filter (λ ssrc. member capacity now ssrc) (names before))
          ≤ count_at is_member capacity now = h.named (λ ssrc. member capacity now ssrc) in
          let members = counts_are_of_entries-members capacity in
          absurd (omega (arith, fell, kept, more, members before, members now))

-- ---- Who is new

-- Those who pass the second test, and those who pass the first alone, are those who pass the first, and those who pass
-- the second alone.
balance : (first second : ℕ → Bool) (xs : List ℕ) →
    length (filter second xs) + length (filter (λ x. first x && not (second x)) xs)
    ≡ length (filter first xs) + length (filter (λ x. not (first x) && second x) xs)
balance first second [] = refl
balance first second (x ∷ xs) = by (first x) (second x) (balance first second xs)
  where
    by : (a b : Bool) →
        length (filter second xs) + length (filter (λ x. first x && not (second x)) xs)
        ≡ length (filter first xs) + length (filter (λ x. not (first x) && second x) xs) →
        length (cond b (x ∷ filter second xs) (filter second xs))
        + length (cond (a && not b) (x ∷ filter (λ x. first x && not (second x)) xs)
        (filter (λ x. first x && not (second x)) xs))
        ≡ length (cond a (x ∷ filter first xs) (filter first xs))
        + length (cond (not a && b) (x ∷ filter (λ x. not (first x) && second x) xs)
        (filter (λ x. not (first x) && second x) xs))
    by true true rest = omega (arith, rest)
    by true false rest = omega (arith, rest)
    by false true rest = omega (arith, rest)
    by false false rest = rest

some_pass : (test : ℕ → Bool) (xs : List ℕ) → list_any test xs ≡ true → 1 ≤ length (filter test xs)
some_pass test [] any = absurd (let is : false ≡ true = any in cc)
some_pass test (x ∷ xs) any = by (test x) any (some_pass test xs)
  where
    by : (passes : Bool) → (passes || list_any test xs) ≡ true →
        (list_any test xs ≡ true → 1 ≤ length (filter test xs)) →
        1 ≤ length (cond passes (x ∷ filter test xs) (filter test xs))
    by true any rest = omega arith
    by false any rest = rest any

module _ (capacity : ℕ) (departs : ℕ → Bool) (before now : List TraceStep) (h : Leaves capacity departs before now)
  where
    abbrev was : ℕ → Bool
    was ssrc = member capacity before ssrc

    abbrev stays : ℕ → Bool
    stays ssrc = member capacity now ssrc

    abbrev went : ℕ → Bool
    went ssrc = was ssrc && not (stays ssrc)

    was_named : (ssrc : ℕ) → was ssrc ≡ true → is_in ssrc (names before) ≡ true
    was_named ssrc member_then =
        let (stay, lasts) = stay_of_member capacity ssrc before member_then in
        present_were_named_and_fit-named capacity before ssrc (ap is_some lasts.is.found)

    departed_went : (ssrc : ℕ) → (was ssrc && departs ssrc) ≡ went ssrc
    departed_went ssrc = by (was ssrc) (departs ssrc) (stays ssrc) (h.roles ssrc)
      where
        by : (a d b : Bool) → (a ≡ true → b ≡ not d) → (a && d) ≡ (a && not b)
        by true true b role = ap not (sym (role refl))
        by true false b role = ap not (sym (role refl))
        by false d b role = refl

    -- Who is a member now was one, or is new, and those who departed are not among them.
    pub departures_are_paid : (any : Bool) →
        list_any (λ ssrc. member capacity before ssrc && departs ssrc) (names before) ≡ any →
        members_at capacity now + (if any then 1 else 0)
        ≤ members_at capacity before
        + length (filter (λ ssrc. not (member capacity before ssrc) && member capacity now ssrc) (names now))
    departures_are_paid any found =
        let all : length (filter was (names now)) ≤ count_at is_member capacity before = h.known was was_named in
        let even = balance was stays (names now) in
        let gone : (if any then 1 else 0) ≤ length (filter went (names now)) = at_least any found in
        let members = counts_are_of_entries-members capacity in
        omega (arith, all, even, gone, members before, members now)
      where
        at_least : (any : Bool) → list_any (λ ssrc. was ssrc && departs ssrc) (names before) ≡ any →
            (if any then 1 else 0) ≤ length (filter went (names now))
        at_least true found =
            let some : list_any went (names before) ≡ true =
            ap (λ (test : ℕ → Bool). list_any test (names before)) (λ i ssrc. sym (departed_went ssrc) i) ∙ found in
            let one : 1 ≤ length (filter went (names before)) = some_pass went (names before) some in
            let more : length (filter went (names before)) ≤ length (filter went (names now)) = h.named went in
            omega (arith, one, more)
        at_least false found = omega arith
