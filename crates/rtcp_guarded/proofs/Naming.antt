-- A datagram that is passed on names all sources that its facts speak of.
use Rattle.std.proofs.Common.{◌≡◌, ℕ, ◌==◌, ◌||◌, not, Bool, true, false, cond, List, [], ◌∷◌, map, if◌then◌else◌, arith, refl, sym, ap, ◌∙◌, subst}
use Rattle.std.proofs.lemmas.Bool.{eqb-true}
use Rattle.std.proofs.lemmas.Bool.Decides.{nat_tests}
use Rattle.std.specs.List.{dedup, list_any}
use Rattle.rtcp_wire.specs.declared.fact.Fact.{Fact}
use Rattle.rtcp_wire.specs.declared.fact.Fact.TheVariants.{Heard}
use Rattle.rtcp_wire.specs.Facts.{subject}
use Rattle.rtcp_guard.specs.Claims.{is_named}
use Rattle.rtcp_guard.specs.Naming.{but, is_same}
use Rattle.rtcp_guard.proofs.Runs.{named_once}
use Rattle.rtcp_guard_laws.specs.Together.{AreNamed}
use Rattle.rtcp_engine.specs.answers.Arrivals.{facts_of_csrcs}

same_number : (n : ℕ) → n == n ≡ true
same_number n = grind (arith, nat_tests)

-- what is named and is not the own SSRC
named_but : (own ssrc : ℕ) (names : List ℕ) → ssrc == own ≡ false → is_named ssrc names ≡ true →
    is_named ssrc (but own names) ≡ true
named_but own ssrc [] other named = named
named_but own ssrc (name ∷ rest) other named =
    elim (name == ssrc) as (λ s. name == ssrc ≡ s → is_named ssrc (but own (name ∷ rest)) ≡ true) [
      | true ↦ λ same.
          let kept : name == own ≡ false = ap (λ (n : ℕ). n == own) (eqb-true name ssrc same) ∙ other in
          ap (λ (o : Bool). is_named ssrc (cond (not o) (name ∷ but own rest) (but own rest))) kept
          ∙ ap (λ (s : Bool). s || is_named ssrc (but own rest)) same
      | false ↦ λ same.
          let later : is_named ssrc (but own rest) ≡ true = named_but own ssrc rest other
          (sym (ap (λ (s : Bool). s || is_named ssrc rest) same) ∙ named) in
          elim (name == own) as (λ o. is_named ssrc (cond (not o) (name ∷ but own rest) (but own rest)) ≡ true) [
            | true ↦ later
            | false ↦ ap (λ (s : Bool). s || is_named ssrc (but own rest)) same ∙ later
          ]
    ] refl

-- ---- The facts of a compound

-- none of these facts is about the own SSRC
abbrev NoneOwn : (own : ℕ) → List Fact → Type 0
NoneOwn own [] = Unit {0}
NoneOwn own (fact ∷ rest) = (subject fact == own ≡ false) × NoneOwn own rest

none_own : (own : ℕ) (facts : List Fact) → list_any (λ fact. subject fact == own) facts ≡ false → NoneOwn own facts
none_own own [] none = tt
none_own own (fact ∷ rest) none = elim (subject fact == own) as (λ s. subject fact == own ≡ s →
    s || list_any (λ fact. subject fact == own) rest ≡ false →
    (subject fact == own ≡ false) × NoneOwn own rest) [
      | true ↦ λ e n. absurd cc
      | false ↦ λ e n. (e, none_own own rest n)
    ] refl none

are_named_among : (own : ℕ) (all facts : List Fact) → NoneOwn own facts →
    ((fact : Fact) → list_any (λ other. subject other == subject fact) facts ≡ true →
    is_named (subject fact) (map subject all) ≡ true) → AreNamed (dedup is_same (but own (map subject all))) facts
are_named_among own all [] none among = tt
are_named_among own all (fact ∷ rest) none among = (
  named_once (subject fact) (but own (map subject all))
      ∙ named_but own (subject fact) (map subject all) none.0
      (among fact (ap (λ (s : Bool). s || list_any (λ other. subject other == subject fact) rest)
      (same_number (subject fact)))),
  are_named_among own all rest none.1 (λ other is. among other
      (later (subject fact == subject other) (list_any (λ one. subject one == subject other) rest) is)),
)
  where
    later : (first rest : Bool) → rest ≡ true → first || rest ≡ true
    later true rest is = refl
    later false rest is = is

subjects_named : (ssrc : ℕ) (facts : List Fact) → list_any (λ fact. subject fact == ssrc) facts ≡ true →
    is_named ssrc (map subject facts) ≡ true
subjects_named ssrc [] is = is
subjects_named ssrc (fact ∷ rest) is = elim (subject fact == ssrc) as (λ s.
    s || list_any (λ fact. subject fact == ssrc) rest ≡ true → s || is_named ssrc (map subject rest) ≡ true) [
      | true ↦ λ is. refl
      | false ↦ λ is. subjects_named ssrc rest is
    ] is

pub facts_are_named : (own : ℕ) (facts : List Fact) → list_any (λ fact. subject fact == own) facts ≡ false →
    AreNamed (dedup is_same (but own (map subject facts))) facts
facts_are_named own facts none =
    are_named_among own facts facts (none_own own facts none) (λ fact is. subjects_named (subject fact) facts is)

-- ---- The facts of a packet

csrcs_are_named : (own : ℕ) (names csrcs : List ℕ) →
    ((ssrc : ℕ) → is_named ssrc (but own csrcs) ≡ true → is_named ssrc names ≡ true) →
    AreNamed names (facts_of_csrcs own csrcs)
csrcs_are_named own names [] among = tt
csrcs_are_named own names (csrc ∷ rest) among = elim (csrc == own) as (λ o.
    ((ssrc : ℕ) → is_named ssrc (cond (not o) (csrc ∷ but own rest) (but own rest)) ≡ true →
    is_named ssrc names ≡ true) →
    AreNamed names (map Heard (cond (not o) (csrc ∷ but own rest) (but own rest)))) [
      | true ↦ λ among. csrcs_are_named own names rest among
      | false ↦ λ among. (
        among csrc (ap (λ (s : Bool). s || is_named csrc (but own rest)) (same_number csrc)),
        csrcs_are_named own names rest (λ ssrc is. among ssrc
            (elim (csrc == ssrc) as (λ s. s || is_named ssrc (but own rest) ≡ true) [ true ↦ refl | false ↦ is ])),
      )
    ] among

pub packet_is_named : (own ssrc : ℕ) (csrcs : List ℕ) (first : Fact) (is_counted : Bool) → subject first ≡ ssrc →
    ssrc == own ≡ false →
    AreNamed (but own (ssrc ∷ csrcs)) (first ∷ (if is_counted then facts_of_csrcs own csrcs else []))
packet_is_named own ssrc csrcs first is_counted is other =
    let names : but own (ssrc ∷ csrcs) ≡ ssrc ∷ but own csrcs =
    ap (λ (o : Bool). cond (not o) (ssrc ∷ but own csrcs) (but own csrcs)) other in
    subst (λ (n : List ℕ). AreNamed n (first ∷ (if is_counted then facts_of_csrcs own csrcs else []))) (sym names) (
      ap (λ (s : ℕ). (ssrc == s) || is_named s (but own csrcs)) is
          ∙ ap (λ (s : Bool). s || is_named ssrc (but own csrcs)) (same_number ssrc),
      elim is_counted as (λ c. AreNamed (ssrc ∷ but own csrcs) (if c then facts_of_csrcs own csrcs else [])) [
        | true ↦ csrcs_are_named own (ssrc ∷ but own csrcs) csrcs (λ other is.
            elim (ssrc == other) as (λ s. s || is_named other (but own csrcs) ≡ true) [ true ↦ refl | false ↦ is ])
        | false ↦ tt
      ],
    )
