-- A BYE of a source that is named counts, and one that is too many is held back.
use Rattle.std.proofs.Common.{List, ◌≡◌, ◌≤◌, ℕ, Some, None, true, cond, arith, sym, ap, subst, ◌∙◌}
use Rattle.std.proofs.lemmas.Bool.Decides.{nat_tests}
use Rattle.rtcp_guard.specs.Claims.{goodbye_among, goodbyes_of, is_named}
use Rattle.rtcp_guard.specs.Guarding.{GuardValue, has_left_enough, limit_of}
use Rattle.rtcp_guard.specs.Tables.{AreRising, TableValue}
use Rattle.rtcp_guard.proofs.Deciding.{Decided, by_names, by_spent}
use Rattle.rtcp_guard.proofs.guard.Guard.decide_leaving.Goals as goal
use Rattle.rtcp_guard.proofs.guard.Guard.decide_leaving.Goals.{After-decide, After-decide-then-goodbyes-limit_of, After-decide_counting}

-- ---- A BYE of a source that is not named

unnamed : (c : After-decide) → Decided c.args.origin c.args.t c.args.names.now (Some c.args.goodbye) c.args.self.now
    c.decide.result c.decide.new.self
unnamed c = by_names c.args.origin c.args.t c.args.names.now c.args.self.now c.decide.result c.decide.new.self
    (Some c.args.goodbye) c.requires
    (ap (λ b. cond b (Some c.args.goodbye) None) (sym c.if-not-contains.ensures.value))
    c.decide.ensures.verdict c.decide.ensures.content

pub returns-then-not-contains-clause-verdict : goal.returns-then-not-contains-clause-verdict
returns-then-not-contains-clause-verdict c = (unnamed c).its

pub returns-then-not-contains-clause-content : goal.returns-then-not-contains-clause-content
returns-then-not-contains-clause-content c = (unnamed c).content

-- ---- One too many

enough : (origin ssrc : ℕ) (names : List ℕ) (guard : GuardValue) → is_named ssrc names ≡ true →
    limit_of origin guard.settings guard.trusted ≤ goodbyes_of origin guard.claims →
    has_left_enough origin (goodbye_among names (Some ssrc)) guard ≡ true
enough origin ssrc names guard named many =
    ap (λ b. has_left_enough origin (cond b (Some ssrc) None) guard) named ∙ grind (arith, nat_tests, many)

-- the guard once its goodbyes were counted, which is as before
abbrev counted_by : (c : After-decide-then-goodbyes-limit_of) → (claims : TableValue) → GuardValue
counted_by c claims = record {
  settings = c.self.inside.settings;
  claims = claims.items;
  trusted = c.self.inside.trusted.items;
  held_back = c.self.inside.held_back;
}

spent : (c : After-decide-then-goodbyes-limit_of) →
    Decided c.args.origin c.args.t c.args.names.now (Some c.args.goodbye) c.args.self.now
    c.decide-then-goodbyes-limit_of.result c.decide-then-goodbyes-limit_of.new.self
spent c =
    let guard : GuardValue = counted_by c c.goodbyes.new.self in
    let same : guard ≡ c.args.self.now = ap (counted_by c) c.goodbyes.ensures.kept ∙ c.self.view_is in
    let count : c.goodbyes.result ≡ goodbyes_of c.args.origin guard.claims = c.goodbyes.ensures.goodbyes
    ∙ ap (λ (t : TableValue). goodbyes_of c.args.origin t.items) (sym c.goodbyes.ensures.kept) in
    let limit : c.limit_of.result ≡ limit_of c.args.origin guard.settings guard.trusted = c.limit_of.ensures.limit in
    subst (λ (g : GuardValue). Decided c.args.origin c.args.t c.args.names.now (Some c.args.goodbye) g
    c.decide-then-goodbyes-limit_of.result c.decide-then-goodbyes-limit_of.new.self) same
    (by_spent c.args.origin c.args.t c.args.names.now guard c.decide-then-goodbyes-limit_of.result
    c.decide-then-goodbyes-limit_of.new.self (Some c.args.goodbye) c.requires
    (enough c.args.origin c.args.goodbye c.args.names.now guard (sym c.if-not-contains.ensures.value)
    (omega (arith, count, limit, c.if-goodbyes-limit_of.true)))
    c.decide-then-goodbyes-limit_of.ensures.verdict c.decide-then-goodbyes-limit_of.ensures.content)

pub returns-then-goodbyes-limit_of-clause-verdict : goal.returns-then-goodbyes-limit_of-clause-verdict
returns-then-goodbyes-limit_of-clause-verdict c = (spent c).its

pub returns-then-goodbyes-limit_of-clause-content : goal.returns-then-goodbyes-limit_of-clause-content
returns-then-goodbyes-limit_of-clause-content c = (spent c).content

-- ---- One that may be

pub decide_counting-requires : goal.decide_counting-requires
decide_counting-requires c =
    let counted : TableValue → GuardValue = λ claims. record {
      settings = c.self.inside.settings;
      claims = claims.items;
      trusted = c.self.inside.trusted.items;
      held_back = c.self.inside.held_back;
    } in
    let guard : GuardValue = counted c.goodbyes.new.self in
    let count : c.goodbyes.result ≡ goodbyes_of c.args.origin guard.claims = c.goodbyes.ensures.goodbyes
    ∙ ap (λ (t : TableValue). goodbyes_of c.args.origin t.items) (sym c.goodbyes.ensures.kept) in
    let limit : c.limit_of.result ≡ limit_of c.args.origin guard.settings guard.trusted = c.limit_of.ensures.limit in
    record {
      short = c.requires;
      named = sym c.if-not-contains.ensures.value;
      rising = subst (λ (t : TableValue). AreRising t.items) (sym c.goodbyes.ensures.kept)
          c.self.invariant.bounded.rising;
      left = omega (arith, count, limit, c.if-goodbyes-limit_of.false);
    }

counting : (c : After-decide_counting) →
    Decided c.args.origin c.args.t c.args.names.now (Some c.args.goodbye) c.args.self.now
    c.decide_counting.result c.decide_counting.new.self
counting c =
    let counted : TableValue → GuardValue = λ claims. record {
      settings = c.self.inside.settings;
      claims = claims.items;
      trusted = c.self.inside.trusted.items;
      held_back = c.self.inside.held_back;
    } in
    subst (λ (g : GuardValue). Decided c.args.origin c.args.t c.args.names.now (Some c.args.goodbye) g
    c.decide_counting.result c.decide_counting.new.self) (ap counted c.goodbyes.ensures.kept ∙ c.self.view_is)
    (record { its = c.decide_counting.ensures.verdict; content = c.decide_counting.ensures.content })

pub returns-clause-verdict : goal.returns-clause-verdict
returns-clause-verdict c = (counting c).its

pub returns-clause-content : goal.returns-clause-content
returns-clause-content c = (counting c).content
