-- Where the datagram passes, its goodbye is counted.
use Rattle.std.proofs.Common.{◌≡◌, ◌<◌, ℕ, List, Some, false, arith, sym, ap, subst, ◌∙◌}
use Rattle.std.proofs.lemmas.Bool.Decides.{nat_tests}
use Rattle.rtcp_guard.specs.Claims.{Claim, goodbyes_of, with_goodbye}
use Rattle.rtcp_guard.specs.Guarding.{GuardValue, has_left_enough, limit_of}
use Rattle.rtcp_guard.specs.Tables.{IsBounded}
use Rattle.rtcp_guard.specs.declared.verdict.Verdict.TheVariants.{Pass, Stranger, Crowd}
use Rattle.rtcp_guard.proofs.Bounding.{leaves_within, limit_small}
use Rattle.rtcp_guard.proofs.Deciding.{Decided, by_leaving}
use Rattle.rtcp_guard.proofs.guard.Guard.decide_counting.Goals as goal
use Rattle.rtcp_guard.proofs.guard.Guard.decide_counting.Goals.{After-leave}

few : (origin ssrc : ℕ) (guard : GuardValue) →
    goodbyes_of origin guard.claims < limit_of origin guard.settings guard.trusted →
    has_left_enough origin (Some ssrc) guard ≡ false
few origin ssrc guard less = grind (arith, nat_tests, less)

pub leave-requires : goal.leave-requires
leave-requires c = λ origin.
    let bounded = leaves_within c.args.self.now (record {
      settings = c.self.inside.settings;
      claims = c.self.inside.claims.items;
      trusted = c.self.inside.trusted.items;
      held_back = c.self.inside.held_back;
    }) c.args.origin c.args.t c.args.goodbye c.args.names.now
    (c.self.view_is ∙ c.in-Pass.ensures.content) c.self.invariant.bounded c.requires.named c.requires.rising
    c.requires.left in
    let few = bounded.leaving origin in
    let small = limit_small origin c.self.inside.settings c.self.inside.trusted.items (omega arith) (omega arith) in
    omega (arith, few, small)

-- the guard once the names were claimed
abbrev value : (c : After-leave) → GuardValue
value c = record {
  settings = c.self.inside.settings;
  claims = c.self.inside.claims.items;
  trusted = c.self.inside.trusted.items;
  held_back = c.self.inside.held_back;
}

bounded_then : (c : After-leave) → IsBounded c.self.inside.settings c.self.inside.trusted.items
    (with_goodbye (Some c.args.goodbye) c.self.inside.claims.items)
bounded_then c = leaves_within c.args.self.now (value c) c.args.origin c.args.t c.args.goodbye c.args.names.now
    (c.self.view_is ∙ c.in-Pass.ensures.content) c.self.invariant.bounded c.requires.named c.requires.rising
    c.requires.left

pub invariant_of-self : goal.invariant_of-self
invariant_of-self c = record {
  bounded = subst (IsBounded c.self.inside.settings c.self.inside.trusted.items) (sym c.leave.ensures.items)
      (bounded_then c);
  roomy = c.leave.ensures.room ∙ c.self.invariant.roomy;
}

passed : (c : After-leave) → Decided c.args.origin c.args.t c.args.names.now (Some c.args.goodbye) c.args.self.now Pass
    (record (value c) { claims = c.leave.new.self.items })
passed c = by_leaving c.args.origin c.args.t c.args.names.now c.args.self.now Pass
    (record (value c) { claims = c.leave.new.self.items }) c.args.goodbye c.requires.short c.requires.named
    (few c.args.origin c.args.goodbye c.args.self.now c.requires.left) c.in-Pass.ensures.verdict
    (ap (λ (claims : List Claim). record (value c) { claims = claims }) c.leave.ensures.items
    ∙ ap (λ (g : GuardValue). record g { claims = with_goodbye (Some c.args.goodbye) g.claims })
    (c.self.view_is ∙ c.in-Pass.ensures.content))

pub returns-in-Pass-clause-verdict : goal.returns-in-Pass-clause-verdict
returns-in-Pass-clause-verdict c = (passed c).its

pub returns-in-Pass-clause-content : goal.returns-in-Pass-clause-content
returns-in-Pass-clause-content c = (passed c).content

stranger : (c : goal.In-Stranger) → Decided c.args.origin c.args.t c.args.names.now (Some c.args.goodbye)
    c.args.self.now Stranger c.decide.new.self
stranger c = by_leaving c.args.origin c.args.t c.args.names.now c.args.self.now Stranger c.decide.new.self
    c.args.goodbye c.requires.short c.requires.named
    (few c.args.origin c.args.goodbye c.args.self.now c.requires.left) c.in-Stranger.ensures.verdict
    c.in-Stranger.ensures.content

pub returns-in-Stranger-clause-verdict : goal.returns-in-Stranger-clause-verdict
returns-in-Stranger-clause-verdict c = (stranger c).its

pub returns-in-Stranger-clause-content : goal.returns-in-Stranger-clause-content
returns-in-Stranger-clause-content c = (stranger c).content

crowd : (c : goal.In-Crowd) → Decided c.args.origin c.args.t c.args.names.now (Some c.args.goodbye)
    c.args.self.now Crowd c.decide.new.self
crowd c = by_leaving c.args.origin c.args.t c.args.names.now c.args.self.now Crowd c.decide.new.self
    c.args.goodbye c.requires.short c.requires.named
    (few c.args.origin c.args.goodbye c.args.self.now c.requires.left) c.in-Crowd.ensures.verdict
    c.in-Crowd.ensures.content

pub returns-in-Crowd-clause-verdict : goal.returns-in-Crowd-clause-verdict
returns-in-Crowd-clause-verdict c = (crowd c).its

pub returns-in-Crowd-clause-content : goal.returns-in-Crowd-clause-content
returns-in-Crowd-clause-content c = (crowd c).content
