-- All names are looked at, or the first 512.
use Rattle.std.proofs.Common.{None, arith, take, refl, sym}
use Rattle.std.proofs.lemmas.List.{length-take-le}
use Rattle.rtcp_guard.proofs.Deciding.{Decided, by_first, by_names}
use Rattle.rtcp_guard.proofs.guard.Guard.arrive.Goals as goal

pub slice_bounds-decide-end : goal.slice_bounds-decide-end
slice_bounds-decide-end c = sym (length-take-le 512 c.args.names.now (omega (arith, c.if-names-gt-MAX_NAMES.true)))

pub decide-requires : goal.decide-requires
decide-requires c = omega (
  arith,
  length-take-le 512 c.args.names.now (omega (arith, c.if-names-gt-MAX_NAMES.true)),
)

its_first : (c : goal.After-decide) → Decided c.args.origin c.args.t c.args.names.now None c.args.self.now
    c.decide.result c.decide.new.self
its_first c = by_first c.args.origin c.args.t c.args.names.now c.args.self.now c.decide.result c.decide.new.self None
    (take 512 c.args.names.now) c.if-names-gt-MAX_NAMES.true refl c.decide.ensures.verdict c.decide.ensures.content

pub returns-then-names-gt-MAX_NAMES-clause-verdict : goal.returns-then-names-gt-MAX_NAMES-clause-verdict
returns-then-names-gt-MAX_NAMES-clause-verdict c = (its_first c).its

pub returns-then-names-gt-MAX_NAMES-clause-content : goal.returns-then-names-gt-MAX_NAMES-clause-content
returns-then-names-gt-MAX_NAMES-clause-content c = (its_first c).content

its_all : (c : goal.After-decide-2) → Decided c.args.origin c.args.t c.args.names.now None c.args.self.now
    c.decide-2.result c.decide-2.new.self
its_all c = by_names c.args.origin c.args.t c.args.names.now c.args.self.now c.decide-2.result c.decide-2.new.self None
    c.if-names-gt-MAX_NAMES.false refl c.decide-2.ensures.verdict c.decide-2.ensures.content

pub returns-clause-verdict : goal.returns-clause-verdict
returns-clause-verdict c = (its_all c).its

pub returns-clause-content : goal.returns-clause-content
returns-clause-content c = (its_all c).content
