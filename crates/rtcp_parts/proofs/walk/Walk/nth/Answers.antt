-- Each step of the walk passes a part, and the last one takes the one at the index.
use Rattle.std.proofs.Common.{arith}
use Rattle.rtcp_parts.proofs.Calls.{some_octets}
use Rattle.rtcp_parts.proofs.Stepping.{given_at, none_at, none_stepped, stepped}
use Rattle.rtcp_parts.proofs.walk.Walk.nth.Goals as goal

pub parts-init : goal.parts-init
parts-init g c = (omega arith, none_stepped c.default.result c.in-Ok.cursor c.in-Ok.ensures.begins c.default.ensures.0)

pub parts-preserved : goal.parts-preserved
parts-preserved g c = (
  omega arith,
  stepped c.parts.invariant.1 c.in-Some.field-0 c.in-Some.is
      (some_octets c.args.datagram.now (c.in-Ok.ensures.reads c.default.ensures.0).0
      (c.in-Ok.ensures.reads c.default.ensures.0).1)
      c.take.ensures.takes (λ keeps here. (c.take.ensures.own keeps here).0),
)

pub returns-in-Err-clause-gives : goal.returns-in-Err-clause-gives
returns-in-Err-clause-gives g c = record {
  found = λ packets part accepted at. absurd (cc (c.in-Err.ensures.accepted packets accepted));
  none = λ packets accepted at. absurd (cc (c.in-Err.ensures.accepted packets accepted));
  refused = λ fault first. cc (c.in-Err.ensures.refused fault first c.default.ensures.0);
}

pub returns-in-None-clause-gives : goal.returns-in-None-clause-gives
returns-in-None-clause-gives g c =
    none_at c.parts.invariant.1 c.args.index (omega arith)
    (λ fault first. cc (c.in-Ok.ensures.refused fault first c.default.ensures.0))
    c.in-None.ensures.takes

pub returns-clause-gives : goal.returns-clause-gives
returns-clause-gives g c =
    given_at c.parts.invariant.1 c.args.index (omega arith)
    (λ fault first. cc (c.in-Ok.ensures.refused fault first c.default.ensures.0))
    c.take-2.result c.take-2.ensures.takes

pub returns-clause-own : goal.returns-clause-own
returns-clause-own g c keeps packets accepted =
    (c.take-2.ensures.own keeps (c.parts.invariant.1.own keeps packets accepted)).1
