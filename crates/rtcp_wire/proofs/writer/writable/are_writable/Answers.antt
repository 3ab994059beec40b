-- One part fails, or each passes.
use Rattle.std.proofs.Common.{rules, ◌≡◌, ◌↔◌, IsTrue, false, subst}
use Rattle.rtcp_wire.proofs.Appending.{one_fails, each_passes}
use Rattle.rtcp_wire.proofs.writer.writable.are_writable.Goals as goal

pub returns-then-not-is_writable : goal.returns-then-not-is_writable
returns-then-not-is_writable g c =
    let fails : c.is_writable.result ≡ false = search rules in
    one_fails g.P.Part.may_be_written g.P.Part.view c.args.parts.now c.loop-part.part-index c.part-item.result
    c.is_writable.result c.loop-part-test.true (subst
    (λ part. IsTrue c.is_writable.result ↔ g.P.Part.may_be_written (g.P.Part.view part)) c.part-item.is
    c.is_writable.ensures) fails

pub returns : goal.returns
returns g c = each_passes g.P.Part.may_be_written g.P.Part.view c.args.parts.now c.loop-part.part-index
    c.loop-part-test.false c.loop-part.invariant
