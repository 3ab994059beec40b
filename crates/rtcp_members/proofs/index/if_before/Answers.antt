-- The upper half of a difference that borrows is all ones.
use Rattle.std.proofs.Common.{arith, ◌≡◌, ◌<◌, ◌^◌, ◌-◌, ◌+◌, ◌/◌, ◌%◌, ℕ, ap, ◌∙◌}
use Rattle.std.proofs.lemmas.Nat.{and_mask}
use Rattle.std.specs.Int.Bits.{bit_and}
use Rattle.rtcp_members.proofs.index.if_before.Goals as goal

-- ones where the first is lesser
borrowed : (seen ssrc : ℕ) → seen < ssrc → ssrc < 2 ^ 32 →
    (seen + (18446744073709551616 - ssrc)) % 18446744073709551616 / 4294967296 ≡ 2 ^ 32 - 1
borrowed seen ssrc less fits = omega arith

pub returns-clause-before : goal.returns-clause-before
returns-clause-before c less =
    ap (bit_and c.args.many) (borrowed c.from.result c.from-2.result (omega (arith, less))
    (omega (arith, c.ranges.ssrc.fits)))
    ∙ and_mask c.args.many 32 ∙ omega arith
