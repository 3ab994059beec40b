-- By quotient and rest: d · m is pm · (d / pm · m) and (d % pm) · m.
use Rattle.std.proofs.Common.{◌≡◌, ℕ, ◌+◌, ◌*◌, ◌/◌, ◌%◌, sym, ap, ◌∙◌, arith}
use Rattle.std.proofs.Math.Nat.{div-add-mod, mul-add-div}
use Rattle.rtcp_clock.proofs.intervals.scale_down.Goals as goal

-- A product by the quotient and the rest of its first factor.
in_parts : (whole quotient rest by : ℕ) → (whole * quotient + rest) * by ≡ whole * (quotient * by) + rest * by
in_parts whole quotient rest by = grind arith

pub returns : goal.returns
returns c =
    let d = c.args.d in
    let m = c.args.m in
    let pm = c.args.pm in
    let parts : d * m ≡ pm * (d / pm * m) + d % pm * m =
    ap (λ (n : ℕ). n * m) (sym (div-add-mod d pm)) ∙ in_parts pm (d / pm) (d % pm) m in
    sym (ap (λ (n : ℕ). n / pm) parts ∙ mul-add-div c.requires.some (d / pm * m) (d % pm * m))
