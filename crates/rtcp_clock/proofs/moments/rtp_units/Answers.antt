use Rattle.std.proofs.Common.{◌≡◌, ℕ, ◌+◌, ◌*◌, ◌/◌, ◌%◌, ap, ◌∙◌, arith}
use Rattle.rtcp_clock.proofs.moments.rtp_units.Goals as goal

-- A product by the seconds and the rest of its first factor.
in_parts : (q r rate : ℕ) → (1000000 * q + r) * rate ≡ 1000000 * (q * rate) + r * rate
in_parts q r rate = omega arith

pub returns : goal.returns
returns c =
    let t = c.args.t in
    let rate = c.args.rate in
    let parts : t * rate ≡ 1000000 * (t / 1000000 * rate) + t % 1000000 * rate =
    ap (λ (n : ℕ). n * rate) (omega arith) ∙ in_parts (t / 1000000) (t % 1000000) rate in
    omega (arith, parts)
