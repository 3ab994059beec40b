-- Senders have the shorter of two intervals, and the others the longer.
use Rattle.std.proofs.Common.{◌≡◌, ℕ, ◌+◌, ◌-◌, ◌*◌, ◌<◌, ◌≤◌, Bool, true, false, nat_le, max, min, if◌then◌else◌, refl, sym, ap, ◌∙◌, subst, arith}
use Rattle.std.proofs.Math.Nat.{le_trans, mul-le-mul_left, mul-le-mul_right, le_of_mul-le-mul_right, max-eq_left, max-eq_right, min-eq_left, min-eq_right}
use Rattle.std.proofs.lemmas.Bool.{leb-true}
use Rattle.std.proofs.lemmas.Bool.Decides.{nat_tests}
use Rattle.rtcp_timer.specs.declared.load.Load.{Load}
use Rattle.rtcp_timer.specs.Loads.{interval_at_share, interval_for, interval_of, minimum_of, sharers_of}
use Rattle.rtcp_timer.proofs.Quarters.{chosen}
use Rattle.rtcp_timer.proofs.Quotients.{div_ceil_covers, div_ceil_least}
use Rattle.rtcp_timer.proofs.Sharing.{by_sharers}

-- fewer for each octet of the bandwidth take no longer
no_longer : (load : Load) (n b m d : ℕ) → 0 < b → 0 < d → n * d ≤ m * b → interval_for n b load ≤ interval_for m d load
no_longer load n b m d some other fewer =
    let k = interval_for m d load in
    let octets = 1000000 * load.avg in
    let covers : 1000000 * m * load.avg ≤ k * (256 * d) = div_ceil_covers (1000000 * m * load.avg) (256 * d)
    (omega (arith, other)) in
    let one : 1000000 * n * load.avg * d ≤ 1000000 * m * load.avg * b = grind (arith, mul-le-mul_right octets fewer) in
    let two : 1000000 * m * load.avg * b ≤ k * (256 * b) * d = grind (arith, mul-le-mul_right b covers) in
    div_ceil_least (1000000 * n * load.avg) (256 * b) k (omega (arith, some))
    (le_of_mul-le-mul_right (le_trans one two) other)

-- ---- Those that are left are more for their part where the senders are fewer for theirs

left_are_more : (senders left s r : ℕ) → senders * (s + r) ≤ (senders + left) * s →
    (senders + left) * r ≤ left * (s + r)
left_are_more senders left s r few = grind (arith, few)

left_are_fewer : (senders left s r : ℕ) → (senders + left) * s ≤ senders * (s + r) →
    left * (s + r) ≤ (senders + left) * r
left_are_fewer senders left s r many = grind (arith, many)

module _ (load : Load) (some : 1 ≤ load.sender_bw) (some_more : 1 ≤ load.receiver_bw)
    (senders_are_members : load.senders ≤ load.members) where
  abbrev both : ℕ
  both = load.sender_bw + load.receiver_bw

  abbrev left : ℕ
  left = load.members - load.senders

  abbrev of_senders : ℕ
  of_senders = interval_for load.senders load.sender_bw load

  abbrev of_others : ℕ
  of_others = interval_for left load.receiver_bw load

  abbrev of_all : ℕ
  of_all = interval_for load.members both load

  all_are : load.senders + left ≡ load.members
  all_are = omega (arith, senders_are_members)

  room : 0 < both
  room = omega (arith, some)

  few_senders : load.senders * both ≤ load.members * load.sender_bw → of_senders ≤ of_all
  few_senders few = no_longer load load.senders load.sender_bw load.members both some room few

  many_senders : load.members * load.sender_bw ≤ load.senders * both → of_all ≤ of_senders
  many_senders many = no_longer load load.members both load.senders load.sender_bw room some many

  others_longer : load.senders * both ≤ load.members * load.sender_bw → of_all ≤ of_others
  others_longer few =
      no_longer load load.members both left load.receiver_bw room some_more
      (subst (λ (n : ℕ). n * load.receiver_bw ≤ left * both) all_are
      (left_are_more load.senders left load.sender_bw load.receiver_bw
      (subst (λ (n : ℕ). load.senders * both ≤ n * load.sender_bw) (sym all_are) few)))

  others_shorter : load.members * load.sender_bw ≤ load.senders * both → of_others ≤ of_all
  others_shorter many =
      no_longer load left load.receiver_bw load.members both some_more room
      (subst (λ (n : ℕ). left * both ≤ n * load.receiver_bw) all_are
      (left_are_fewer load.senders left load.sender_bw load.receiver_bw
      (subst (λ (n : ℕ). n * load.sender_bw ≤ load.senders * both) (sym all_are) many)))

  by_test : (few : Bool) → nat_le (load.senders * both) (load.members * load.sender_bw) ≡ few → (we_sent : Bool)
      → interval_at_share (chosen few we_sent load) load
      ≡ (if we_sent then min of_senders of_all else max of_others of_all)
  by_test true is true = sym (min-eq_left (few_senders (leb-true _ _ is)))
  by_test true is false = sym (max-eq_left (others_longer (leb-true _ _ is)))
  by_test false is true = sym (min-eq_right (many_senders (grind (arith, nat_tests, is))))
  by_test false is false = sym (max-eq_right (others_shorter (grind (arith, nat_tests, is))))

  shared : interval_at_share (sharers_of load) load
      ≡ (if load.we_sent then min of_senders of_all else max of_others of_all)
  shared = by_test (nat_le (load.senders * both) (load.members * load.sender_bw)) refl load.we_sent

  pub of_a_sender : load.we_sent ≡ true → interval_of load ≡ max (minimum_of load.initial) (min of_senders of_all)
  of_a_sender is = by_sharers load ∙ ap (max (minimum_of load.initial))
      (shared ∙ ap (λ (b : Bool). if b then min of_senders of_all else max of_others of_all) is)

  pub of_another : load.we_sent ≡ false → interval_of load ≡ max (minimum_of load.initial) (max of_others of_all)
  of_another is = by_sharers load ∙ ap (max (minimum_of load.initial))
      (shared ∙ ap (λ (b : Bool). if b then min of_senders of_all else max of_others of_all) is)

-- ---- Less bandwidth

-- Of a participant that is no sender, the interval is no shorter with less bandwidth.
pub with_less : (load : Load) (sender_bw receiver_bw : ℕ) → load.we_sent ≡ false → load.senders ≤ load.members →
    1 ≤ sender_bw → 1 ≤ receiver_bw → sender_bw ≤ load.sender_bw → receiver_bw ≤ load.receiver_bw →
    interval_of load ≤ interval_of (record load { sender_bw = sender_bw; receiver_bw = receiver_bw })
with_less load sender_bw receiver_bw is members some some_more fewer fewer_more =
    let less : Load = record load { sender_bw = sender_bw; receiver_bw = receiver_bw } in
    let left : ℕ = load.members - load.senders in
    let before = of_another load (omega (arith, some, fewer)) (omega (arith, some_more, fewer_more)) members is in
    let after = of_another less some some_more members is in
    let others : interval_for left load.receiver_bw load ≤ interval_for left receiver_bw load =
    no_longer load left load.receiver_bw left receiver_bw (omega (arith, some_more, fewer_more)) some_more
    (mul-le-mul_left left fewer_more) in
    let everyone : interval_for load.members (load.sender_bw + load.receiver_bw) load
    ≤ interval_for load.members (sender_bw + receiver_bw) load =
    no_longer load load.members (load.sender_bw + load.receiver_bw) load.members (sender_bw + receiver_bw)
    (omega (arith, some, fewer)) (omega (arith, some)) (mul-le-mul_left load.members (omega (arith, fewer, fewer_more)))
    in
    omega (arith, before, after, others, everyone)
