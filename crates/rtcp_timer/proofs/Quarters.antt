-- Where the others have three times the bandwidth of the senders, it is shared by quarters.
use Rattle.std.proofs.Common.{◌≡◌, ℕ, ◌+◌, ◌-◌, ◌*◌, ◌<◌, ◌≤◌, Bool, true, false, nat_le, max, if◌then◌else◌, sym, ap, ◌∙◌, arith, inl, inr}
use Rattle.std.specs.Int.{div_ceil}
use Rattle.std.proofs.Math.Nat.{le_antisymm, le_trans, mul-le-mul_right}
use Rattle.std.proofs.lemmas.Bool.{cases_lt, le-leb, lt-leb}
use Rattle.rtcp_timer.specs.declared.load.Load.{Load}
use Rattle.rtcp_timer.specs.Loads.{Sharers, the_senders, the_others, everyone, interval_at_share, minimum_of, interval_of}
use Rattle.rtcp_timer.specs.Quarters.{interval_at_quarters, quarterly_interval}
use Rattle.rtcp_timer.proofs.Quotients.{div_ceil_covers, div_ceil_least}
use Rattle.rtcp_timer.proofs.Sharing.{by_sharers}

-- a quotient whose two numbers are both taken four times
div_ceil_fourfold : (n d : ℕ) → 0 < d → div_ceil n d ≡ div_ceil (4 * n) (4 * d)
div_ceil_fourfold n d some =
    let more : 0 < 4 * d = omega (arith, some) in
    let covers = div_ceil_covers n d some in
    let covers_more = div_ceil_covers (4 * n) (4 * d) more in
    le_antisymm
    (div_ceil_least n d (div_ceil (4 * n) (4 * d)) some (grind (arith, covers_more)))
    (div_ceil_least (4 * n) (4 * d) (div_ceil n d) more (grind (arith, covers)))

part : (n d n4 d4 : ℕ) → 0 < d → n4 ≡ 4 * n → d4 ≡ 4 * d → div_ceil n d ≡ div_ceil n4 d4
part n d n4 d4 some ns ds = div_ceil_fourfold n d some ∙ (λ i. div_ceil (sym ns i) (sym ds i))

fourfold : (senders bandwidth : ℕ) → senders * (bandwidth + 3 * bandwidth) ≡ 4 * senders * bandwidth
fourfold senders bandwidth = grind arith

-- senders are more of the members than their part of the bandwidth where they are more than a quarter of them
same_test : (members senders bandwidth : ℕ) → 1 ≤ bandwidth →
    nat_le (senders * (bandwidth + 3 * bandwidth)) (members * bandwidth) ≡ nat_le (4 * senders) members
same_test members senders bandwidth some =
    ap (λ (n : ℕ). nat_le n (members * bandwidth)) (fourfold senders bandwidth)
    ∙ elim (cases_lt members (4 * senders)) [
      | inl many ↦ (let more : members * bandwidth + bandwidth ≤ 4 * senders * bandwidth =
          le_trans (grind arith) (mul-le-mul_right bandwidth many) in
          lt-leb (4 * senders * bandwidth) (members * bandwidth) (omega (arith, some, more))
          ∙ sym (lt-leb (4 * senders) members many))
      | inr few ↦ le-leb (4 * senders * bandwidth) (members * bandwidth) (mul-le-mul_right bandwidth few)
          ∙ sym (le-leb (4 * senders) members few)
    ]

-- each part, where that of the others is so large
senders_part : (count avg bandwidth : ℕ) → 1 ≤ bandwidth → div_ceil (1000000 * count * avg) (256 * bandwidth) ≡ div_ceil
    (4 * 1000000 * count * avg) (1 * 256 * (4 * bandwidth))
senders_part count avg bandwidth some = part (1000000 * count * avg) (256 * bandwidth) _ _ (omega (arith, some))
    (grind arith) (grind arith)

others_part : (count avg bandwidth : ℕ) → 1 ≤ bandwidth → div_ceil (1000000 * count * avg) (256 * (3 * bandwidth))
    ≡ div_ceil (4 * 1000000 * count * avg) (3 * 256 * (4 * bandwidth))
others_part count avg bandwidth some = part (1000000 * count * avg) (256 * (3 * bandwidth)) _ _ (omega (arith, some))
    (grind arith) (grind arith)

whole : (count avg bandwidth : ℕ) → 1 ≤ bandwidth → div_ceil (1000000 * count * avg) (256 * (bandwidth + 3 * bandwidth))
    ≡ div_ceil (4 * 1000000 * count * avg) (4 * 256 * (4 * bandwidth))
whole count avg bandwidth some = part (1000000 * count * avg) (256 * (bandwidth + 3 * bandwidth)) _ _
    (omega (arith, some)) (grind arith) (grind arith)

abbrev pub chosen : (few we_sent : Bool) → Load → Sharers
chosen few we_sent load = if few then (if we_sent then the_senders else the_others) else everyone

abbrev quarterly : (few we_sent : Bool) → Load → ℕ
quarterly few we_sent load =
    if few
    then (if we_sent
    then interval_at_quarters 1 load.senders (4 * load.sender_bw) load
    else interval_at_quarters 3 (load.members - load.senders) (4 * load.sender_bw) load)
    else interval_at_quarters 4 load.members (4 * load.sender_bw) load

by_cases : (few we_sent : Bool) (load : Load) → load.receiver_bw ≡ 3 * load.sender_bw → 1 ≤ load.sender_bw →
    interval_at_share (chosen few we_sent load) load ≡ quarterly few we_sent load
by_cases true true load is some = senders_part load.senders load.avg load.sender_bw some
by_cases true false load is some =
    ap (λ (b : ℕ). div_ceil (1000000 * (load.members - load.senders) * load.avg) (256 * b)) is
    ∙ others_part (load.members - load.senders) load.avg load.sender_bw some
by_cases false we_sent load is some =
    ap (λ (b : ℕ). div_ceil (1000000 * load.members * load.avg) (256 * (load.sender_bw + b))) is
    ∙ whole load.members load.avg load.sender_bw some

pub by_quarters : (load : Load) → load.receiver_bw ≡ 3 * load.sender_bw → 1 ≤ load.sender_bw →
    interval_of load ≡ quarterly_interval (4 * load.sender_bw) load
by_quarters load is some =
    let test : nat_le (load.senders * (load.sender_bw + load.receiver_bw)) (load.members * load.sender_bw) ≡ nat_le
    (4 * load.senders) load.members =
    ap (λ (b : ℕ). nat_le (load.senders * (load.sender_bw + b)) (load.members * load.sender_bw)) is
    ∙ same_test load.members load.senders load.sender_bw some in
    by_sharers load
    ∙ ap (λ (few : Bool). max (minimum_of load.initial) (interval_at_share (chosen few load.we_sent load) load)) test
    ∙ ap (max (minimum_of load.initial)) (by_cases (nat_le (4 * load.senders) load.members) load.we_sent load is some)
