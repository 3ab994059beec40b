-- One packet more, by what it is to a run.
use Rattle.std.proofs.Common.{◌≡◌, ℕ, ◌+◌, Bool, true, false, if◌then◌else◌, ◌||◌, List, [], ◌∷◌, Option, Some, None, refl}
use Rattle.rtcp_source.specs.declared.taken.Taken.{Taken}
use Rattle.rtcp_source.specs.declared.taken.Taken.TheVariants.{Probation, Counted, Became, Restarted, Bad}
use Rattle.rtcp_source.specs.Packets.{CountedPacket, PacketRun, is_near, ordinal_near, greatest_ordinal, follows, is_counted_in, run_with}
use Rattle.rtcp_source.specs.Takings.{taken_in, is_counted, packet_at, with_counted}

abbrev pub run_over : (counted before : List CountedPacket) (stray : Option ℕ) → PacketRun
run_over counted before stray = record { counted = counted; stray = stray; reported = before }

-- the run after a packet that is counted in it, one that starts a run, and a stray
abbrev pub counted_after : (seq transit octets rate : ℕ) → PacketRun → PacketRun
counted_after seq transit octets rate run =
    with_counted (packet_at (ordinal_near (greatest_ordinal run.counted) seq) transit octets rate) run

abbrev pub started : (seq transit octets rate : ℕ) → PacketRun
started seq transit octets rate = run_over (packet_at (seq + 65536) transit octets rate ∷ []) [] None

abbrev pub strayed : (seq : ℕ) → PacketRun → PacketRun
strayed seq run = record run { stray = Some seq }

-- What holds of each of these holds of a run, what a packet is to it, whether it is counted, and the run after it.
pub by_taking : (P : PacketRun → Taken → Bool → PacketRun → Type 0) (seq transit octets rate : ℕ)
    → ((p : CountedPacket) (earlier before : List CountedPacket) (stray : Option ℕ) →
    let run : PacketRun = run_over (p ∷ earlier) before stray in
    P run Counted true (counted_after seq transit octets rate run))
    → ((run : PacketRun) → P run Became true (started seq transit octets rate))
    → ((run : PacketRun) → P run Restarted true (started seq transit octets rate))
    → ((run : PacketRun) → P run Probation false (strayed seq run))
    → ((run : PacketRun) → P run Bad false (strayed seq run))
    → (counted before : List CountedPacket) (stray : Option ℕ) →
    let run : PacketRun = run_over counted before stray in
    P run (taken_in run seq) (is_counted_in run seq) (run_with seq transit octets rate run)
by_taking P seq transit octets rate goes_on became restarted probation bad [] before stray =
    let run : PacketRun = run_over [] before stray in
    elim (follows stray seq) as (λ b. P run (if b then Became else Probation) b
    (if b then started seq transit octets rate else strayed seq run)) [
      | true ↦ became run
      | false ↦ probation run
    ]
by_taking P seq transit octets rate goes_on became restarted probation bad (p ∷ earlier) before stray =
    let run : PacketRun = run_over (p ∷ earlier) before stray in
    elim (is_near (greatest_ordinal (p ∷ earlier)) seq) as (λ near. P run
    (if near then Counted else (if follows stray seq then Restarted else Bad)) (near || follows stray seq)
    (if near then counted_after seq transit octets rate run
    else if follows stray seq then started seq transit octets rate else strayed seq run)) [
      | true ↦ goes_on p earlier before stray
      | false ↦ elim (follows stray seq) as (λ b. P run (if b then Restarted else Bad) b
          (if b then started seq transit octets rate else strayed seq run)) [
            | true ↦ restarted run
            | false ↦ bad run
          ]
    ]

-- A packet is counted where it is taken so.
pub same_counted : (run : PacketRun) (seq : ℕ) → is_counted (taken_in run seq) ≡ is_counted_in run seq
same_counted run seq =
    by_taking (λ _ taken counts _. is_counted taken ≡ counts) seq 0 0 0 (λ _ _ _ _. refl) (λ _. refl) (λ _. refl)
    (λ _. refl) (λ _. refl) run.counted run.reported run.stray
