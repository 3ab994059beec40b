-- The jitter is that of the newest packets of one rate.
use Rattle.std.proofs.Common.{◌≡◌, ◌==◌, ℕ, Bool, true, false, if◌then◌else◌, List, [], ◌∷◌, refl, sym, ap, ◌∙◌}
use Rattle.std.proofs.lemmas.Bool.{eq-eqb}
use Rattle.rtcp_source.specs.Packets.{Given, packet_came, report_came, block_made, CountedPacket, PacketRun, run_of}
use Rattle.rtcp_source.specs.Takings.{transit_of}
use Rattle.rtcp_source.specs.Summary.{HasOneRate, interarrival_jitter, since_change}
use Rattle.rtcp_source.specs.ReportBlocks.{jitter_of, transit_distance}
use Rattle.rtcp_source.specs.Fields.{jitter_on, jitter_with}
use Rattle.rtcp_source.proofs.Takings.{by_taking}

-- a packet more before those of one rate
one_before : (p q : CountedPacket) (earlier : List CountedPacket)
    → interarrival_jitter (p ∷ since_change (q ∷ earlier))
    ≡ jitter_with (interarrival_jitter (since_change (q ∷ earlier))) (transit_distance p.transit q.transit)
one_before p q [] = refl
one_before p q (r ∷ earlier) =
    elim (q.rate == r.rate)
    as (λ b. let rest : List CountedPacket = if b then q ∷ since_change (r ∷ earlier) else q ∷ [] in
    interarrival_jitter (p ∷ rest) ≡ jitter_with (interarrival_jitter rest) (transit_distance p.transit q.transit)) [
      | true ↦ refl
      | false ↦ refl
    ]

pub jitter_since_change : (counted : List CountedPacket) →
    jitter_of counted ≡ interarrival_jitter (since_change counted)
jitter_since_change [] = refl
jitter_since_change (p ∷ []) = refl
jitter_since_change (p ∷ q ∷ earlier) =
    elim (p.rate == q.rate)
    as (λ b. jitter_on b (jitter_of (q ∷ earlier)) (transit_distance p.transit q.transit)
    ≡ interarrival_jitter (if b then p ∷ since_change (q ∷ earlier) else p ∷ [])) [
      | true ↦ (ap (λ (jitter : ℕ). jitter_with jitter (transit_distance p.transit q.transit))
          (jitter_since_change (q ∷ earlier)) ∙ sym (one_before p q earlier))
      | false ↦ refl
    ]

-- ---- One rate alone

abbrev AllHave : (rate : ℕ) → List CountedPacket → Type 0
AllHave rate [] = Unit {0}
AllHave rate (p ∷ earlier) = (p.rate ≡ rate) × AllHave rate earlier

counted_have : (rate : ℕ) (given : List Given) → HasOneRate rate given → AllHave rate (run_of given).counted
counted_have rate [] has = tt
counted_have rate (packet_came seq timestamp arrival octets other ∷ given) has =
    let run : PacketRun = run_of given in
    by_taking (λ old _ _ new. AllHave rate old.counted → AllHave rate new.counted) seq (transit_of timestamp arrival)
    octets other (λ _ _ _ _ have. (has.0, have)) (λ _ _. (has.0, tt)) (λ _ _. (has.0, tt)) (λ _ have. have)
    (λ _ have. have) run.counted run.reported run.stray (counted_have rate given has.1)
counted_have rate (report_came ntp rtp moment ∷ given) has = counted_have rate given has
counted_have rate (block_made ∷ given) has = counted_have rate given has

jitter_of_all : (rate : ℕ) (counted : List CountedPacket) → AllHave rate counted →
    jitter_of counted ≡ interarrival_jitter counted
jitter_of_all rate [] have = refl
jitter_of_all rate (p ∷ []) have = refl
jitter_of_all rate (p ∷ q ∷ earlier) have =
    let distance = transit_distance p.transit q.transit in
    ap (λ (b : Bool). jitter_on b (jitter_of (q ∷ earlier)) distance) (eq-eqb p.rate q.rate (have.0 ∙ sym have.1.0))
    ∙ ap (λ (jitter : ℕ). jitter_with jitter distance) (jitter_of_all rate (q ∷ earlier) have.1)

pub jitter_of_one_rate : (rate : ℕ) (given : List Given) → HasOneRate rate given →
    jitter_of (run_of given).counted ≡ interarrival_jitter (run_of given).counted
jitter_of_one_rate rate given has = jitter_of_all rate (run_of given).counted (counted_have rate given has)
