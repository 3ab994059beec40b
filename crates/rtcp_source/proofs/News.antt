-- A source has news where some packet was counted since its last block.
use Rattle.std.proofs.Common.{◌≡◌, ◌≤◌, ◌||◌, nat_lt, Bool, List, [], ◌∷◌, length, refl, arith, ◌∙◌, ap}
use Rattle.std.proofs.lemmas.Bool.Decides.{nat_tests}
use Rattle.rtcp_source.specs.Packets.{Given, packet_came, report_came, block_made, CountedPacket, PacketRun, is_counted_in, run_of, has_news_since}
use Rattle.rtcp_source.specs.Takings.{counted_since_block, transit_of}
use Rattle.rtcp_source.specs.Summary.{SourceValue, numbers_of, summary_of, StandsAt}
use Rattle.rtcp_source.specs.Blocks.{news_of}
use Rattle.rtcp_source.proofs.Takings.{by_taking}

abbrev IsOrdered : PacketRun → Type 0
IsOrdered run = length run.reported ≤ length run.counted

abbrev news_in : PacketRun → Bool
news_in run = nat_lt (length run.reported) (length run.counted)

ordered : (given : List Given) → IsOrdered (run_of given)
ordered [] = omega arith
ordered (packet_came seq timestamp arrival octets rate ∷ given) =
    let run : PacketRun = run_of given in
    by_taking (λ old _ _ new. IsOrdered old → IsOrdered new) seq (transit_of timestamp arrival) octets rate
    (λ _ _ _ _ before. omega (arith, before)) (λ _ _. omega arith) (λ _ _. omega arith) (λ _ before. before)
    (λ _ before. before) run.counted run.reported run.stray (ordered given)
ordered (report_came ntp rtp moment ∷ given) = ordered given
ordered (block_made ∷ given) = omega arith

pub news_is_counted : (given : List Given) → has_news_since given ≡ counted_since_block given
news_is_counted [] = refl
news_is_counted (packet_came seq timestamp arrival octets rate ∷ given) =
    let run : PacketRun = run_of given in
    by_taking (λ old _ counts new. IsOrdered old → news_in new ≡ counts || news_in old) seq
    (transit_of timestamp arrival) octets rate (λ _ _ _ _ before. grind (arith, nat_tests, before)) (λ _ _. refl)
    (λ _ _. refl) (λ _ _. refl) (λ _ _. refl) run.counted run.reported run.stray (ordered given)
    ∙ ap (λ b. is_counted_in run seq || b) (news_is_counted given)
news_is_counted (report_came ntp rtp moment ∷ given) = news_is_counted given
news_is_counted (block_made ∷ given) = grind (arith, nat_tests)

news_of_numbers : (counted before : List CountedPacket) → news_of (numbers_of counted before) ≡ nat_lt (length before)
    (length counted)
news_of_numbers [] before = grind (arith, nat_tests)
news_of_numbers (p ∷ earlier) before = refl

pub news_of_summary : (given : List Given) → news_of (summary_of given).run ≡ has_news_since given
news_of_summary given = news_of_numbers (run_of given).counted (run_of given).reported

pub since_block : (source : SourceValue) (news : Bool) → news ≡ news_of source.run → (given : List Given) →
    StandsAt source given → news ≡ has_news_since given
since_block source news last_report given stands = rw (last_report, stands) (news_of_summary given)
