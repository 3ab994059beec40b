-- Worked examples: sources with news, computed on short traces.
use Rattle.std.proofs.Common.{◌≡◌, ℕ, true, false, List, [], ◌∷◌, Option, Some, None, map}
use Rattle.rtcp_wire.specs.declared.fact.Fact.TheVariants.{Heard, Named, Gone, Media}
use Rattle.rtcp_members.specs.Traces.{horizons_at, TraceStep, fact_came, check_made, block_made_of}
use Rattle.rtcp_members.specs.Entries.{counted_at}
use Rattle.rtcp_members.specs.News.{pending_at}
use Rattle.rtcp_members.specs.Pending.{pending_rows_at}

abbrev pending : Option ℕ → List TraceStep → List ℕ
pending last trace = pending_at last 3 trace

-- ---- Three sources sent two packets each, of which the second is counted.

abbrev three_senders : List TraceStep
three_senders =
    fact_came (Media 1 11 0 0 8000) 0 ∷ fact_came (Media 3 11 0 0 8000) 0 ∷ fact_came (Media 2 11 0 0 8000) 0
    ∷ fact_came (Media 2 10 0 0 8000) 0 ∷ fact_came (Media 1 10 0 0 8000) 0 ∷ fact_came (Media 3 10 0 0 8000) 0 ∷ []

abbrev all_reported : List TraceStep
all_reported = block_made_of 1 ∷ block_made_of 3 ∷ block_made_of 2 ∷ three_senders

record Waiting : Type 0 where
  from_the_least : pending None three_senders ≡ 1 ∷ 2 ∷ 3 ∷ []
  above_the_last : pending (Some 1) three_senders ≡ 2 ∷ 3 ∷ 1 ∷ []
  others_wait : pending (Some 2) (block_made_of 2 ∷ three_senders) ≡ 3 ∷ 1 ∷ []
  none_is_left : pending (Some 1) all_reported ≡ []
  news_again : pending (Some 1) (fact_came (Media 2 12 0 0 8000) 0 ∷ all_reported) ≡ 2 ∷ []
  not_after_bye : pending None (fact_came (Gone 1) 0 ∷ three_senders) ≡ 2 ∷ 3 ∷ []
  -- Those who were only heard or named, and those on probation, have none.
  no_packets : pending None (fact_came (Media 3 10 0 0 8000) 0 ∷ fact_came (Named 2) 0 ∷ fact_came (Heard 1) 0 ∷ [])
      ≡ []
  -- A source that was dropped begins anew.
  dropped : pending None (fact_came (Media 1 12 0 0 8000) 9 ∷ check_made (horizons_at 1 0 0) ∷ three_senders) ≡ []
  in_rows : map (λ row. row.0) (pending_rows_at (Some 1) 3 three_senders) ≡ 2 ∷ 3 ∷ 1 ∷ []

waiting : Waiting
waiting = search

-- ---- Packets that are counted

record Counted : Type 0 where
  second_counts : counted_at 3 (fact_came (Media 1 10 0 0 8000) 0 ∷ []) (Media 1 11 0 0 8000) ≡ true
  first_does_not : counted_at 3 [] (Media 1 10 0 0 8000) ≡ false
  no_packet : counted_at 3 three_senders (Heard 1) ≡ false
  after_bye : counted_at 3 (fact_came (Gone 1) 0 ∷ three_senders) (Media 1 12 0 0 8000) ≡ false
  -- on probation again
  after_dropping : counted_at 3 (check_made (horizons_at 1 0 0) ∷ three_senders) (Media 1 12 0 0 8000) ≡ false

counted : Counted
counted = search
