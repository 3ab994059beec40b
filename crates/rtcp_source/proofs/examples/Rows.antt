-- Worked examples that no test has: the definitions, computed on packets of source 9.
use Rattle.std.proofs.Common.{◌≡◌, ℕ, pos, List, [], ◌∷◌, Option, Some, None}
use Rattle.rtcp_wire.specs.Values.{ReportBlock}
use Rattle.rtcp_source.specs.Packets.{Given, packet_came, report_came, block_made}
use Rattle.rtcp_source.specs.Summary.{summary_of}
use Rattle.rtcp_source.specs.Blocks.{block_for}
use Rattle.rtcp_source.specs.ReportBlocks.{block_over}

-- packets of one transit, the newest number first
abbrev with_numbers : List ℕ → List Given → List Given
with_numbers [] given = given
with_numbers (seq ∷ seqs) given = packet_came seq 0 0 0 8000 ∷ with_numbers seqs given

abbrev numbers : List ℕ → List Given
numbers seqs = with_numbers seqs []

-- the block of source 9, by what is kept and by the list
abbrev Gives : (t : ℕ) → List Given → Option ReportBlock → Type 0
Gives t given block = (block_for 9 t (summary_of given) ≡ block) × (block_over 9 t given ≡ block)

-- a block with no jitter and no sender report
abbrev plain_block : (fraction lost highest : ℕ) → Option ReportBlock
plain_block fraction lost highest =
    Some (record { ssrc = 9; fraction = fraction; lost = pos lost; highest = highest; jitter = 0; lsr = 0; dlsr = 0 })

-- a block of packets without loss, and no sender report
abbrev jittery_block : (highest jitter : ℕ) → Option ReportBlock
jittery_block highest jitter =
    Some (record {
      ssrc = 9;
      fraction = 0;
      lost = pos 0;
      highest = highest;
      jitter = jitter;
      lsr = 0;
      dlsr = 0;
    })

-- A packet each 20 milliseconds, by a clock of 8,000 a second and then by one of 48,000: the transits of the two lie
-- 4,000,000 units apart, and none of this is jitter.
abbrev switched : List Given
switched =
    packet_came 4 4002880 3840 0 48000 ∷ packet_came 3 4001920 2880 0 48000 ∷ packet_came 2 160 320 0 8000
    ∷ packet_came 1 0 160 0 8000 ∷ []

record Reports : Type 0 where
  none_counted : Gives 0 (numbers (10 ∷ [])) None
  -- 5.25 seconds after a sender report
  last_report : Gives 6250000 (report_came 201232639590400 0 1000000 ∷ numbers (2 ∷ 1 ∷ []))
      (Some (record { ssrc = 9; fraction = 0; lost = pos 0; highest = 2; jitter = 0; lsr = 3070566400; dlsr = 344064 }))
  -- Half of the packets since the last block were lost, and none before it.
  half_lost : Gives 0 (with_numbers (9 ∷ 7 ∷ 5 ∷ []) (block_made ∷ numbers (3 ∷ 2 ∷ 1 ∷ []))) (plain_block 128 3 9)
  -- The jitter returns to 0 at a restart.
  still : Gives 0 (packet_came 5001 0 999 0 8000 ∷ packet_came 5000 0 0 0 8000 ∷ packet_came 3 0 999 0 8000
      ∷ packet_came 2 0 0 0 8000 ∷ packet_came 1 0 0 0 8000 ∷ []) (plain_block 0 0 5001)
  no_jitter : Gives 0 switched (jittery_block 4 0)
  -- From then on jitter counts in units of the new clock: 40 of them late.
  late_by_the_new_clock : Gives 0 (packet_came 5 4003840 4840 0 48000 ∷ switched) (jittery_block 5 2)

reports : Reports
reports = search
