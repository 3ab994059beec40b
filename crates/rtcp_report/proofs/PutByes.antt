-- The compound with a BYE, put.
use Rattle.std.proofs.Common.{ℕ, ◌<◌, ◌≤◌, ◌^◌, List, [], ◌∷◌, All, None, length, arith}
use Rattle.std.proofs.lemmas.List.Elements.{All-cons, All-nil}
use Rattle.rtcp_wire.specs.Puts.{IsPut}
use Rattle.rtcp_wire.specs.Values.{ChunkValue, rr}
use Rattle.rtcp_wire.specs.Writing.{written, IsWritableBlock, IsWritableItem, IsBlockInRange, IsChunkInRange}
use Rattle.rtcp_wire.proofs.LawLemmas.{reports_are_writable-receiver}
use Rattle.rtcp_report.specs.Gathered.{PutsPackets}
use Rattle.rtcp_report.specs.Reports.{Reporter, bye_of, bye_packet, description_of, receiver_named}
use Rattle.rtcp_report.specs.Sizes.{description_size}
use Rattle.rtcp_report.proofs.PutReports.{one_packet, both_packets}
use Rattle.rtcp_report.proofs.ReportPackets.{description_writable}
use Rattle.rtcp_report.proofs.WholeReports.{items_writable}

pub description_packet : {old new : List ℕ} {at end : ℕ} (reporter : Reporter) → All IsWritableItem reporter.items →
    description_size reporter.items ≤ 1472 → reporter.ssrc < 2 ^ 32 →
    IsPut old new at (written (description_of reporter)) end →
    PutsPackets (description_of reporter ∷ []) old new at end
description_packet reporter can short fits put =
    let chunk : ChunkValue = record { id = reporter.ssrc; items = reporter.items } in
    one_packet (description_of reporter) put (description_writable reporter can short)
    (All-cons IsChunkInRange chunk [] fits (All-nil IsChunkInRange))

pub bye_put : {old second third new : List ℕ} {begin middle end : ℕ} (ssrc : ℕ) (cname : List ℕ) →
    length cname ≤ 255 → ssrc < 2 ^ 32 → IsPut old second 0 (written (rr ssrc [] [])) begin →
    IsPut second third begin (written (description_of (receiver_named ssrc cname))) middle →
    IsPut third new middle (written (bye_packet ssrc)) end → PutsPackets (bye_of ssrc cname) old new 0 end
bye_put ssrc cname short fits report description bye =
    let reporter : Reporter = receiver_named ssrc cname in
    both_packets (rr ssrc [] [] ∷ []) (description_of reporter ∷ bye_packet ssrc ∷ [])
    (one_packet (rr ssrc [] []) report
    (reports_are_writable-receiver ssrc [] (omega arith) (All-nil IsWritableBlock)) (fits, All-nil IsBlockInRange))
    (both_packets (description_of reporter ∷ []) (bye_packet ssrc ∷ [])
    (description_packet reporter (items_writable cname None short (λ item is. absurd cc)) (omega (arith, short)) fits
    description)
    (one_packet (bye_packet ssrc) bye (record { parts = (omega arith, tt {0}); size = omega arith })
    (All-cons (λ (id : ℕ). id < 2 ^ 32) ssrc [] fits (All-nil (λ (id : ℕ). id < 2 ^ 32)))))
