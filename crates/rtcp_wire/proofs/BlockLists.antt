-- The blocks about a source are those of all blocks that name it.
use Rattle.std.proofs.Common.{◌≡◌, ℕ, ◌==◌, Bool, true, false, List, [], ◌∷◌, ◌++◌, refl, sym, ap, ◌∙◌}
use Rattle.std.specs.Prelude.{filter}
use Rattle.std.proofs.lemmas.List.Elements.{filter-append}
use Rattle.rtcp_wire.specs.About.{named_blocks, packet_about, blocks_about}
use Rattle.rtcp_wire.specs.Contents.{blocks_by, packet_blocks, all_blocks}
use Rattle.rtcp_wire.specs.Values.{ReportBlock, RtcpPacket, sr, rr, sdes, bye, app, other}

abbrev names : (ssrc : ℕ) → ℕ × ReportBlock → Bool
names ssrc block = block.1.ssrc == ssrc

of_report : (ssrc reporter : ℕ) (blocks : List ReportBlock) → named_blocks ssrc reporter blocks ≡ filter (names ssrc)
    (blocks_by reporter blocks)
of_report ssrc reporter [] = refl
of_report ssrc reporter (block ∷ blocks) = by_test (block.ssrc == ssrc) refl (of_report ssrc reporter blocks)
  where
    by_test : (test : Bool) → (block.ssrc == ssrc) ≡ test → named_blocks ssrc reporter blocks ≡ filter (names ssrc)
        (blocks_by reporter blocks)
        → named_blocks ssrc reporter (block ∷ blocks) ≡ filter (names ssrc) (blocks_by reporter (block ∷ blocks))
    by_test true is others = rw is (ap (λ (l : List (ℕ × ReportBlock)). (reporter, block) ∷ l) others)
    by_test false is others = rw is others

of_packet : (ssrc : ℕ) (packet : RtcpPacket) → packet_about ssrc packet ≡ filter (names ssrc) (packet_blocks packet)
of_packet ssrc (sr sender blocks extension) = of_report ssrc sender.ssrc blocks
of_packet ssrc (rr reporter blocks extension) = of_report ssrc reporter blocks
of_packet ssrc (sdes chunks) = refl
of_packet ssrc (bye ids reason) = refl
of_packet ssrc (app subtype source name content) = refl
of_packet ssrc (other kind count body) = refl

pub about_of_all : (ssrc : ℕ) (packets : List RtcpPacket) →
    blocks_about ssrc packets ≡ filter (λ block. block.1.ssrc == ssrc) (all_blocks packets)
about_of_all ssrc [] = refl
about_of_all ssrc (packet ∷ packets) =
    (λ i. of_packet ssrc packet i ++ about_of_all ssrc packets i)
    ∙ sym (filter-append (names ssrc) (packet_blocks packet) (all_blocks packets))
