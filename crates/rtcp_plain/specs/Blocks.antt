-- The rows of report blocks, as `rtcp check --blocks` shows them: who reports what of whom.
--
--   by=0000000b about=000000aa loss=33.2% lost=1 highest=4 jitter=1units lsr=2.000000s dlsr=0.500000s
use Rattle.std.specs.Prelude.{ℕ, List, [], ◌∷◌, ◌++◌, None, codes}
use Rattle.std.specs.List.{flat_map}
use Rattle.rtcp_wire.specs.Values.{ReportBlock, RtcpPacket, sr, rr}
use Rattle.rtcp_text.specs.Text.{hex_word}
use Rattle.rtcp_plain.specs.Plain.{block_facts_text}

-- a block, after who reports it; its jitter is in units, as no clock is known
abbrev pub block_row_text : (reporter : ℕ) → ReportBlock → List ℕ
block_row_text reporter b =
    codes "by=" ++ hex_word reporter ++ codes " about=" ++ hex_word b.ssrc ++ block_facts_text None b ++ 10 ∷ []

abbrev pub rows_of_packet : RtcpPacket → List ℕ
rows_of_packet (sr sender blocks extension) = flat_map (block_row_text sender.ssrc) blocks
rows_of_packet (rr ssrc blocks extension) = flat_map (block_row_text ssrc) blocks
rows_of_packet packet = []

-- a row for each block of an accepted datagram: none where it has no block
abbrev pub blocks_text : List RtcpPacket → List ℕ
blocks_text packets = flat_map rows_of_packet packets
