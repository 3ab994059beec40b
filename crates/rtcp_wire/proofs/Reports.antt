-- Reports without an extension: how many octets are written of them, and that these can be written.
use Rattle.std.proofs.Common.{◌≡◌, ℕ, ◌+◌, ◌*◌, ◌≤◌, List, [], ◌++◌, length, All, refl, arith, length-append}
use Rattle.std.specs.List.{flat_map}
use Rattle.rtcp_wire.specs.Values.{ReportBlock, SenderValue, rr, sr}
use Rattle.rtcp_wire.specs.Writing.{written_block, written, IsWritableBlock, IsWritable}
use Rattle.rtcp_wire.proofs.Appending.{same_size}

blocks_length : (blocks : List ReportBlock) → length (flat_map written_block blocks ++ []) ≡ 24 * length blocks
blocks_length blocks = omega (
  arith,
  length-append (flat_map written_block blocks) [],
  same_size written_block 24 (λ x. refl) blocks,
)

pub receiver_length : (ssrc : ℕ) (blocks : List ReportBlock) →
    length (written (rr ssrc blocks [])) ≡ 8 + 24 * length blocks
receiver_length ssrc blocks = omega (arith, blocks_length blocks)

pub sender_length : (sender : SenderValue) (blocks : List ReportBlock) →
    length (written (sr sender blocks [])) ≡ 28 + 24 * length blocks
sender_length sender blocks = omega (arith, blocks_length blocks)

pub receiver_writable : (ssrc : ℕ) (blocks : List ReportBlock) → length blocks ≤ 31 → All IsWritableBlock blocks →
    IsWritable (rr ssrc blocks [])
receiver_writable ssrc blocks few can =
    record { parts = (few, can, refl); size = omega (arith, few, blocks_length blocks) }

pub sender_writable : (sender : SenderValue) (blocks : List ReportBlock) → length blocks ≤ 31 →
    All IsWritableBlock blocks → IsWritable (sr sender blocks [])
sender_writable sender blocks few can =
    record { parts = (few, can, refl); size = omega (arith, few, blocks_length blocks) }
