use Rattle.std.proofs.Common.{◌≡◌, ◌++◌, map}
use Rattle.json.specs.Tree.{items_tokens, json_tokens}
use Rattle.json.specs.Value.{items_of}
use Rattle.rtcp_json.specs.JsonValues.{array_of}
use Rattle.rtcp_json.specs.PacketValues.{block_json}
use Rattle.rtcp_json.proofs.reports.write_blocks.Given as goal

-- what is written, and then the tokens of the blocks that are left
abbrev pub invariant-loop-block : goal.invariant-loop-block
invariant-loop-block l = record {
  tokens : l.writer.tokens ++ items_tokens (items_of (map block_json l.block-iterator)) ≡ l.fn.writer.tokens
      ++ json_tokens (array_of (map block_json l.fn.blocks));
  before : l.writer.before ≡ l.fn.writer.before;
}
