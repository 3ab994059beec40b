use Rattle.std.proofs.Common.{◌≡◌, ◌++◌, map}
use Rattle.json.specs.Tree.{items_tokens, json_tokens}
use Rattle.json.specs.Value.{items_of}
use Rattle.rtcp_json.specs.JsonValues.{array_of}
use Rattle.rtcp_json.specs.PacketValues.{chunk_json}
use Rattle.rtcp_json.proofs.descriptions.write_chunks.Given as goal

-- what is written, and then the tokens of the chunks that are left
abbrev pub invariant-loop-chunk : goal.invariant-loop-chunk
invariant-loop-chunk l = record {
  tokens : l.writer.tokens ++ items_tokens (items_of (map chunk_json l.chunk-iterator)) ≡ l.fn.writer.tokens
      ++ json_tokens (array_of (map chunk_json l.fn.description));
  before : l.writer.before ≡ l.fn.writer.before;
}
