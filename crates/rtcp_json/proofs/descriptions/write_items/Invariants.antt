use Rattle.std.proofs.Common.{◌≡◌, ◌++◌, map}
use Rattle.json.specs.Tree.{items_tokens, json_tokens}
use Rattle.json.specs.Value.{items_of}
use Rattle.rtcp_json.specs.JsonValues.{array_of}
use Rattle.rtcp_json.specs.PacketValues.{item_json}
use Rattle.rtcp_json.proofs.descriptions.write_items.Given as goal

-- what is written, and then the tokens of the items that are left
abbrev pub invariant-loop-item : goal.invariant-loop-item
invariant-loop-item l = record {
  tokens : l.writer.tokens ++ items_tokens (items_of (map item_json l.item-iterator)) ≡ l.fn.writer.tokens
      ++ json_tokens (array_of (map item_json l.fn.items));
  before : l.writer.before ≡ l.fn.writer.before;
}
