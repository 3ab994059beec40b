use Rattle.std.proofs.Common.{◌≡◌, ◌++◌, map}
use Rattle.json.specs.Tree.{items_tokens, json_tokens}
use Rattle.json.specs.Value.{items_of}
use Rattle.rtcp_json.specs.JsonValues.{array_of, word_json}
use Rattle.rtcp_json.proofs.descriptions.write_ids.Given as goal

-- what is written, and then the tokens of the identifiers that are left
abbrev pub invariant-loop-id : goal.invariant-loop-id
invariant-loop-id l = record {
  tokens : l.writer.tokens ++ items_tokens (items_of (map word_json l.id-iterator)) ≡ l.fn.writer.tokens
      ++ json_tokens (array_of (map word_json l.fn.ids));
  before : l.writer.before ≡ l.fn.writer.before;
}
