use Rattle.std.proofs.Common.{◌≡◌, ◌++◌, map}
use Rattle.json.specs.Tree.{items_tokens, json_tokens}
use Rattle.json.specs.Value.{items_of}
use Rattle.rtcp_json.specs.JsonValues.{array_of}
use Rattle.rtcp_json.specs.SourceValues.{source_json}
use Rattle.rtcp_json.proofs.sources.write_sources.Given as goal

-- what is written, and then the tokens of the sources that are left
abbrev pub invariant-loop-state : goal.invariant-loop-state
invariant-loop-state g l = record {
  can : (goal.iterator-loop-state g).can_next l.state-iterator;
  finite : (goal.iterator-loop-state g).is_finite l.state-iterator;
  tokens : l.writer.tokens ++ items_tokens (items_of (map source_json l.state-iterator)) ≡ l.fn.writer.tokens
      ++ json_tokens (array_of (map source_json l.fn.sources));
  before : l.writer.before ≡ l.fn.writer.before;
}
