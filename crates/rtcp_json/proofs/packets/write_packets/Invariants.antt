use Rattle.std.proofs.Common.{◌≡◌, ◌++◌, map}
use Rattle.json.specs.Tree.{items_tokens, json_tokens}
use Rattle.json.specs.Value.{items_of}
use Rattle.rtcp_json.specs.JsonValues.{array_of}
use Rattle.rtcp_json.specs.PacketValues.{packet_json}
use Rattle.rtcp_json.proofs.packets.write_packets.Given as goal

-- what is written, and then the tokens of the packets that are left
abbrev pub invariant-loop-packet : goal.invariant-loop-packet
invariant-loop-packet l = record {
  tokens : l.writer.tokens ++ items_tokens (items_of (map packet_json l.packet-iterator)) ≡ l.fn.writer.tokens
      ++ json_tokens (array_of (map packet_json l.fn.compound));
  before : l.writer.before ≡ l.fn.writer.before;
}
