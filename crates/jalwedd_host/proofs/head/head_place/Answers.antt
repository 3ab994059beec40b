-- What is told of a head is what its octets say, and its parts stand there.
use Rattle.std.proofs.Common.{length, sym, ap, ◌∙◌}
use Rattle.std.proofs.lemmas.Iterator.Consumers.{count_from_yields_List, YieldsList-from_first}
use Rattle.jalwedd_host.specs.Answers.{one_if}
use Rattle.jalwedd_host.proofs.Options.{bit_number}
use Rattle.jalwedd_host.proofs.head.head_place.Goals as goal

pub returns : goal.returns
returns c = λ spelled. record {
  payload_type = c.from-2.ensures ∙ c.payload_type.ensures;
  marker = c.from-3.ensures ∙ bit_number c.marker.result ∙ ap one_if c.marker.ensures;
  sequence = c.from.ensures ∙ c.sequence.ensures;
  timestamp = c.timestamp.ensures;
  ssrc = c.ssrc.ensures;
  csrcs = count_from_yields_List c.csrcs.result c.count.result c.count.ensures.ran
      (YieldsList-from_first (λ id. id) (λ ids. ids) _ c.csrcs.ensures.items);
  csrcs_offset = sym spelled.is_fixed.size;
  csrcs_stand = record {
    before = spelled.fixed;
    after = _;
    parts = spelled.parts;
    counted = spelled.is_fixed.size;
  };
  payload_offset = c.payload_offset.ensures.offset spelled;
  payload_size = ap length c.payload.ensures;
  payload_stands = c.payload_offset.ensures.stands;
}
