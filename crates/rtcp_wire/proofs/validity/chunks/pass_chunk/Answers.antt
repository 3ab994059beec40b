use Rattle.std.proofs.Common.{◌==◌, ap, subst, ◌∙◌}
use Rattle.byteorder.specs.Endian.{big_number}
use Rattle.rtcp_wire.specs.Summaries.{sender_of}
use Rattle.rtcp_wire.specs.Validity.{PassesItems}
use Rattle.rtcp_wire.proofs.Passing.{chunk_passed}
use Rattle.rtcp_wire.proofs.Summing.{chunk_summed}
use Rattle.rtcp_wire.proofs.validity.chunks.pass_chunk.Goals as goal

pub returns-clause-valid : goal.returns-clause-valid
returns-clause-valid c =
    let after = c.pass_items.new.reader in
    let items = subst (λ t. PassesItems t after) c.take-id.ensures.rest c.in_ok-pass_items.ensures in
    rw (c.take.ensures.rest, c.left-fill.ensures)
    (chunk_passed c.args.reader.now after c.requires.room c.requires.words items)

pub returns-clause-sums : goal.returns-clause-sums
returns-clause-sums c =
    let ssrc = sender_of c.args.datagram.now in
    chunk_summed c.args.reader.now c.take-id.new.self c.rest-items.result.now c.pass_items.new.reader ssrc
    c.is_of_first.result c.is_name_first.result c.args.summary.now c.keep.new.self c.name.new.self
    (c.is_of_first.ensures ∙ ap (λ t. big_number 4 t == ssrc) c.take-id.ensures.taken) c.take-id.ensures.rest
    c.rest-items.ensures c.in_ok-pass_items.ensures c.is_name_first.ensures c.keep.ensures.sole c.keep.ensures.named
    c.name.ensures.sole c.name.ensures.named
