use Rattle.std.specs.List.{flat_map}
use Rattle.std.proofs.Common.{ap, ◌∙◌}
use Rattle.rtcp_wire.specs.WriterViews.{item_ref_of}
use Rattle.rtcp_plain.specs.Plain.{item_text}
use Rattle.rtcp_print.proofs.Pieces.{pieces_given}
use Rattle.rtcp_print.proofs.PageLemmas.{both, told_as}
use Rattle.rtcp_print.proofs.plain.ChunkTold.push_words.Goals as goal

pub returns-clause-adds : goal.returns-clause-adds
returns-clause-adds c =
    let each = c.push_each.ensures.adds in
    both (rw c.id.ensures at c.push_source.ensures.adds)
    (told_as each.2 (pieces_given item_ref_of item_text c.items.result each.0 each.1
    ∙ ap (flat_map item_text) c.items.ensures))
