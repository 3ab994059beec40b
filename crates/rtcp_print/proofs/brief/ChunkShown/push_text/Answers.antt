use Rattle.std.specs.List.{join_with_byte}
use Rattle.rtcp_wire.specs.WriterViews.{item_ref_of}
use Rattle.rtcp_text.specs.Text.{item_text}
use Rattle.std.proofs.Common.{ap, ◌∙◌, map}
use Rattle.rtcp_print.proofs.Pieces.{texts_given}
use Rattle.rtcp_print.proofs.PageLemmas.{both, told_as}
use Rattle.rtcp_print.proofs.brief.ChunkShown.push_text.Goals as goal

pub returns-clause-adds : goal.returns-clause-adds
returns-clause-adds c =
    let joined = c.push_joined.ensures.adds in
    let texts = ap (join_with_byte 44) (texts_given item_ref_of item_text c.items.result joined.0 joined.1
    ∙ ap (map item_text) c.items.ensures) in
    both (both (both (rw c.id.ensures at c.push_word.ensures.adds) c.push.ensures.adds)
    (told_as joined.2 texts))
    c.push-2.ensures.adds
