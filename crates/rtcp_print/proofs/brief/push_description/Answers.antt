use Rattle.std.specs.List.{join_with_byte}
use Rattle.rtcp_text.specs.Text.{chunk_text}
use Rattle.std.proofs.Common.{ap, ◌∙◌, map}
use Rattle.rtcp_print.proofs.Pieces.{texts_given}
use Rattle.rtcp_print.proofs.PageLemmas.{both, told_as}
use Rattle.rtcp_print.proofs.brief.push_description.Goals as goal

pub returns-clause-adds : goal.returns-clause-adds
returns-clause-adds c =
    let joined = c.push_joined.ensures.adds in
    let texts = ap (join_with_byte 59) (texts_given (λ chunk. chunk) chunk_text c.chunks.result joined.0 joined.1
    ∙ ap (map chunk_text) c.chunks.ensures) in
    both (both c.push.ensures.adds (told_as joined.2 texts))
    c.push-2.ensures.adds
