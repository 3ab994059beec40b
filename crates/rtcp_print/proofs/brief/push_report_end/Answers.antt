use Rattle.std.specs.List.{join_with_byte}
use Rattle.rtcp_wire.specs.Views.{block_value}
use Rattle.rtcp_text.specs.Text.{block_text}
use Rattle.std.proofs.Common.{ap}
use Rattle.rtcp_print.proofs.Pieces.{texts_given}
use Rattle.rtcp_print.proofs.PageLemmas.{both, told_as}
use Rattle.rtcp_print.proofs.brief.push_report_end.Goals as goal

pub returns-clause-adds : goal.returns-clause-adds
returns-clause-adds c =
    let joined = c.push_joined.ensures.adds in
    let texts = ap (join_with_byte 59) (texts_given block_value block_text c.args.blocks joined.0 joined.1) in
    both (both (both c.push.ensures.adds (told_as joined.2 texts))
    c.push-2.ensures.adds)
    c.push_decimal.ensures.adds
