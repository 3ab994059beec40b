use Rattle.rtcp_wire.specs.Views.{block_value}
use Rattle.rtcp_plain.specs.Plain.{block_text}
use Rattle.rtcp_print.proofs.Pieces.{pieces_given}
use Rattle.rtcp_print.proofs.PageLemmas.{both, told_as}
use Rattle.rtcp_print.proofs.plain.push_report_end.Goals as goal

pub returns-clause-adds : goal.returns-clause-adds
returns-clause-adds c =
    let each = c.push_each.ensures.adds in
    both (told_as each.2 (pieces_given block_value (block_text c.args.rate) c.args.blocks each.0 each.1))
    c.push_extension.ensures.adds
