use Rattle.std.proofs.Common.{append_assoc, arith}
use Rattle.rtcp_wire.specs.Views.{block_value}
use Rattle.rtcp_text.specs.Text.{block_text}
use Rattle.rtcp_text.proofs.Joined.{texts_given}
use Rattle.rtcp_text.proofs.text.reports.push_report_end.Goals as goal

pub returns : goal.returns
returns c =
    let joined = c.in_ok-push_joined.ensures in
    let texts = texts_given block_value block_text c.args.blocks joined.0 joined.1 in
    grind (arith, append_assoc, texts, joined.2)
