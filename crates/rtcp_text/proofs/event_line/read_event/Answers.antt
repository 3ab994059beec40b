use Rattle.std.proofs.Common.{Some, Err, ap, sym, ◌∙◌}
use Rattle.rtcp_engine.specs.answers.Acts.{rtcp_arrived, rtp_arrived}
use Rattle.rtcp_text.specs.EventLines.{fields_left}
use Rattle.rtcp_text.specs.declared.event_line.LineKind.TheVariants.{Rtcp, Rtp}
use Rattle.rtcp_text.proofs.FieldLemmas.{event_in-named}
use Rattle.rtcp_text.proofs.event_line.read_event.Goals as goal

pub returns-in_err-came-in-Rtcp-clause-fault : goal.returns-in_err-came-in-Rtcp-clause-fault
returns-in_err-came-in-Rtcp-clause-fault c fault e =
    let same = rw e at c.from_residual-in_err-came-in-Rtcp.ensures.1 in
    let refused = c.in_err-came-in-Rtcp.ensures.fault fault (ap Err (sym same)) rtcp_arrived in
    let named = sym c.kind_of.ensures ∙ c.in_ok-ok_or.ensures.ok_part ∙ ap Some c.in-Rtcp.is in
    event_in-named c.args.line.now c.split_part.result.0.now (fields_left c.split_part.result.1) Rtcp
    c.split_part.ensures named ∙ refused

pub returns-in_err-came-in-Rtp-clause-fault : goal.returns-in_err-came-in-Rtp-clause-fault
returns-in_err-came-in-Rtp-clause-fault c fault e =
    let same = rw e at c.from_residual-in_err-came-in-Rtp.ensures.1 in
    let refused = c.in_err-came-in-Rtp.ensures.fault fault (ap Err (sym same)) rtp_arrived in
    let named = sym c.kind_of.ensures ∙ c.in_ok-ok_or.ensures.ok_part ∙ ap Some c.in-Rtp.is in
    event_in-named c.args.line.now c.split_part.result.0.now (fields_left c.split_part.result.1) Rtp
    c.split_part.ensures named ∙ refused
