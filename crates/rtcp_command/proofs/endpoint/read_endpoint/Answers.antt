use Rattle.std.proofs.Common.{None, option_map, ap, sym, ◌∙◌}
use Rattle.std.proofs.lemmas.Bool.{cond-false}
use Rattle.rtcp_command.specs.Endpoints.{endpoint_of, has_leading_zero}
use Rattle.rtcp_command.proofs.EndpointLemmas.{parsed}
use Rattle.rtcp_command.proofs.endpoint.read_endpoint.Goals as goal

pub returns : goal.returns
returns c =
    let text = c.args.text.now in
    ap (option_map endpoint_of) c.ok.ensures.value ∙ parsed text c.parse.result c.parse.ensures.value
    ∙ sym (cond-false (has_leading_zero text) None _ (sym c.if-has_leading_zero.ensures))
