use Rattle.rtcp_command.proofs.EndpointLemmas.{endpoint_in-read, endpoint_in-text}
use Rattle.rtcp_command.proofs.laws.one_endpoint_text.Goals as goal

pub returns : goal.returns
returns c text endpoint = (endpoint_in-read text endpoint, endpoint_in-text text endpoint)
