use Rattle.std.proofs.Common.{append_assoc, arith}
use Rattle.rtcp_text.specs.Text.{chunk_text}
use Rattle.rtcp_text.proofs.Joined.{texts_given}
use Rattle.rtcp_text.proofs.text.descriptions.push_description.Goals as goal

pub returns : goal.returns
returns c =
    let joined = c.in_ok-push_joined.ensures in
    let texts = texts_given (λ chunk. chunk) chunk_text c.chunks.result joined.0 joined.1 in
    grind (arith, append_assoc, texts, joined.2)
