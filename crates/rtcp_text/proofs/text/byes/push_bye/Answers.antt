use Rattle.std.proofs.Common.{append_assoc, arith}
use Rattle.rtcp_text.specs.Text.{hex_word}
use Rattle.rtcp_text.proofs.Joined.{texts_given}
use Rattle.rtcp_text.proofs.text.byes.push_bye.Goals as goal

pub returns : goal.returns
returns c =
    let joined = c.in_ok-push_joined.ensures in
    let texts = texts_given (λ id. id) hex_word c.ids.result joined.0 joined.1 in
    grind (arith, append_assoc, texts, joined.2)
