use Rattle.std.proofs.Common.{◌≡◌, ◌++◌, ℕ, List, OnOk, codes, subst}
use Rattle.rtcp_text.specs.Text.{hex_word}
use Rattle.rtcp_command.specs.ReplayCommand.{quoted}
use Rattle.rtcp_command.proofs.ReplayCommandLemmas.{pair}
use Rattle.rtcp_command.proofs.replay_command.push_name.Goals as goal

pub returns : goal.returns
returns c =
    subst (λ (text : List ℕ). OnOk c.push_text.result (c.push_text.new.out.items
    ≡ c.args.out.now.items ++
    (codes " --ssrc " ++ hex_word c.args.config.now.ssrc ++ codes " --cname " ++ quoted text)))
    c.deref.ensures.0
    (pair _ _ (codes " --ssrc ") (hex_word c.args.config.now.ssrc) (codes " --cname ") (quoted c.deref.result.now) _ _
    c.in_ok-push_hex.ensures c.push_text.ensures)
