use Rattle.std.proofs.Common.{not, ◌∙◌, ap}
use Rattle.rtcp_engine.specs.answers.OwnStreams.{OwnValue}
use Rattle.rtcp_engine.proofs.StepLemmas.{seen}
use Rattle.rtcp_engine.proofs.presence.Presence.sent_nothing.Goals as goal

pub returns : goal.returns
returns g c outcome agrees = ap not
    (c.did_send.ensures ∙ ap (λ (own : OwnValue). own.heard) (seen c.self.view_is outcome agrees).still.own)
