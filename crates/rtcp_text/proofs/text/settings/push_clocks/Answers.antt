use Rattle.std.proofs.lemmas.Iterator.{YieldsList-from_slice, items_from_drains}
use Rattle.rtcp_engine.specs.answers.Acts.{clock_value}
use Rattle.rtcp_text.specs.SettingsFields.{clock_text}
use Rattle.rtcp_text.proofs.Joined.{list_text-joined}
use Rattle.rtcp_text.proofs.text.settings.push_clocks.Goals as goal

pub returns : goal.returns
returns c =
    let joined = c.in_ok-push_joined.ensures in
    let all = items_from_drains joined.0 (joined.1.1.0, joined.1.1.1, λ _. (joined.1.0, joined.1.1.2))
    (YieldsList-from_slice c.args.clocks.now cc) in
    let texts = list_text-joined clock_text clock_value joined.0 c.args.clocks.now all c.if-is_empty.ensures in
    rw texts at joined.2
