-- What is written of the line is a prefix of it, and a flush keeps that.
use Rattle.std.proofs.Common.{◌≡◌, sym, ap, ◌∙◌, ◌++◌, ◌∷◌, []}
use Rattle.std.proofs.KnownBytes.{Appends-kept}
use Rattle.rtcp_engine.specs.state.Views.{event_value}
use Rattle.rtcp_text.specs.EventLines.{event_text}
use Rattle.rtcp_text.specs.Records.{event_line}
use Rattle.rtcp_text.proofs.record.Recorder.record.Goals as goal

pub returns-in_err-write_whole-clause-prefix : goal.returns-in_err-write_whole-clause-prefix
returns-in_err-write_whole-clause-prefix g c =
    let line : c.deref.result.now ≡ event_line (event_value c.args.event.now) =
    c.deref.ensures.value ∙ c.in_default.ensures
    ∙ ap (λ octets. octets ++ event_text (event_value c.args.event.now) ++ 10 ∷ []) c.clear.ensures.items in
    let written = c.write_whole.ensures.written in
    (written.0, written.1, sym line ∙ written.2, written.4)

pub returns-clause-prefix : goal.returns-clause-prefix
returns-clause-prefix g c =
    let line : c.deref.result.now ≡ event_line (event_value c.args.event.now) =
    c.deref.ensures.value ∙ c.in_default.ensures
    ∙ ap (λ octets. octets ++ event_text (event_value c.args.event.now) ++ 10 ∷ []) c.clear.ensures.items in
    let written = c.write_whole.ensures.written in
    (written.0, written.1, sym line ∙ written.2, Appends-kept _ _ _ _ written.4 c.flush.ensures.kept)
