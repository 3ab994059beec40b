use Rattle.std.proofs.Common.{◌∙◌, Bool, ◌∷◌, ◌||◌, map, ap, sym}
use Rattle.std.proofs.lemmas.Bool.{ne_eqb}
use Rattle.rtcp_engine.specs.declared.changes.IdentifierChange.{IdentifierChange}
use Rattle.rtcp_engine.specs.answers.Changes.{is_among}
use Rattle.rtcp_engine.specs.state.States.{ParticipantValue}
use Rattle.rtcp_engine.proofs.participant.Participant.is_own.Goals as goal

pub returns-else-ssrc : goal.returns-else-ssrc
returns-else-ssrc g c session h =
    let p = c.args.self.now in
    let present = c.ssrc.ensures ∙ ap (λ (x : ParticipantValue). x.presence.setup.ssrc) c.self.view_is in
    c.gave_up.ensures
    ∙ ap (λ (x : ParticipantValue). is_among (map (λ (change : IdentifierChange). change.former) x.changes) c.args.ssrc)
    c.self.view_is
    ∙ sym (ap (λ (b : Bool). b || is_among (map (λ (change : IdentifierChange). change.former) p.changes) c.args.ssrc)
    (ne_eqb p.presence.setup.ssrc c.args.ssrc (λ same. c.if-ssrc.false (present ∙ same))))
    ∙ (λ i. is_among ((h.setup i).ssrc ∷ map (λ (change : IdentifierChange). change.former) (h.changes i)) c.args.ssrc)
