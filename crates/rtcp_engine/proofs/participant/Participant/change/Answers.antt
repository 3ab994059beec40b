use Rattle.std.proofs.Common.{◌≡◌, ◌∙◌, ◌∷◌, option_map, ap}
use Rattle.rtcp_engine.specs.answers.Lives.{bye_out}
use Rattle.rtcp_engine.specs.state.States.{ParticipantValue, own_bye_in, after_change}
use Rattle.rtcp_engine.specs.state.Views.{phase_value}
use Rattle.rtcp_engine.proofs.ChangeLemmas.{changed_is_in, changed_out}
use Rattle.rtcp_engine.proofs.participant.Participant.change.Goals as goal

pub returns-clause-out : goal.returns-clause-out
returns-clause-out g c session h =
    c.change_identifier.ensures.bye ∙ ap (λ (x : ParticipantValue). option_map bye_out (own_bye_in x.presence))
    c.self.view_is
    ∙ changed_out c.args.self.now session.setup session.life h.life c.requires.present h.setup

pub returns-clause-new : goal.returns-clause-new
returns-clause-new g c session h =
    let p = c.args.self.now in
    let q : ParticipantValue = record {
      presence = c.change_identifier.new.self;
      phase = phase_value c.self.inside.phase;
      changes = c.add.new.self.list.items;
    } in
    let present : c.ssrc.result ≡ p.presence.setup.ssrc = c.ssrc.ensures
    ∙ ap (λ (x : ParticipantValue). x.presence.setup.ssrc) c.self.view_is in
    let changes : q.changes ≡ record { peer = c.args.peer; former = p.presence.setup.ssrc } ∷ p.changes =
    c.add.ensures ∙ (λ i. record { peer = c.args.peer; former = present i } ∷ (c.self.view_is i).changes) in
    changed_is_in p q session (record { peer = c.args.peer; ssrc = c.args.ssrc }) h c.requires.present
    (c.change_identifier.ensures.new ∙ ap (λ (x : ParticipantValue). after_change c.args.ssrc x.presence)
    c.self.view_is)
    (ap (λ (x : ParticipantValue). x.phase) c.self.view_is) changes
