-- The line for the start comes first, and what the answers leave comes after it.
use Rattle.std.proofs.Common.{◌∙◌, ap, sym, subst}
use Rattle.rtcp_engine.specs.state.States.{StandsAt as IsAtHistory}
use Rattle.rtcp_guarded.specs.Guarded.{passed_at}
use Rattle.rtcp_guarded.specs.Views.{StandsAt}
use Rattle.rtcp_text.specs.AnswerText.{start_text}
use Rattle.rtcp_text.specs.Counted.{inner_of}
use Rattle.rtcp_guarded_text.specs.declared.player.GuardedPlayer.{GuardedPlayer}
use Rattle.rtcp_text.proofs.SessionLemmas.{opening_shown}
use Rattle.rtcp_guarded_text.proofs.GuardedLemmas.{Writes-session}
use Rattle.rtcp_guarded_text.proofs.replay.session.Goals as goal

pub returns-clause-leaves : goal.returns-clause-leaves
returns-clause-leaves g c = λ history stands.
    let remaining = g.R.Read.remaining (inner_of c.args.reader.now) in
    let held = g.W.Write.contents (inner_of c.args.writer.now) in
    let last = g.W.Write.contents (inner_of c.answer_opened.new.writer) in
    let left = g.R.Read.remaining (inner_of c.answer_opened.new.reader) in
    let opens = opening_shown c.next.result _ c.push_start.new.out.items c.in_default.ensures
    c.new-start.ensures.items in
    Writes-session c.args.lines (λ (player : GuardedPlayer g.row.T.Denot). player.guarded) c.new-player.result history
    (subst (λ p. StandsAt p history) (sym c.new-player.ensures) stands)
    c.answer_opened.result remaining held last left c.deref.result.now
    (c.deref.ensures.value ∙ opens ∙ ap start_text (c.next.ensures.exact (passed_at history)
    (subst (λ p. IsAtHistory p (passed_at history)) (sym c.participant.ensures) stands.participant)))
    c.answer_opened.ensures.leaves
