-- The line for the start comes first, and what the answers leave comes after it.
use Rattle.std.proofs.Common.{◌∙◌, ap, sym, subst}
use Rattle.rtcp_engine.specs.state.States.{StandsAt}
use Rattle.rtcp_text.specs.AnswerText.{start_text}
use Rattle.rtcp_text.specs.Counted.{inner_of}
use Rattle.rtcp_text.specs.declared.player.Player.{Player}
use Rattle.rtcp_text.proofs.SessionLemmas.{opening_shown, Writes-session}
use Rattle.rtcp_text.proofs.replay.session.Goals as goal

pub returns-clause-leaves : goal.returns-clause-leaves
returns-clause-leaves g c = λ history stands.
    let remaining = g.R.Read.remaining (inner_of c.args.reader.now) in
    let held = g.W.Write.contents (inner_of c.args.writer.now) in
    let last = g.W.Write.contents (inner_of c.answer_opened.new.writer) in
    let left = g.R.Read.remaining (inner_of c.answer_opened.new.reader) in
    let opens = opening_shown c.next.result _ c.push_start.new.out.items c.in_default.ensures
    c.new-start.ensures.items in
    Writes-session c.args.lines (λ (player : Player g.row.T.Denot). player.participant) c.new-player.result history
    (subst (λ p. StandsAt p history) (sym c.new-player.ensures) stands)
    c.answer_opened.result remaining held last left c.deref.result.now
    (c.deref.ensures.value ∙ opens ∙ ap start_text (c.next.ensures.exact history stands))
    c.answer_opened.ensures.leaves
