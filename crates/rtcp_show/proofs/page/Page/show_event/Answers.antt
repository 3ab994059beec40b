use Rattle.std.proofs.Common.{◌≡◌, ◌++◌, ◌∙◌, ap, subst, List, ℕ}
use Rattle.std.proofs.lemmas.Result.{on_ok_weaker}
use Rattle.std.specs.Io.KnownBytes.{Appends}
use Rattle.rtcp_engine.specs.state.Views.{event_value}
use Rattle.rtcp_guarded.specs.Views.{guarded_value}
use Rattle.rtcp_show.specs.Lines.{ShowsBothBy}
use Rattle.rtcp_show.specs.Times.{told_by}
use Rattle.rtcp_show.specs.Wordings.{shown_in}
use Rattle.rtcp_show.specs.Watchers.{held_on}
use Rattle.rtcp_show.proofs.page.Page.show_event.Goals as goal

pub returns-in-Ok-clause-written : goal.returns-in-Ok-clause-written
returns-in-Ok-clause-written g c =
    let held = held_on g.W.Write.contents c.args.self.now in
    let holds = held_on g.W.Write.contents c.write.new.self in
    let text = c.push_read_lines.new.out.items in
    let Says : List ℕ → Type 0 =
    ShowsBothBy (told_by c.args.clock) (shown_in c.args.wording) c.args.to
    (event_value c.args.event.now) (guarded_value c.args.answer.now) in
    let given : (lines : List ℕ) × Says lines × (text ≡ c.clear.new.self.items ++ lines) = c.in-Ok.ensures in
    let same : text ≡ given.0 = given.2 ∙ ap (λ xs. xs ++ given.0) c.clear.ensures.items in
    let step : Appends held holds text → (lines : List ℕ) × Says lines × Appends held holds lines =
    λ appended. (given.0, given.1, subst (Appends held holds) same appended) in
    on_ok_weaker c.write.result step c.write.ensures.written
