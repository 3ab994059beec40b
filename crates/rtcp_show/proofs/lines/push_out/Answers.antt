use Rattle.std.proofs.Common.{◌≡◌, ◌++◌, ℕ, List, codes}
use Rattle.std.proofs.lemmas.Result.{on_ok_weaker}
use Rattle.rtcp_text.specs.Check.{IsAnswerBy}
use Rattle.rtcp_show.specs.Lines.{passing_text}
use Rattle.rtcp_show.specs.Times.{when_text}
use Rattle.rtcp_show.proofs.LineLemmas.{passed}
use Rattle.rtcp_show.specs.Wordings.{shown_in}
use Rattle.rtcp_show.proofs.lines.push_out.Goals as goal

pub returns-in_ok-push_passing-in-Some : goal.returns-in_ok-push_passing-in-Some
returns-in_ok-push_passing-in-Some c =
    let octets = c.in-Some.sent.bytes.items in
    let before = c.args.out.now.items in
    let middle = c.push_passing.new.out.items in
    let after = c.push_octets.new.out.items in
    let head = passing_text (when_text c.args.when) (codes " out ") c.args.to in
    let IsText : List ℕ → Type 0 = λ text. (checked : List ℕ) × IsAnswerBy (shown_in c.args.wording) octets checked
    × (text ≡ head ++ checked) in
    let first : middle ≡ before ++ head = c.in_ok-push_passing-in-Some.ensures in
    let step : (text : List ℕ) × IsAnswerBy (shown_in c.args.wording) c.deref.result.now text × (after ≡ middle ++ text)
    → (whole : List ℕ) × IsText whole × (after ≡ before ++ whole) =
    λ given. passed before middle after head (IsAnswerBy (shown_in c.args.wording) octets) first
    (rw c.deref.ensures.0 at given) in
    rw c.in-Some.is (on_ok_weaker c.push_octets.result step c.push_octets.ensures)
