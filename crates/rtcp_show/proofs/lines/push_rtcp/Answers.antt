use Rattle.std.proofs.Common.{◌≡◌, ◌++◌, ℕ, List, codes}
use Rattle.std.proofs.lemmas.Result.{on_ok_weaker}
use Rattle.rtcp_text.specs.Check.{IsAnswerBy}
use Rattle.rtcp_show.specs.Lines.{passing_text}
use Rattle.rtcp_show.specs.Times.{when_text}
use Rattle.rtcp_show.proofs.LineLemmas.{passed}
use Rattle.rtcp_show.specs.Wordings.{shown_in}
use Rattle.rtcp_show.proofs.lines.push_rtcp.Goals as goal

pub returns-in-Ok : goal.returns-in-Ok
returns-in-Ok c =
    let octets = c.args.bytes.now in
    let before = c.args.out.now.items in
    let middle = c.push_passing.new.out.items in
    let after = c.push_datagram.new.out.items in
    let head = passing_text (when_text c.args.when) (codes " in ") c.args.peer in
    let IsText : List ℕ → Type 0 = λ text. (checked : List ℕ) × IsAnswerBy (shown_in c.args.wording) octets checked
    × (text ≡ head ++ checked) in
    let first : middle ≡ before ++ head = c.in_ok-push_passing.ensures in
    let step : (text : List ℕ) × IsAnswerBy (shown_in c.args.wording) octets text × (after ≡ middle ++ text)
    → (whole : List ℕ) × IsText whole × (after ≡ before ++ whole) =
    λ given. passed before middle after head (IsAnswerBy (shown_in c.args.wording) octets) first given in
    rw c.in-Ok.is (on_ok_weaker c.push_datagram.result step c.push_datagram.ensures)
