-- The fault that the reader found is the datagram's first one.
use Rattle.std.proofs.Common.{◌≡◌, ◌++◌, ℕ, List, refl, inr}
use Rattle.std.proofs.lemmas.Result.{on_ok_weaker}
use Rattle.rtcp_text.specs.Check.{IsAnswerBy}
use Rattle.rtcp_text.specs.Text.{fault_text}
use Rattle.rtcp_show.specs.Wordings.{shown_in}
use Rattle.rtcp_show.proofs.wording.push_octets.Goals as goal

pub returns-in-Err : goal.returns-in-Err
returns-in-Err c =
    let fault = c.in-Err.fault in
    let first = c.in-Err.ensures.refused fault refl in
    let text = c.push_fault.new.out.items in
    let before = c.args.out.now.items in
    let answered : text ≡ before ++ fault_text fault →
    (answer : List ℕ) × IsAnswerBy (shown_in c.args.wording) c.args.datagram.now answer
    × (text ≡ before ++ answer) =
    λ e. (fault_text fault, inr (fault, first, refl), e) in
    on_ok_weaker _ answered c.push_fault.ensures
