-- What was read of octets is their answer.
use Rattle.std.proofs.Common.{◌≡◌, ◌++◌, List, ℕ, inl, refl, subst}
use Rattle.std.proofs.lemmas.Result.{on_ok_weaker}
use Rattle.core.specs.Option.{IfSome}
use Rattle.rtcp_wire.specs.Grammar.{IsAccepted}
use Rattle.rtcp_text.specs.Check.{IsAnswerBy}
use Rattle.rtcp_show.specs.Wordings.{shown_in}
use Rattle.rtcp_show.proofs.lines.push_datagram.Goals as goal

pub returns-in-Some : goal.returns-in-Some
returns-in-Some c =
    let octets = c.args.bytes.now in
    let packets = c.in-Some.compound in
    let before = c.args.out.now.items in
    let after = c.push_compound.new.out.items in
    let read : IsAccepted octets packets =
    subst (λ compound. IfSome compound (IsAccepted octets)) c.in-Some.is c.requires in
    let step : after ≡ before ++ shown_in c.args.wording packets
    → (text : List ℕ) × IsAnswerBy (shown_in c.args.wording) octets text × (after ≡ before ++ text) =
    λ written. (shown_in c.args.wording packets, inl (packets, read, refl), written) in
    on_ok_weaker c.push_compound.result step c.push_compound.ensures
