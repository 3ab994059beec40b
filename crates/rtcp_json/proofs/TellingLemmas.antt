-- An event with its answer has one text, since each datagram is shown in one way.
use Rattle.std.proofs.Common.{◌≡◌, ◌∙◌, ap, ℕ, Bool, true, false, List, [], Option, Some, None, refl, sym}
use Rattle.json.specs.Json.{Json, null}
use Rattle.rtcp_engine.specs.answers.Acts.{EventValue}
use Rattle.rtcp_guarded.specs.Guarded.{GuardedAnswer}
use Rattle.rtcp_json.specs.JsonValues.{json_line}
use Rattle.rtcp_json.specs.ToldValues.{IsShownIfSome, TellsIf, datagram_of_event, told_json}
use Rattle.rtcp_json.proofs.CheckJsonLemmas.{one_shown, shown_exists}

value_exists : (octets : Option (List ℕ)) → (value : Json) × IsShownIfSome octets value
value_exists None = (null, refl)
value_exists (Some octets) = shown_exists octets

one_value : (octets : Option (List ℕ)) (value value' : Json) → IsShownIfSome octets value →
    IsShownIfSome octets value' → value ≡ value'
one_value None value value' h k = h ∙ sym k
one_value (Some octets) value value' h k = one_shown octets value value' h k

pub text_exists_if : (shown : Bool) (event : EventValue) (answer : GuardedAnswer) → (text : List ℕ)
    × TellsIf shown event answer text
text_exists_if false event answer = ([], refl)
text_exists_if true event answer =
    let datagram = value_exists (datagram_of_event event) in
    (json_line (told_json event datagram.0 answer), (datagram.0, datagram.1, refl))

pub one_text_if : (shown : Bool) (event : EventValue) (answer : GuardedAnswer) (text text' : List ℕ) →
    TellsIf shown event answer text → TellsIf shown event answer text' → text ≡ text'
one_text_if false event answer text text' h k = h ∙ sym k
one_text_if true event answer text text' (datagram, shown, is) (datagram', shown', is') =
    is ∙ ap (λ value. json_line (told_json event value answer))
    (one_value (datagram_of_event event) datagram datagram' shown shown') ∙ sym is'
