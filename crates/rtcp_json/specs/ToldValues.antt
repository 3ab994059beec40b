-- The values of JSON that a session on a link is shown as, while it runs and at its end.
--
--   {"moment":250000,"event":"rtcp","peer":"127.0.0.1:5007","datagram":{"refused":"F1 Short","at":0},"answer":..}
--   {"moment":3078111,"event":"tick","peer":null,"datagram":null,"answer":..}
--   {"moment":3078111,"event":"unsent","peer":null,"datagram":null,"answer":null}
--   {"end":"Done","received":1,"refused":1,"sent":1,"send_failures":1,"recv_failures":0,"bye":false}
use Rattle.std.specs.Prelude.{◌≡◌, ℕ, ◌/◌, ◌%◌, ◌^◌, Bool, true, false, ◌||◌, is_some, List, [], ◌∷◌, ◌++◌, Option, Some, None, Ok, Err, codes}
use Rattle.std.specs.Fmt.{decimal}
use Rattle.std.specs.Net.Text.{dotted_text}
use Rattle.json.specs.Json.{Json, null, boolean, string}
use Rattle.rtcp_engine.specs.answers.Acts.{EventValue, rtcp_arrived, rtp_arrived, packet_sent, time_passed, leave_asked, settings_given, forget_asked}
use Rattle.rtcp_guarded.specs.Guarded.{GuardedAnswer}
use Rattle.rtcp_serve.specs.declared.serving.Cause.{Cause}
use Rattle.rtcp_serve.specs.declared.serving.Cause.TheVariants.{Done, LinkDown, Limit}
use Rattle.rtcp_serve.specs.declared.serving.End.{End}
use Rattle.rtcp_json.specs.AnswerValues.{guarded_answer_json}
use Rattle.rtcp_json.specs.JsonValues.{json_line, number_json, object_of, optional_json}
use Rattle.rtcp_json.specs.PacketValues.{IsShownAs}

-- ---- What came

-- the word of the line that `rtcp replay` reads
abbrev pub event_text : EventValue → List ℕ
event_text (rtcp_arrived moment peer word octets) = codes "rtcp"
event_text (rtp_arrived moment peer word octets) = codes "rtp"
event_text (packet_sent moment timestamp octets) = codes "sent"
event_text (time_passed moment first_word second_word) = codes "tick"
event_text (leave_asked moment word) = codes "leave"
event_text (settings_given moment settings) = codes "configure"
event_text (forget_asked moment ssrc) = codes "forget"

-- in microseconds
abbrev pub moment_of_event : EventValue → ℕ
moment_of_event (rtcp_arrived moment peer word octets) = moment
moment_of_event (rtp_arrived moment peer word octets) = moment
moment_of_event (packet_sent moment timestamp octets) = moment
moment_of_event (time_passed moment first_word second_word) = moment
moment_of_event (leave_asked moment word) = moment
moment_of_event (settings_given moment settings) = moment
moment_of_event (forget_asked moment ssrc) = moment

-- the number of the peer from which a datagram came
abbrev pub peer_of_event : EventValue → Option ℕ
peer_of_event (rtcp_arrived moment peer word octets) = Some peer
peer_of_event (rtp_arrived moment peer word octets) = Some peer
peer_of_event event = None

-- an address and a port, by their number (rtcp_serve/specs/Links `endpoint_number`)
abbrev pub peer_text : ℕ → List ℕ
peer_text peer =
    dotted_text (peer / 2 ^ 40 % 256) (peer / 2 ^ 32 % 256) (peer / 2 ^ 24 % 256) (peer / 2 ^ 16 % 256)
    ++ codes ":" ++ decimal (peer % 2 ^ 16)

abbrev pub peer_json : ℕ → Json
peer_json peer = string (peer_text peer)

-- the octets of the RTCP datagram that came
abbrev pub datagram_of_event : EventValue → Option (List ℕ)
datagram_of_event (rtcp_arrived moment peer word octets) = Some octets
datagram_of_event event = None

-- what a datagram is shown as, if there is one
abbrev pub IsShownIfSome : Option (List ℕ) → Json → Type 0
IsShownIfSome None value = value ≡ null
IsShownIfSome (Some octets) value = IsShownAs octets value

-- ---- Events with their answers

-- what each line of a session says
abbrev pub moment_json : (moment : ℕ) → (word : List ℕ) → (peer datagram answer : Json) → Json
moment_json moment word peer datagram answer = object_of (
    (codes "moment", number_json moment)
    ∷ (codes "event", string word)
    ∷ (codes "peer", peer)
    ∷ (codes "datagram", datagram)
    ∷ (codes "answer", answer)
    ∷ []
    )

abbrev pub told_json : EventValue → (datagram : Json) → GuardedAnswer → Json
told_json event datagram answer =
    moment_json (moment_of_event event) (event_text event) (optional_json peer_json (peer_of_event event)) datagram
    (guarded_answer_json answer)

-- An answer says something where the call was not taken, a compound is to be sent, the participant's SSRC changed, or
-- the role of another source did.
abbrev pub says_something : GuardedAnswer → Bool
says_something (Ok step) = is_some step.out || is_some step.changed || step.others_changed
says_something (Err untaken) = true

-- Each RTCP datagram is shown, and of other events those whose answer says something.
abbrev pub is_shown : EventValue → GuardedAnswer → Bool
is_shown event answer = is_some (datagram_of_event event) || says_something answer

abbrev pub TellsIf : (shown : Bool) → EventValue → GuardedAnswer → List ℕ → Type 0
TellsIf false event answer text = text ≡ []
TellsIf true event answer text =
    (datagram : Json) × IsShownIfSome (datagram_of_event event) datagram
    × (text ≡ json_line (told_json event datagram answer))

-- the line of an event and its answer, where it is shown
abbrev pub TellsInJson : EventValue → GuardedAnswer → List ℕ → Type 0
TellsInJson event answer text = TellsIf (is_shown event answer) event answer text

-- a compound that the link did not send, with the moment of the event before
abbrev pub unsent_json : (moment : ℕ) → Json
unsent_json moment = moment_json moment (codes "unsent") null null null

-- ---- The end

abbrev pub cause_text : Cause → List ℕ
cause_text Done = codes "Done"
cause_text LinkDown = codes "LinkDown"
cause_text Limit = codes "Limit"

-- what a session came to
abbrev pub end_json : End → Json
end_json ended = object_of (
    (codes "end", string (cause_text ended.cause))
    ∷ (codes "received", number_json ended.received)
    ∷ (codes "refused", number_json ended.refused)
    ∷ (codes "sent", number_json ended.sent)
    ∷ (codes "send_failures", number_json ended.send_failures)
    ∷ (codes "recv_failures", number_json ended.recv_failures)
    ∷ (codes "bye", boolean ended.bye)
    ∷ []
    )
