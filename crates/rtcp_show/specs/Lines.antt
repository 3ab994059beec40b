-- The lines of an event and its answer, as `rtcp listen --show` writes them. `shows` is how the packets of a datagram
-- are shown, `told` how a moment is written, and `time` a moment as it is written.
use Rattle.std.specs.Prelude.{◌≡◌, ℕ, List, [], ◌∷◌, ◌++◌, Option, Some, None, Ok, Err, codes}
use Rattle.rtcp_wire.specs.Grammar.{IsAccepted}
use Rattle.rtcp_wire.specs.Values.{RtcpPacket}
use Rattle.rtcp_engine.specs.answers.Acts.{EventValue, rtcp_arrived, rtp_arrived, packet_sent, time_passed, leave_asked, settings_given, forget_asked, OutValue}
use Rattle.rtcp_guarded.specs.Guarded.{GuardedAnswer}
use Rattle.rtcp_guarded.specs.declared.untaken.Untaken.{Untaken}
use Rattle.rtcp_guarded.specs.declared.untaken.Untaken.TheVariants.{HeldBack, Refused}
use Rattle.rtcp_guarded_text.specs.GuardedText.{held_back_text}
use Rattle.rtcp_text.specs.AnswerText.{refusal_text}
use Rattle.rtcp_text.specs.Check.{IsAnswerBy}
use Rattle.rtcp_text.specs.Text.{accepted_text, hex_word}
use Rattle.rtcp_show.specs.Numbers.{moment_text, peer_text}

-- ---- Parts

-- a moment, a word and a peer, before what is said of a datagram
abbrev pub passing_text : (time word : List ℕ) → (peer : ℕ) → List ℕ
passing_text time word peer = time ++ word ++ peer_text peer ++ codes " "

-- why a call was refused, or a datagram held back
abbrev pub refused_text : Untaken → List ℕ
refused_text (Refused refusal) = codes "refused " ++ refusal_text refusal ++ 10 ∷ []
refused_text (HeldBack reason) = held_back_text reason

-- ---- What came

-- the packets that the datagram of an event reads as
abbrev pub ReadsAs : EventValue → List RtcpPacket → Type 0
ReadsAs (rtcp_arrived moment peer word octets) packets = IsAccepted octets packets
ReadsAs event packets = ⊥

-- the packets of a datagram that was taken; of one that was refused there are none
abbrev pub ArePackets : (octets : List ℕ) → GuardedAnswer → List RtcpPacket → Type 0
ArePackets octets (Ok step) packets = IsAccepted octets packets
ArePackets octets (Err untaken) packets = packets ≡ []

-- the packets that came with an event, where they were taken
abbrev pub HasPackets : EventValue → GuardedAnswer → List RtcpPacket → Type 0
HasPackets (rtcp_arrived moment peer word octets) answer packets = ArePackets octets answer packets
HasPackets event answer packets = packets ≡ []

-- An RTCP datagram has the text of `check` where it was taken.
abbrev pub ShowsRtcp : (shows : List RtcpPacket → List ℕ) → (time : List ℕ) → (peer : ℕ) → (octets : List ℕ) →
    GuardedAnswer → List ℕ → Type 0
ShowsRtcp shows time peer octets (Ok step) text =
    (checked : List ℕ) × IsAnswerBy shows octets checked × (text ≡ passing_text time (codes " in ") peer ++ checked)
ShowsRtcp shows time peer octets (Err untaken) text =
    text ≡ passing_text time (codes " in ") peer ++ refused_text untaken

-- An RTP datagram is shown only where it was refused.
abbrev pub rtp_text : (time : List ℕ) → (peer : ℕ) → GuardedAnswer → List ℕ
rtp_text time peer (Ok step) = []
rtp_text time peer (Err untaken) = passing_text time (codes " rtp ") peer ++ refused_text untaken

-- So is what else the participant is told.
abbrev pub told_text : (time : List ℕ) → GuardedAnswer → List ℕ
told_text time (Ok step) = []
told_text time (Err untaken) = time ++ codes " " ++ refused_text untaken

abbrev pub moment_of_event : EventValue → ℕ
moment_of_event (rtcp_arrived moment peer word octets) = moment
moment_of_event (rtp_arrived moment peer word octets) = moment
moment_of_event (packet_sent moment timestamp octets) = moment
moment_of_event (time_passed moment first_word second_word) = moment
moment_of_event (leave_asked moment word) = moment
moment_of_event (settings_given moment settings) = moment
moment_of_event (forget_asked moment ssrc) = moment

abbrev pub ShowsEvent : (told : ℕ → List ℕ) → (shows : List RtcpPacket → List ℕ) → EventValue → GuardedAnswer →
    List ℕ → Type 0
ShowsEvent told shows (rtcp_arrived moment peer word octets) answer text =
    ShowsRtcp shows (told moment) peer octets answer text
ShowsEvent told shows (rtp_arrived moment peer word octets) answer text = text ≡ rtp_text (told moment) peer answer
ShowsEvent told shows event answer text = text ≡ told_text (told (moment_of_event event)) answer

-- ---- What was answered

-- the new identifier, where there is one
abbrev pub changed_text : (time : List ℕ) → Option ℕ → List ℕ
changed_text time None = []
changed_text time (Some ssrc) = time ++ codes " ssrc=" ++ hex_word ssrc ++ 10 ∷ []

-- The compound that goes out, if there is one, has the text of `check`. `to` is where it goes.
abbrev pub ShowsOut :
    (shows : List RtcpPacket → List ℕ) → (time : List ℕ) → (to : ℕ) → Option OutValue → List ℕ → Type 0
ShowsOut shows time to None text = text ≡ []
ShowsOut shows time to (Some out) text =
    (checked : List ℕ) × IsAnswerBy shows out.octets checked
    × (text ≡ passing_text time (codes " out ") to ++ checked)

abbrev pub ShowsAnswer :
    (shows : List RtcpPacket → List ℕ) → (time : List ℕ) → (to : ℕ) → GuardedAnswer → List ℕ → Type 0
ShowsAnswer shows time to (Ok step) text =
    (sent : List ℕ) × ShowsOut shows time to step.out sent × (text ≡ changed_text time step.changed ++ sent)
ShowsAnswer shows time to (Err untaken) text = text ≡ []

-- a compound that went out, and was not handed to the network
abbrev pub unsent_text : (time : List ℕ) → (to : ℕ) → List ℕ
unsent_text time to = time ++ codes " unsent " ++ peer_text to ++ 10 ∷ []

-- ---- Both

-- what came, and then what was answered
abbrev pub ShowsBothBy : (told : ℕ → List ℕ) → (shows : List RtcpPacket → List ℕ) → (to : ℕ) → EventValue →
    GuardedAnswer → List ℕ → Type 0
ShowsBothBy told shows to event answer text =
    (came : List ℕ) × ShowsEvent told shows event answer came
    × ((answered : List ℕ) × ShowsAnswer shows (told (moment_of_event event)) to answer answered
    × (text ≡ came ++ answered))

-- the same, with moments in seconds and the text of `check`
abbrev pub ShowsBoth : (to : ℕ) → EventValue → GuardedAnswer → List ℕ → Type 0
ShowsBoth to event answer text = ShowsBothBy moment_text accepted_text to event answer text
