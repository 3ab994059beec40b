-- What a line of JSON promises to whoever reads it, whatever a peer sent.
use Rattle.std.specs.Prelude.{◌≡◌, ℕ, pos, negsuc, ◌^◌, ◌<◌, ◌≤ℤ◌, All, Option, Some, None, Ok, Err, IfSome}
use Rattle.std.specs.Str.{IsUtf8}
use Rattle.json.specs.Json.{Json, document}
use Rattle.rtcp_wire.specs.Grammar.{AreOctets}
use Rattle.rtcp_source.specs.Receptions.{ReceptionValue}
use Rattle.rtcp_members.specs.Listings.{StateValue}
use Rattle.rtcp_engine.specs.answers.Acts.{EventValue, StepValue}
use Rattle.rtcp_engine.specs.declared.refusal.Refusal.{Refusal}
use Rattle.rtcp_engine.specs.declared.refusal.Refusal.TheVariants.{Left, Backwards, TooFar, TooMany, Wire, Rtp, OwnSsrc, Settings}
use Rattle.rtcp_guarded.specs.Guarded.{GuardedAnswer}
use Rattle.rtcp_guarded.specs.declared.untaken.Untaken.TheVariants.{Refused, HeldBack}
use Rattle.rtcp_serve.specs.declared.serving.End.{End}
use Rattle.rtcp_text.specs.Lines.{HasNoLineFeed}
use Rattle.rtcp_json.specs.JsonValues.{json_text}
use Rattle.rtcp_json.specs.SourceValues.{Listing}
use Rattle.rtcp_json.specs.ToldValues.{datagram_of_event, moment_of_event}

-- The text is one document of JSON (RFC 8259), which is read as this value. It is UTF-8 and has no line feed, so the
-- only one in the line is its last octet.
pub record IsValidLine (value : Json) : Type 0 where
  pub reads : document (json_text value) ≡ Some value
  pub utf8 : IsUtf8 (json_text value)
  pub whole : HasNoLineFeed (json_text value)

-- ---- The ranges of an answer's numbers, as Rust's types have them

abbrev pub IsMomentInRange : Option ℕ → Type 0
IsMomentInRange None = Unit {0}
IsMomentInRange (Some moment) = moment < 2 ^ 64

pub record IsStepInRange (step : StepValue) : Type 0 where
  pub members : step.members < 2 ^ 32
  pub senders : step.senders < 2 ^ 32
  pub next : IsMomentInRange step.next

abbrev pub IsRefusalInRange : Refusal → Type 0
IsRefusalInRange Left = Unit {0}
IsRefusalInRange Backwards = Unit {0}
IsRefusalInRange TooFar = Unit {0}
IsRefusalInRange TooMany = Unit {0}
IsRefusalInRange (Wire fault) = fault.place < 2 ^ 64
IsRefusalInRange (Rtp fault) = Unit {0}
IsRefusalInRange OwnSsrc = Unit {0}
IsRefusalInRange (Settings error) = Unit {0}

abbrev pub IsAnswerInRange : GuardedAnswer → Type 0
IsAnswerInRange (Ok step) = IsStepInRange step
IsAnswerInRange (Err (Refused refusal)) = IsRefusalInRange refusal
IsAnswerInRange (Err (HeldBack reason)) = Unit {0}

-- ---- Those of events and of the end of a session

-- Where a datagram came from may be any number.
pub record IsEventInRange (event : EventValue) : Type 0 where
  pub moment : moment_of_event event < 2 ^ 64
  pub octets : IfSome (datagram_of_event event) AreOctets

pub record IsEndInRange (ended : End) : Type 0 where
  pub received : ended.received < 2 ^ 64
  pub refused : ended.refused < 2 ^ 64
  pub sent : ended.sent < 2 ^ 64
  pub send_failures : ended.send_failures < 2 ^ 64
  pub recv_failures : ended.recv_failures < 2 ^ 64

-- ---- Those of who is there

pub record IsReceptionInRange (reception : ReceptionValue) : Type 0 where
  pub received : reception.received < 2 ^ 64
  pub least : negsuc 2147483647 ≤ℤ reception.lost
  pub greatest : reception.lost ≤ℤ pos 2147483647
  pub jitter : reception.jitter < 2 ^ 32
  pub rate : reception.rate < 2 ^ 32

pub record IsSourceInRange (state : StateValue) : Type 0 where
  pub left : IsMomentInRange state.left
  pub reception : IfSome state.reception IsReceptionInRange

pub record IsListingInRange (listing : Listing) : Type 0 where
  pub members : listing.members < 2 ^ 32
  pub senders : listing.senders < 2 ^ 32
  pub sources : All IsSourceInRange listing.sources
