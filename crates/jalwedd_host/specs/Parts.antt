-- How the parts of a datagram are told to a host in C.
use Rattle.std.specs.Prelude.{◌≡◌, ℕ, List, Option, Some, None, length, slice_get}
use Rattle.rtcp_wire.specs.declared.fault.WireFault.{WireFault}
use Rattle.rtcp_wire.specs.Faults.{IsFirstFault}
use Rattle.rtcp_wire.specs.Grammar.{IsAccepted}
use Rattle.rtcp_wire.specs.Placed.{StandsIn}
use Rattle.rtcp_wire.specs.Values.{SenderValue, ItemValue, RtcpPacket}
use Rattle.rtcp_parts.specs.declared.senders.Sender.{Sender}
use Rattle.rtcp_parts.specs.Senders.{ShowsSender as SaysSender}
use Rattle.jalwedd_host.specs.declared.parts.ItemPlace.{ItemPlace}
use Rattle.jalwedd_host.specs.declared.parts.GoodbyePlace.{GoodbyePlace}

-- what a sender report says of its sender
abbrev pub ShowsSender : Sender → SenderValue → Type 0
ShowsSender info sender = SaysSender sender info

-- an item, with the source that its chunk describes, and where its text stands
abbrev pub ShowsItem : List ℕ → ItemPlace → ℕ × ItemValue → Type 0
ShowsItem datagram place item =
    (place.ssrc ≡ item.0)
    × (place.kind ≡ item.1.kind)
    × (place.size ≡ length item.1.text)
    × StandsIn place.offset item.1.text datagram

-- where the reason of a BYE stands, if it gives one
abbrev pub ShowsReason : List ℕ → GoodbyePlace → Option (List ℕ) → Type 0
ShowsReason datagram place None = (place.has_reason ≡ 0) × (place.offset ≡ 0) × (place.size ≡ 0)
ShowsReason datagram place (Some text) =
    (place.has_reason ≡ 1) × (place.size ≡ length text) × StandsIn place.offset text datagram

-- a source that leaves
abbrev pub ShowsGoodbye : List ℕ → GoodbyePlace → ℕ × Option (List ℕ) → Type 0
ShowsGoodbye datagram place goodbye = (place.ssrc ≡ goodbye.0) × ShowsReason datagram place goodbye.1

-- A call asks a datagram for the one of its parts at an index. It tells of that, or that there is none, or that the
-- datagram is not a compound; where it does not tell of one, the host's structure is left as it was.
pub record Locates
    {Part Place : Type 0} (parts : List RtcpPacket → List Part) (Shows : Place → Part → Type 0) (datagram : List ℕ)
    (index result : ℕ) (was place : Place) : Type 0 where
  pub found : (packets : List RtcpPacket) (part : Part) → IsAccepted datagram packets
      → slice_get (parts packets) index ≡ Some part → (result ≡ 0) × Shows place part
  pub none : (packets : List RtcpPacket) → IsAccepted datagram packets
      → slice_get (parts packets) index ≡ None → (result ≡ 8) × (place ≡ was)
  pub refused : (first : WireFault) → IsFirstFault datagram first → (result ≡ 5) × (place ≡ was)
