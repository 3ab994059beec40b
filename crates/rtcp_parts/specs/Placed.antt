-- Where a part of a datagram stands in it.
use Rattle.std.specs.Prelude.{◌≡◌, ℕ, ◌+◌, ◌≤◌, List, Option, Some, None, IfSome, length}
use Rattle.rtcp_wire.specs.Grammar.{IsSpelling}
use Rattle.rtcp_wire.specs.Placed.{StandsIn}
use Rattle.rtcp_wire.specs.Values.{ItemValue, AppValue, app}
use Rattle.rtcp_parts.specs.declared.placed.Span.{Span}
use Rattle.rtcp_parts.specs.declared.placed.PlacedItem.{PlacedItem}
use Rattle.rtcp_parts.specs.declared.placed.PlacedGoodbye.{PlacedGoodbye}
use Rattle.rtcp_parts.specs.declared.placed.PlacedApp.{PlacedApp}

-- The span is where a text stands.
abbrev pub IsSpanOf : Span → List ℕ → List ℕ → Type 0
IsSpanOf span text datagram = StandsIn span.place text datagram × (span.size ≡ length text)

-- where a text stands, if there is one
abbrev pub MaySpan : Option Span → Option (List ℕ) → List ℕ → Type 0
MaySpan None None datagram = Unit {0}
MaySpan (Some span) (Some text) datagram = IsSpanOf span text datagram
MaySpan _ _ datagram = ⊥

-- an item of a chunk that describes a source, and where its text stands
abbrev pub PlacesItem : List ℕ → ℕ × ItemValue → PlacedItem → Type 0
PlacesItem datagram item placed =
    (placed.ssrc ≡ item.0) × (placed.kind ≡ item.1.kind) × IsSpanOf placed.text item.1.text datagram

-- a source that leaves, and where its reason stands
abbrev pub PlacesGoodbye : List ℕ → ℕ × Option (List ℕ) → PlacedGoodbye → Type 0
PlacesGoodbye datagram goodbye placed =
    (placed.ssrc ≡ goodbye.0) × MaySpan placed.reason goodbye.1 datagram

-- What a packet of an application says, and where its data stand: after the header, the SSRC and the name of a packet
-- in the datagram that says so.
pub record PlacesApp (datagram : List ℕ) (part : AppValue) (placed : PlacedApp) : Type 0 where
  pub ssrc : placed.ssrc ≡ part.ssrc
  pub subtype : placed.subtype ≡ part.subtype
  pub name : placed.name ≡ part.name
  pub size : placed.content.size ≡ length part.content
  pub data_stand : StandsIn placed.content.place part.content datagram
  pub before : ℕ
  pub octets : List ℕ
  pub packet : IsSpelling (app part.subtype part.ssrc part.name part.content) octets
  pub packet_stands : StandsIn before octets datagram
  pub place : placed.content.place ≡ before + 12

-- ---- Within the octets

-- A span lies in the octets.
abbrev pub IsSpanIn : List ℕ → Span → Type 0
IsSpanIn datagram span = span.place + span.size ≤ length datagram

-- The text of an item lies in the octets,
abbrev pub HasText : List ℕ → PlacedItem → Type 0
HasText datagram item = IsSpanIn datagram item.text

-- the reason of a BYE, if there is one,
abbrev pub HasReason : List ℕ → PlacedGoodbye → Type 0
HasReason datagram goodbye = IfSome goodbye.reason (IsSpanIn datagram)

-- and the data of an application's packet.
abbrev pub HasData : List ℕ → PlacedApp → Type 0
HasData datagram placed = IsSpanIn datagram placed.content

-- ---- Reasons

-- where a text stands, after so many octets, if there is one
abbrev pub span_at : (place : ℕ) → Option (List ℕ) → Option Span
span_at place None = None
span_at place (Some text) = Some (record { place = place; size = length text })

-- ---- Packets of applications

-- what one says, whose data stand after so many octets
abbrev pub SaysApp : ℕ → AppValue → PlacedApp → Type 0
SaysApp place part placed =
    (placed.ssrc ≡ part.ssrc)
    × (placed.subtype ≡ part.subtype)
    × (placed.name ≡ part.name)
    × (placed.content.size ≡ length part.content)
    × (placed.content.place ≡ place)
