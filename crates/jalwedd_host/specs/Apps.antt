-- How packets that an application defines are told to a host in C (RFC 3550, 6.7).
use Rattle.std.specs.Prelude.{◌≡◌, ℕ, ◌+◌, List, [], ◌∷◌, flat_map, length, take}
use Rattle.rtcp_wire.specs.Contents.{packet_apps}
use Rattle.rtcp_wire.specs.Grammar.{Joins, IsAccepted, IsSpelling}
use Rattle.rtcp_wire.specs.Placed.{StandsIn}
use Rattle.rtcp_wire.specs.Values.{AppValue, RtcpPacket, app}
use Rattle.rtcp_parts.specs.declared.cursor.Cursor.{Cursor}
use Rattle.rtcp_parts.specs.Cursors.{IsBoundary, LeavesNone}
use Rattle.jalwedd_host.specs.declared.app.AppPlace.{AppPlace}
use Rattle.jalwedd_host.specs.Walks.{Continues, ShowEach, begins}

-- What one says, and where its data stand: after the header, the SSRC and the name of a packet in the datagram that
-- says so.
pub record ShowsApp (datagram : List ℕ) (place : AppPlace) (part : AppValue) : Type 0 where
  pub ssrc : place.ssrc ≡ part.ssrc
  pub subtype : place.subtype ≡ part.subtype
  pub name : place.name ≡ part.name
  pub size : place.size ≡ length part.content
  pub data_stand : StandsIn place.offset part.content datagram
  pub before : ℕ
  pub octets : List ℕ
  pub packet : IsSpelling (app part.subtype part.ssrc part.name part.content) octets
  pub packet_stands : StandsIn before octets datagram
  pub offset : place.offset ≡ before + 12

-- The same of one of the datagram's own packets, and of none inside another: what stands before it is packets.
pub record ShowsOwnApp (datagram : List ℕ) (place : AppPlace) (part : AppValue) : Type 0 where
  pub shows : ShowsApp datagram place part
  pub packets : List RtcpPacket
  pub joined : Joins IsSpelling packets (take shows.before datagram)

-- ---- Walks

-- The data stand 12 octets after a boundary of the datagram's packets: they are those of one of the datagram's own, and
-- of none inside another.
pub record IsOwnPlace (datagram : List ℕ) (place : AppPlace) : Type 0 where
  pub before : ℕ
  pub offset : place.offset ≡ before + 12
  pub boundary : IsBoundary datagram before

-- A cursor that stands at a boundary of a datagram's packets is left at one, and a packet that is told is one of the
-- datagram's own. (Of an accepted datagram a cursor of zeros stands at one.)
pub record WalksOwn (datagram : List ℕ) (was now : Cursor) (result : ℕ) (place : AppPlace) : Type 0 where
  pub stays : IsBoundary datagram was.next → IsBoundary datagram now.next
  pub own : IsBoundary datagram was.next → result ≡ 0 → IsOwnPlace datagram place

-- Calls that each told of a packet, the first of them with this cursor, and what they told.
abbrev pub AreOwnShown : List ℕ → (was : Cursor) → List AppPlace → (now : Cursor) → Type 0
AreOwnShown datagram was [] now = now ≡ was
AreOwnShown datagram was (place ∷ places) now =
    (next : Cursor) × (before : AppPlace)
    × Continues packet_apps LeavesNone (ShowsApp datagram) datagram was next 0 before place
    × WalksOwn datagram was next 0 place × AreOwnShown datagram next places now

-- A walk that begins over an accepted datagram and that no call told of another packet has told of all, each of which
-- is one of the datagram's own.
abbrev pub ShowsOwnApps : Type 0
ShowsOwnApps =
    (datagram : List ℕ) (packets : List RtcpPacket) (places : List AppPlace) (last end : Cursor)
    (before after : AppPlace) → IsAccepted datagram packets → AreOwnShown datagram begins places last
    → Continues packet_apps LeavesNone (ShowsApp datagram) datagram last end 8 before after
    → ShowEach (ShowsOwnApp datagram) places (flat_map packet_apps packets)
