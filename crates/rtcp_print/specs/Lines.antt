-- The line that answers a datagram, in a room of a caller's octets.
use Rattle.std.specs.Prelude.{ℕ, ◌≡◌, ◌-◌, ◌^◌, List, [], ◌∷◌, ◌++◌, Option, codes, length, min}
use Rattle.std.specs.List.{flat_map}
use Rattle.rtcp_wire.specs.Values.{RtcpPacket}
use Rattle.rtcp_text.specs.Check.{IsAnswerBy}
use Rattle.rtcp_text.specs.Text.{packet_text}
use Rattle.rtcp_plain.specs.Plain.{packet_text as plain_packet_text}
use Rattle.rtcp_print.specs.declared.page.Page.{Page}
use Rattle.rtcp_print.specs.Pages.{Adds, shown_in}

-- A text is the line of text for a datagram, where accepted ones are shown so, without its line feed.
abbrev pub IsLine : (shows : List RtcpPacket → List ℕ) → (datagram text : List ℕ) → Type 0
IsLine shows datagram text = IsAnswerBy shows datagram (text ++ 10 ∷ [])

-- A room holds the line of a datagram, or what it has room for of that, and then a zero octet. So many octets has the
-- whole line: 2^64 - 1 stands for more.
pub record Prints
    (shows : List RtcpPacket → List ℕ) (datagram before after : List ℕ) (result : ℕ)
    : Type 0 where
  pub text : List ℕ
  pub line : IsLine shows datagram text
  pub shown : after ≡ shown_in before text
  pub whole : result ≡ min (length text) (2 ^ 64 - 1)

-- ---- Steps

-- the lines of an accepted datagram, without the line feed
abbrev pub accepted_words : List RtcpPacket → List ℕ
accepted_words packets = codes "ok" ++ flat_map (λ packet. codes " " ++ packet_text packet) packets

abbrev pub plain_words : (rate : Option ℕ) → List RtcpPacket → List ℕ
plain_words rate packets = codes "ok" ++ flat_map (plain_packet_text rate) packets

-- The line of a datagram goes on with whatever text a page shows.
abbrev pub AddsLine : (shows : List RtcpPacket → List ℕ) → (datagram : List ℕ) → (before after : Page) → Type 0
AddsLine shows datagram before after = (text : List ℕ) × IsLine shows datagram text × Adds before after text
