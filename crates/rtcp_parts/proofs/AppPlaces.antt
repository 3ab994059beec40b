-- Where the data of an application's packet stand.
use Rattle.std.proofs.Common.{ℕ, ◌+◌, ◌-◌, List, [], ◌++◌, sym, ap, ◌∙◌, append_assoc, append-nil, refl, arith}
use Rattle.std.proofs.lemmas.List.{length-append}
use Rattle.rtcp_wire.specs.Grammar.{IsSpelling}
use Rattle.rtcp_wire.specs.Readings.{size_of}
use Rattle.rtcp_wire.specs.Headers.{body_of, padding_of}
use Rattle.rtcp_wire.specs.Placed.{StandsIn}
use Rattle.rtcp_wire.specs.Values.{AppValue, RtcpPacket, app}
use Rattle.rtcp_parts.specs.declared.placed.PlacedApp.{PlacedApp}
use Rattle.rtcp_parts.specs.Placed.{PlacesApp, SaysApp}
use Rattle.rtcp_parts.proofs.Places.{stands_within, taken_stands}

-- the packet that says it
abbrev pub packet_of : AppValue → RtcpPacket
packet_of part = app part.subtype part.ssrc part.name part.content

-- in the packet's own octets, after its header, its SSRC and its name
data_stand : (part : AppValue) (own : List ℕ) → IsSpelling (packet_of part) own → StandsIn 12 part.content own
data_stand part own h =
    let said = h.body.2 in
    let inner : StandsIn 8 part.content (body_of own) = record {
      before = said.id ++ part.name;
      after = [];
      parts = said.parts ∙ sym (append_assoc said.id part.name part.content)
          ∙ ap (λ (t : List ℕ). (said.id ++ part.name) ++ t) (sym (append-nil part.content));
      counted = omega (arith, length-append said.id part.name, said.source.0, said.name_size);
    } in
    stands_within 8 4 12 part.content (body_of own) own inner
    (taken_stands 4 (size_of own - 4 - padding_of own) own (omega (arith, h.size))) refl

-- The data stand where its octets stand in a datagram, after its header, its SSRC and its name.
pub app_places : (part : AppValue) (placed : PlacedApp) (before : ℕ) (own datagram : List ℕ)
    → IsSpelling (packet_of part) own → StandsIn before own datagram → SaysApp (before + 12) part placed
    → PlacesApp datagram part placed
app_places part placed before own datagram spelled stands says = record {
  ssrc = says.0;
  subtype = says.1;
  name = says.2;
  size = says.3;
  data_stand =
      stands_within 12 before placed.content.place part.content own datagram (data_stand part own spelled) stands
      (omega (arith, says.4));
  before = before;
  octets = own;
  packet = spelled;
  packet_stands = stands;
  place = says.4;
}
