-- The octets are shown as what was read of them.
use Rattle.std.proofs.Common.{refl, inl, inr}
use Rattle.std.proofs.lemmas.Result.{on_ok_weaker}
use Rattle.json.specs.Json.{Json}
use Rattle.rtcp_json.specs.Adding.{AddsJson}
use Rattle.rtcp_json.specs.PacketValues.{IsShownAs, datagram_json, fault_json}
use Rattle.rtcp_json.proofs.packets.write_reading.Goals as goal

pub returns-in-Ok : goal.returns-in-Ok
returns-in-Ok c =
    let octets = c.args.octets.now in
    let before = c.args.writer.now in
    let after = c.write_datagram.new.writer in
    let packets = c.in-Ok.compound in
    let step : AddsJson before after (datagram_json packets)
    → (value : Json) × IsShownAs octets value × AddsJson before after value =
    λ added. (datagram_json packets, inl (packets, c.in-Ok.ensures.accepted, refl), added) in
    on_ok_weaker c.write_datagram.result step c.write_datagram.ensures

pub returns-in-Err : goal.returns-in-Err
returns-in-Err c =
    let octets = c.args.octets.now in
    let before = c.args.writer.now in
    let after = c.write_fault.new.writer in
    let fault = c.in-Err.fault in
    let step : AddsJson before after (fault_json fault)
    → (value : Json) × IsShownAs octets value × AddsJson before after value =
    λ added. (fault_json fault, inr (fault, c.in-Err.ensures.refused fault refl, refl), added) in
    on_ok_weaker c.write_fault.result step c.write_fault.ensures
