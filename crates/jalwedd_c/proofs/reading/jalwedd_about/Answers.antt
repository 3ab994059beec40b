-- The block at the index is that of the list of all blocks that name the source.
use Rattle.std.proofs.Common.{◌≡◌, ℕ, List, Some, None, refl, sym, ap, subst, ◌∙◌, slice_get}
use Rattle.std.proofs.lemmas.Iterator.Consumers.{nth_from_yields_List, YieldsList-from_first}
use Rattle.rtcp_wire.specs.declared.fault.WireFault.{WireFault}
use Rattle.rtcp_wire.specs.About.{blocks_about}
use Rattle.rtcp_wire.specs.Faults.{IsFirstFault}
use Rattle.rtcp_wire.specs.Grammar.{IsAccepted}
use Rattle.rtcp_wire.specs.Values.{ReportBlock, RtcpPacket}
use Rattle.rtcp_wire.specs.Views.{reported_value}
use Rattle.jalwedd_host.specs.declared.reading.Report.{Report}
use Rattle.jalwedd_host.specs.Parts.{Locates}
use Rattle.jalwedd_host.specs.Readings.{ShowsBlock}
use Rattle.jalwedd_host.proofs.LawLemmas.{some_same}
use Rattle.jalwedd_c.proofs.reading.jalwedd_about.Goals as goal

-- Where a datagram was read: its packets are the ones that were read, whatever they are called.
module _ (ssrc index : ℕ) {datagram : List ℕ} {read : List RtcpPacket}
    (reads : (packets : List RtcpPacket) → IsAccepted datagram packets → read ≡ packets)
    (no_fault : (first : WireFault) → IsFirstFault datagram first → ⊥) where
  same : (packets : List RtcpPacket) → IsAccepted datagram packets
      → slice_get (blocks_about ssrc read) index ≡ slice_get (blocks_about ssrc packets) index
  same packets accepted =
      ap (λ (ps : List RtcpPacket). slice_get (blocks_about ssrc ps) index) (reads packets accepted)

  located : (block : ℕ × ReportBlock) (was report : Report) → slice_get (blocks_about ssrc read) index ≡ Some block
      → ShowsBlock report block → Locates (blocks_about ssrc) ShowsBlock datagram index 0 was report
  located block was report there shows = record {
    found = λ packets other accepted at.
        (refl, subst (ShowsBlock report) (some_same block other (sym there ∙ same packets accepted ∙ at)) shows);
    none = λ packets accepted at. absurd (cc (there, same packets accepted, at));
    refused = λ fault first. absurd (no_fault fault first);
  }

  missing : (report : Report) → slice_get (blocks_about ssrc read) index ≡ None
      → Locates (blocks_about ssrc) ShowsBlock datagram index 8 report report
  missing report there = record {
    found = λ packets other accepted at. absurd (cc (there, same packets accepted, at));
    none = λ packets accepted at. (refl, refl);
    refused = λ fault first. absurd (no_fault fault first);
  }

pub returns-in-Some : goal.returns-in-Some
returns-in-Some c =
    let yields = YieldsList-from_first reported_value (λ parts. parts) _ c.about.ensures in
    let ran = c.in-Some.ensures.ran in
    let first = nth_from_yields_List (Some (c.in-Some.reporter, c.in-Some.block)) _ c.args.index ran yields in
    located c.args.ssrc c.args.index c.in-Ok.ensures.reads (λ fault is. cc (c.in-Ok.ensures.finds fault is))
    (reported_value (c.in-Some.reporter, c.in-Some.block)) c.args.report.now c.shown.result (sym first) c.shown.ensures

pub returns-in-None : goal.returns-in-None
returns-in-None c =
    let yields = YieldsList-from_first reported_value (λ parts. parts) _ c.about.ensures in
    let first = nth_from_yields_List None _ c.args.index c.in-None.ensures.ran yields in
    missing c.args.ssrc c.args.index c.in-Ok.ensures.reads (λ fault is. cc (c.in-Ok.ensures.finds fault is))
    c.args.report.now (sym first)
