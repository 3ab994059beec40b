use Rattle.std.proofs.Common.{◌-◌, ◌==◌, length, ap, arith}
use Rattle.rtcp_wire.specs.Summaries.{sender_of}
use Rattle.rtcp_wire.proofs.Summing.{no_packet_summed, packet_left, all_packets_summed}
use Rattle.rtcp_wire.proofs.Walking.{none_passed, passed_more, passed_all, stops_next}
use Rattle.rtcp_wire.proofs.validity.check_packets.Goals as goal

pub packets-init : goal.packets-init
packets-init c = rw c.new-reader.ensures (record {
  passed = none_passed c.args.datagram.now c.requires.short;
  summed = no_packet_summed (sender_of c.args.datagram.now) c.args.summary.now c.args.datagram.now;
})

pub packets-preserved : goal.packets-preserved
packets-preserved c =
    let datagram = c.args.datagram.now in
    let place = ap (λ n. length datagram - n) c.left.ensures in
    record {
      passed = passed_more datagram c.packets.reader (length datagram - c.left.result) c.packets.invariant.passed place
          c.pass_packet.new.reader c.in-Ok.ensures.valid
          (λ none. c.if-left-eq0.false (omega (arith, none)));
      summed = packet_left (sender_of datagram) datagram c.packets.reader (length datagram - c.left.result)
          c.packets.invariant.passed place c.pass_packet.new.reader c.in-Ok.ensures.valid
          c.args.summary.now c.packets.summary c.pass_packet.new.summary
          c.packets.invariant.summed c.in-Ok.ensures.sums;
    }

pub returns-then-left-eq0-clause-valid : goal.returns-then-left-eq0-clause-valid
returns-then-left-eq0-clause-valid c =
    let datagram = c.args.datagram.now in
    let place = ap (λ n. length datagram - n) c.left.ensures in
    passed_all datagram c.packets.reader (length datagram - c.left.result) c.packets.invariant.passed place
    c.pass_packet.new.reader c.in-Ok.ensures.valid (omega arith)

pub returns-then-left-eq0-clause-sums : goal.returns-then-left-eq0-clause-sums
returns-then-left-eq0-clause-sums c =
    let datagram = c.args.datagram.now in
    let new = c.pass_packet.new.reader in
    let place = ap (λ n. length datagram - n) c.left.ensures in
    all_packets_summed (sender_of datagram) ((length datagram - length new) == 0) datagram new
    c.args.summary.now c.pass_packet.new.summary c.requires.none.sole c.requires.none.named
    (packet_left (sender_of datagram) datagram c.packets.reader (length datagram - c.left.result)
    c.packets.invariant.passed place new c.in-Ok.ensures.valid c.args.summary.now
    c.packets.summary c.pass_packet.new.summary c.packets.invariant.summed c.in-Ok.ensures.sums)
    (omega arith)

pub returns-in-Err-clause-valid : goal.returns-in-Err-clause-valid
returns-in-Err-clause-valid c =
    let datagram = c.args.datagram.now in
    let place = ap (λ n. length datagram - n) c.left.ensures in
    stops_next datagram c.packets.reader (length datagram - c.left.result) c.packets.invariant.passed place
    c.in-Err.reason c.in-Err.ensures.valid
