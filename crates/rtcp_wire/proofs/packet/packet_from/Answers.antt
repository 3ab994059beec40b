use Rattle.rtcp_wire.proofs.PacketSteps.{some_room, some_reason}
use Rattle.rtcp_wire.proofs.packet.packet_from.Goals as goal

pub sender_report_from-requires : goal.sender_report_from-requires
sender_report_from-requires c = some_room 200 c.args.kind c.args.count c.args.body.now c.in-200.is c.requires

pub receiver_report_from-requires : goal.receiver_report_from-requires
receiver_report_from-requires c = some_room 201 c.args.kind c.args.count c.args.body.now c.in-201.is c.requires

pub goodbye_from-requires-clause-ids : goal.goodbye_from-requires-clause-ids
goodbye_from-requires-clause-ids c = some_room 203 c.args.kind c.args.count c.args.body.now c.in-203.is c.requires

pub goodbye_from-requires-clause-reason : goal.goodbye_from-requires-clause-reason
goodbye_from-requires-clause-reason c = some_reason c.args.kind c.args.count c.args.body.now c.in-203.is c.requires
