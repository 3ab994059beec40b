use Rattle.std.proofs.Common.{refl}
use Rattle.rtcp_wire.proofs.BodyOrFault.{goodbye_checked}
use Rattle.rtcp_wire.proofs.validity.check_goodbye.Goals as goal

pub returns : goal.returns
returns c =
    goodbye_checked 203 c.args.count c.args.body.now c.split_at.result.1.now c.check_reason.result refl c.requires
    c.in_ok-has_room.ensures c.split_at.ensures.back c.check_reason.ensures
