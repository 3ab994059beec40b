-- The parts of a sender report are appended one after the other.
use Rattle.std.proofs.Common.{append_assoc}
use Rattle.rtcp_wire.proofs.writer.packets.append_body.Goals as goal

pub returns-in-Sr-clause-octets : goal.returns-in-Sr-clause-octets
returns-in-Sr-clause-octets c =
    rw (
      c.in-Sr.is,
      c.append.ensures,
      c.append_blocks.ensures.octets,
      c.append_u32-in-Sr-3.ensures.octets,
      c.append_u32-in-Sr-2.ensures.octets,
      c.append_u32-in-Sr.ensures.octets,
      c.append_u64.ensures.octets,
      c.append_u32.ensures.octets,
    ) (simp append_assoc)
