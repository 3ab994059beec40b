-- A block's fields are appended one after the other.
use Rattle.std.proofs.Common.{rules, ◌≡◌, append_assoc, w32}
use Rattle.std.specs.Int.{cast_unsigned, cast_signed}
use Rattle.rtcp_wire.proofs.writer.reports.append_block.Goals as goal

pub returns-clause-octets : goal.returns-clause-octets
returns-clause-octets c =
    let same : cast_signed w32 (cast_unsigned w32 c.args.block.now.lost) ≡ c.args.block.now.lost = search rules in
    rw (
      c.append_u32-5.ensures.octets,
      c.append_u32-4.ensures.octets,
      c.append_u32-3.ensures.octets,
      c.append_u32-2.ensures.octets,
      c.append_i24.ensures,
      c.append.ensures,
      c.append_u32.ensures.octets,
    )
    (simp (append_assoc, same))
