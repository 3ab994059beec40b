-- The parts have their sizes.
use Rattle.std.proofs.Common.{map, arith}
use Rattle.std.specs.List.{flat_map}
use Rattle.std.specs.Prelude.{option_copied}
use Rattle.std.proofs.lemmas.List.{length-append}
use Rattle.rtcp_wire.specs.Views.{block_value}
use Rattle.rtcp_wire.specs.Writing.{written_word, written_block, written_reason}
use Rattle.rtcp_wire.proofs.Appending.{ids_size, blocks_size}
use Rattle.rtcp_wire.proofs.writer.size.body_size.Goals as goal

pub returns-in-Sr : goal.returns-in-Sr
returns-in-Sr c =
    let bs = c.in-Sr.blocks.now in
    let x = c.in-Sr.extension.now in
    rw c.in-Sr.is (omega (
      arith,
      c.capped_sum.ensures,
      length-append (flat_map written_block (map block_value bs)) x,
      blocks_size bs,
    ))

pub returns-in-Rr : goal.returns-in-Rr
returns-in-Rr c =
    let bs = c.in-Rr.blocks.now in
    let x = c.in-Rr.extension.now in
    rw c.in-Rr.is (omega (
      arith,
      c.capped_sum-in-Rr.ensures,
      length-append (flat_map written_block (map block_value bs))
          x,
      blocks_size bs,
    ))

pub returns-in-Bye : goal.returns-in-Bye
returns-in-Bye c =
    let ids = c.in-Bye.ids.now in
    let reason = option_copied c.in-Bye.reason in
    let few = rw c.in-Bye.is at c.requires in
    rw c.in-Bye.is (omega (
      arith,
      c.reason_size.ensures.value,
      c.reason_size.ensures.few,
      length-append (flat_map written_word ids) (written_reason reason),
      ids_size ids,
      few.0,
    ))
