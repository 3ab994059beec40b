-- The steps are those of the crate `hex`, with the table's value of each digit.
use Rattle.std.proofs.Common.{◌≡◌, ◌+◌, ◌*◌, ◌<◌, ◌∙◌, length, slice_index, refl, sym, arith, length-set}
use Rattle.hex.proofs.HexLemmas.{decode_sized-twice}
use Rattle.hex.proofs.Pairs.{decode_step, decode_err, decode_done, decode_sized-pairs}
use Rattle.std.proofs.lemmas.Simd.{length-put_chunk}
use Rattle.rtcp_text.proofs.DigitBlocks.{block_step}
use Rattle.rtcp_text.proofs.DigitTable.{pair_in_table, refused_in_table}
use Rattle.rtcp_text.proofs.digit_pairs.decode_pairs.Goals as goal

pub front-preserved : goal.front-preserved
front-preserved c =
    let long = rw c.in-Some.is at c.decode_block.type_inv in
    let eight : length c.in-Some.block ≡ 8 = omega (arith, long) in
    record {
      whole = rw length-put_chunk c.front.invariant.whole;
      within = rw length-put_chunk (omega arith);
      spelled = block_step c.args.line.now c.front.octets c.in-Some.block c.front.done (omega arith) (omega arith) eight
          c.in-Some.ensures c.front.invariant.spelled;
    }

pub octets-preserved : goal.octets-preserved
octets-preserved c =
    let i = c.octets.i in
    let line = c.args.line.now in
    let within : 2 * i + 1 < length line = omega arith in
    let pair = pair_in_table (slice_index line (2 * i)) (slice_index line (2 * i + 1)) (2 * i)
    (omega (arith, c.type_inv.line (2 * i))) (omega (arith, c.type_inv.line (2 * i + 1)))
    c.if-high-ge16.false c.if-low-ge16.false in
    record {
      whole = rw length-set c.octets.invariant.whole;
      spelled = decode_step line c.octets.octets i _ within (omega arith) pair c.octets.invariant.spelled;
    }

pub returns : goal.returns
returns c =
    let line = c.args.line.now in
    let whole = decode_done line c.octets.octets c.octets.i (omega arith) (omega arith) c.octets.invariant.spelled in
    let sized = decode_sized-pairs line (length c.octets.octets) (omega arith) (omega arith) in
    rw (sym (decode_sized-twice line (length c.octets.octets) c.octets.invariant.whole) ∙ sized ∙ whole) (refl, refl)

pub returns-then-high-ge16 : goal.returns-then-high-ge16
returns-then-high-ge16 c =
    let i = c.octets.i in
    let line = c.args.line.now in
    let within : 2 * i + 1 < length line = omega arith in
    let refused = refused_in_table (slice_index line (2 * i)) (slice_index line (2 * i + 1)) (2 * i)
    (omega (arith, c.type_inv.line (2 * i))) (omega (arith, c.type_inv.line (2 * i + 1)))
    c.then-high-ge16.either in
    let found = decode_err line c.octets.octets i refused.0 within refused.1 c.octets.invariant.spelled in
    let sized = decode_sized-pairs line (length c.octets.octets) (omega arith) (omega arith) in
    rw (sym (decode_sized-twice line (length c.octets.octets) c.octets.invariant.whole) ∙ sized ∙ found) refl
