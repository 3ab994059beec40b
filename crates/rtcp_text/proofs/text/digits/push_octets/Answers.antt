use Rattle.std.proofs.Common.{arith}
use Rattle.rtcp_text.proofs.DigitText.{block_more, octet_more, all_written}
use Rattle.rtcp_text.proofs.text.digits.push_octets.Goals as goal

pub front-preserved : goal.front-preserved
front-preserved c = record {
  within = omega arith;
  written = rw (c.in_ok-extend_from_slice.ensures.items, c.digits_of-digits.ensures)
      (block_more c.front.out.items c.args.octets.now _ c.front.done c.front.invariant.written);
}

pub rest-preserved : goal.rest-preserved
rest-preserved c =
    rw c.in_ok-extend_from_slice-2.ensures.items
    (octet_more c.rest.out.items c.args.octets.now _ c.rest.i c.rest-test.true c.rest.invariant)

pub returns : goal.returns
returns c = all_written c.rest.out.items c.args.octets.now _ c.rest.i (omega arith) c.rest.invariant
