use Rattle.rtcp_text.proofs.DigitBlocks.{block_spelled}
use Rattle.rtcp_text.proofs.digit_pairs.decode_block.Goals as goal

pub returns : goal.returns
returns c = block_spelled c.args.digits c.fits-digits.0 c.fits-digits.1 c.if-values-ne0.false
