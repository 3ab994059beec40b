use Rattle.rtcp_text.proofs.DigitText.{block_written}
use Rattle.rtcp_text.proofs.text.digits.digits_of.Goals as goal

pub returns : goal.returns
returns c = block_written c.args.octets c.fits-octets.0 c.fits-octets.1
