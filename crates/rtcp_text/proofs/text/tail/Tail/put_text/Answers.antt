use Rattle.std.proofs.Common.{arith, rules}
use Rattle.rtcp_text.proofs.TailLemmas.{text_written}
use Rattle.rtcp_text.proofs.text.tail.Tail.put_text.Goals as goal

pub returns-clause-text : goal.returns-clause-text
returns-clause-text c =
    let s = c.args.self.now.start in
    rw c.copy_from_slice.ensures.after
    (text_written c.args.self.now.octets c.args.text.now _ s (omega arith) (search rules) (omega arith))
