use Rattle.std.proofs.Common.{arith}
use Rattle.rtcp_text.proofs.SeparatorLemmas.{first_near}
use Rattle.rtcp_text.proofs.parts.find.Goals as goal

pub returns-then-separators-ne0-clause-within : goal.returns-then-separators-ne0-clause-within
returns-then-separators-ne0-clause-within g c =
    (first_near g.row.SEPARATOR (omega arith) c.args.octets.now (omega arith) c.if-separators-ne0.true).within

pub returns-then-separators-ne0-clause-found : goal.returns-then-separators-ne0-clause-found
returns-then-separators-ne0-clause-found g c =
    (first_near g.row.SEPARATOR (omega arith) c.args.octets.now (omega arith) c.if-separators-ne0.true).found

pub returns-then-separators-ne0-clause-before : goal.returns-then-separators-ne0-clause-before
returns-then-separators-ne0-clause-before g c =
    (first_near g.row.SEPARATOR (omega arith) c.args.octets.now (omega arith) c.if-separators-ne0.true).before
