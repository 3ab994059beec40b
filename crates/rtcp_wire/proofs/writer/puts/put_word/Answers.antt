-- Four octets, one after the other.
use Rattle.std.proofs.Common.{List, ℕ, subst, rules}
use Rattle.rtcp_wire.specs.Puts.{IsPut}
use Rattle.rtcp_wire.proofs.Putting.{put_after}
use Rattle.rtcp_wire.proofs.writer.puts.put_word.Goals as goal

pub returns-clause-put : goal.returns-clause-put
returns-clause-put c =
    subst (λ (part : List ℕ). IsPut c.args.octets.now c.put_octet.new.octets c.args.at part c.put_octet.result)
    (search rules)
    (put_after c.put_octet-end.ensures
    (put_after c.put_octet-end-2.ensures (put_after c.put_octet-end-3.ensures c.put_octet.ensures)))
