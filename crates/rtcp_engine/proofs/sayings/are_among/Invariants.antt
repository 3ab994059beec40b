use Rattle.std.proofs.Common.{◌≡◌, ◌==◌}
use Rattle.std.specs.List.{list_any}
use Rattle.rtcp_wire.specs.Facts.{subject}
use Rattle.rtcp_engine.specs.state.Sayings.{facts_of_byes}
use Rattle.rtcp_engine.proofs.sayings.are_among.Given as goal

-- what is left tells it as all does
abbrev pub invariant-ids : goal.invariant-ids
invariant-ids l = list_any (λ fact. subject fact == l.ssrc) (facts_of_byes l.id-iterator) ≡ list_any
    (λ fact. subject fact == l.ssrc) (facts_of_byes l.fn.ids)
