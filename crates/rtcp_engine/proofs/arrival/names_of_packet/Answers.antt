use Rattle.std.proofs.Common.{◌∙◌}
use Rattle.rtcp_engine.proofs.Marking.{first_marked}
use Rattle.rtcp_engine.proofs.arrival.names_of_packet.Goals as goal

pub csrcs-init : goal.csrcs-init
csrcs-init c = λ place within. first_marked _ _ _ _ _ _ _ (c.mark.ensures place within)
    (c.none-named.ensures place within) c.ssrc.ensures
    (c.into_iter-csrc-iterator.ensures.into_iter_gives ∙ c.csrcs-csrc-items.ensures.items)
