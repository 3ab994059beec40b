use Rattle.rtcp_show.proofs.LineLemmas.{seven_parts}
use Rattle.rtcp_show.proofs.times.push_day.Goals as goal

pub returns : goal.returns
returns c =
    seven_parts _ _ _ _ _ _ _ _ _ _ _ _ _ _ _ c.in_ok-push_two_digits.ensures c.in_ok-push.ensures.items
    c.in_ok-push_two_digits-2.ensures c.in_ok-push-2.ensures.items c.in_ok-push_decimal.ensures
    c.in_ok-push_fixed.ensures c.in_ok-push-3.ensures.items
