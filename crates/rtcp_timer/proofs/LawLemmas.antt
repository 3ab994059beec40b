-- The laws of `laws.rt`, as lemmas that crates above can cite: LAW, or LAW-CLAUSE for a law with several clauses.
use Rattle.std.proofs.Common.{◌≤◌, List}
use Rattle.rtcp_timer.specs.Schedules.{Happening, IsInOrder, schedule_at, newest_moment, newest_transmission}
use Rattle.rtcp_timer.proofs.Bounding
pub use Rattle.rtcp_timer.proofs.Averaging.{average_between as average_lies_between}
pub use Rattle.rtcp_timer.proofs.Sharing.{keeps_to_share as interval_keeps_to_share}
pub use Rattle.rtcp_timer.proofs.Sharing.{has_minimum as interval_has_minimum}
pub use Rattle.rtcp_timer.proofs.Sides.{of_another as senders_have_the_shorter_interval-others}
pub use Rattle.rtcp_timer.proofs.Sides.{with_less as less_bandwidth_waits_longer}
pub use Rattle.rtcp_timer.proofs.Following.{last_follows as schedule_follows_departures-last}
pub use Rattle.rtcp_timer.proofs.Following.{next_follows as schedule_follows_departures-next}
pub use Rattle.rtcp_timer.proofs.Following.{known_follows as schedule_follows_departures-known}
pub use Rattle.rtcp_timer.proofs.Bounding.{last_bounded as last_lies_between-not_after_departure}
pub use Rattle.rtcp_timer.proofs.Bounding.{due_not_too_soon as never_due_too_soon, due_in_time}
pub use Rattle.rtcp_timer.proofs.Bounding.{within_after_transmission as calls_keep_within_draws-transmitted}
pub use Rattle.rtcp_timer.proofs.Bounding.{within_after_try as calls_keep_within_draws-tried}
pub use Rattle.rtcp_timer.proofs.Bounding.{within_after_departure as calls_keep_within_draws-departed}
pub use Rattle.rtcp_timer.proofs.Bounding.{within_after_count as calls_keep_within_draws-stayed}

-- ---- The schedule

pub last_lies_between-not_before_sent : (events : List Happening) → IsInOrder events →
    newest_transmission events ≤ (schedule_at events).last
last_lies_between-not_before_sent events in_order = (Bounding.last_between events in_order).0

pub last_lies_between-not_after_newest : (events : List Happening) → IsInOrder events →
    (schedule_at events).last ≤ newest_moment events
last_lies_between-not_after_newest events in_order = (Bounding.last_between events in_order).1
