use Rattle.rtcp_engine.specs.answers.Histories.{last_moment}
use Rattle.jalwedd_host.proofs.Listing.{listed_as_known}
use Rattle.jalwedd_host.proofs.Never.{in_range}
use Rattle.jalwedd_host.proofs.laws.shown_sources_are_listed.Goals as goal

pub returns : goal.returns
returns c history is after state tells start low shown shows =
    let passed = c.listed_moments_have_passed.ensures in
    let left = passed.left history is after state tells in
    listed_as_known start shown state shows
    (in_range start (λ left. left) (last_moment history.acts) state.left low (passed.range history is) left)
