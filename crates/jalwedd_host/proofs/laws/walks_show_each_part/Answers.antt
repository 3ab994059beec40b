-- Each call goes on where the one before stopped.
use Rattle.rtcp_wire.specs.Contents.{packet_apps, packet_blocks, packet_goodbyes, packet_items, packet_senders}
use Rattle.rtcp_parts.specs.Cursors.{LeavesBlocks, LeavesGoodbyes, LeavesItems, LeavesNone}
use Rattle.jalwedd_host.specs.Apps.{ShowsApp}
use Rattle.jalwedd_host.specs.Parts.{ShowsGoodbye, ShowsItem, ShowsSender}
use Rattle.jalwedd_host.specs.Readings.{ShowsBlock}
use Rattle.rtcp_parts.proofs.Boundaries.{boundary_at_start}
use Rattle.jalwedd_host.proofs.OwnWalks.{tells_own}
use Rattle.jalwedd_host.proofs.WholeWalks.{shows_all}
use Rattle.jalwedd_host.proofs.laws.walks_show_each_part.Goals as goal

pub returns-clause-senders : goal.returns-clause-senders
returns-clause-senders c = shows_all packet_senders LeavesNone (λ datagram. ShowsSender)

pub returns-clause-blocks : goal.returns-clause-blocks
returns-clause-blocks c = shows_all packet_blocks LeavesBlocks (λ datagram. ShowsBlock)

pub returns-clause-items : goal.returns-clause-items
returns-clause-items c = shows_all packet_items LeavesItems ShowsItem

pub returns-clause-goodbyes : goal.returns-clause-goodbyes
returns-clause-goodbyes c = shows_all packet_goodbyes LeavesGoodbyes ShowsGoodbye

pub returns-clause-apps : goal.returns-clause-apps
returns-clause-apps c = shows_all packet_apps LeavesNone ShowsApp

pub returns-clause-boundary : goal.returns-clause-boundary
returns-clause-boundary c = boundary_at_start

pub returns-clause-own_apps : goal.returns-clause-own_apps
returns-clause-own_apps c = tells_own
