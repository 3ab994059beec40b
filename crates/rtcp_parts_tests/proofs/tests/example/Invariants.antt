use Rattle.std.proofs.Common.{◌-◌}
use Rattle.rtcp_parts.specs.Cursors.{position}
use Rattle.rtcp_parts_tests.proofs.tests.example.Given as goal

-- the octets that the walk has not passed
abbrev pub decreases-items : goal.decreases-items
decreases-items g l = 24 - position l.cursor
