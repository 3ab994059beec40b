-- A check that surely changes nothing is not made.
use Rattle.std.proofs.Common.{refl}
use Rattle.rtcp_engine.proofs.Quiet.{quiet_does, quiet_moves}
use Rattle.rtcp_engine.proofs.presence.Presence.drop_silent.Goals as goal

pub returns-then-is_quiet : goal.returns-then-is_quiet
returns-then-is_quiet g c =
    let quiet = c.is_quiet.ensures.quiet c.if-is_quiet.true in
    record {
      does = quiet_does c.args.self.now quiet c.is_quiet.ensures.within;
      moves = quiet_moves c.args.self.now quiet;
      reports = refl;
    }
