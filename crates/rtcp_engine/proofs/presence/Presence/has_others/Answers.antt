use Rattle.std.proofs.Common.{ℕ, ◌==◌, not, ap}
use Rattle.rtcp_engine.proofs.RolesChanged.{others_there}
use Rattle.rtcp_engine.proofs.presence.Presence.has_others.Goals as goal

pub returns : goal.returns
returns g c = others_there c.self.view_is _ (ap (λ (n : ℕ). not (n == 0)) c.members.ensures)
