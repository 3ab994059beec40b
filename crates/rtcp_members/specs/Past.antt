-- What lies in the past of a moment.
use Rattle.std.specs.Prelude.{ℕ, ◌≤◌, List, IfSome}
use Rattle.std.specs.List.{AllByRecursion}
use Rattle.rtcp_members.specs.Traces.{TraceStep}
use Rattle.rtcp_members.specs.Stays.{step_moment}
use Rattle.rtcp_members.specs.Listings.{StateValue}

-- Each fact of a trace came by this moment.
abbrev pub CameBy : (latest : ℕ) → List TraceStep → Type 0
CameBy latest trace = AllByRecursion (λ step. step_moment step ≤ latest) trace

-- A source was last heard by this moment; it sent a BYE by then, if it did; and so did its last sender report come.
pub record IsKnownBy (latest : ℕ) (state : StateValue) : Type 0 where
  pub heard : state.heard ≤ latest
  pub left : IfSome state.left (λ left. left ≤ latest)
  pub last_report : IfSome state.last_report (λ last_report. last_report.moment ≤ latest)
