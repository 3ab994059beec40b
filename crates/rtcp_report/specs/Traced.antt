-- The trace of a session after a report.
pub use Rattle.rtcp_members.specs.Traces.{with_blocks}
