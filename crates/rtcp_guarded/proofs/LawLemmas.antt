-- What the proofs of a host cite: of ticks, and of calls that a guard does not see.
pub use Rattle.rtcp_guarded.proofs.Calling.{IsUnseen, tick_reply, unseen_reply}
