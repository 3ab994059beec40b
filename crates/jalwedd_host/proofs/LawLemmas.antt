-- What the proofs of the exports cite: of what a handle holds, of moments that stand for none, and of options.
pub use Rattle.jalwedd_host.proofs.Held.{guarded_as, guarded_of, history_of, leads_as, session_of, start_of}
pub use Rattle.jalwedd_host.proofs.Never.{shows_left, shows_this, shows_report}
pub use Rattle.jalwedd_host.proofs.Options.{some_same}
