-- The laws, to be cited by proofs.
pub use Rattle.rtcp_text.proofs.EventTextLemmas.{read_back as events_are_read_back-read}
pub use Rattle.rtcp_text.proofs.EventTextLemmas.{one_line as events_are_read_back-line}
pub use Rattle.rtcp_text.proofs.EventTextLemmas.{short_line as events_are_read_back-short}
pub use Rattle.rtcp_text.proofs.EventTextLemmas.{callable as events_are_read_back-callable}
pub use Rattle.rtcp_text.proofs.EventTextLemmas.{record_read as events_are_read_back-record}
