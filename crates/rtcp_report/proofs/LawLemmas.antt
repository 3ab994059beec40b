-- The laws of this crate as lemmas, for the proofs of the crates above: each has the name of its law, and of the clause
-- where the law has
-- several.
pub use Rattle.rtcp_report.proofs.Prefixes.{longest_fitting as longest_prefix_is_reported-longest}
pub use Rattle.rtcp_report.proofs.Prefixes.{only_longest as longest_prefix_is_reported-only}
pub use Rattle.rtcp_report.proofs.Prefixes.{none_twice as none_is_reported_twice}
pub use Rattle.rtcp_report.proofs.ReportSizes.{packets_length as size_is_that_of_the_octets}
pub use Rattle.rtcp_report.proofs.Stays.{sources_fit as reports_are_of_stays-sources}
pub use Rattle.rtcp_report.proofs.Stays.{blocks_fit as reports_are_of_stays-blocks}
pub use Rattle.rtcp_report.proofs.Following.{stands_after as tables_follow_reports-stands}
pub use Rattle.rtcp_report.proofs.Following.{few_after_blocks as tables_follow_reports-packets}
pub use Rattle.rtcp_report.proofs.Fitting.{report_fits as compounds_are_small-report}
pub use Rattle.rtcp_report.proofs.Fitting.{empty_is_small as compounds_are_small-empty}
pub use Rattle.rtcp_report.proofs.Fitting.{bye_is_small as compounds_are_small-bye}
