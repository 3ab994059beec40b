mod TakenInTurn
mod ReportSizes
mod ReportPackets
mod Prefixes
mod PutReports
mod PutDescriptions
mod WholeReports
mod PutByes
mod Following
mod Fitting
mod Stays
mod examples
pub mod LawLemmas
