pub mod OrderLemmas
pub mod FoundLemmas
pub mod LacksLemmas
pub mod FindingLemmas
pub mod ReportLemmas
