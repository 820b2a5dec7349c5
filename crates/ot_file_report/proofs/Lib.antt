pub mod ReportLemmas
pub mod NoteLemmas
