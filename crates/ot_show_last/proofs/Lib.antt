pub mod FoundLemmas
pub mod GoingLemmas
pub mod LineLemmas
pub mod HearingLemmas
