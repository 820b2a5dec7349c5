pub mod VerdictLemmas
pub mod GoingLemmas
pub mod FindingLemmas
pub mod RunLemmas
pub mod PlaceLemmas
