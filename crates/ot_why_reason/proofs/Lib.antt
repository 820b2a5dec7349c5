pub mod FaultLemmas
pub mod NumberLemmas
pub mod DueLemmas
pub mod RunLemmas
