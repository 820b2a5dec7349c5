pub mod RunLemmas
pub mod TellingLemmas
