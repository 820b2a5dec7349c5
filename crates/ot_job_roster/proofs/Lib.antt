pub mod ListedLemmas
pub mod TellsLemmas
