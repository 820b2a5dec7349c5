pub mod EachLemmas
pub mod UseLemmas
pub mod CoverLemmas
