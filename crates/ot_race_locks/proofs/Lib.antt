pub mod ListLemmas
pub mod GroupLemmas
pub mod OrderedLemmas
