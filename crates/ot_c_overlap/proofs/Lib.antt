pub mod ClauseLemmas
pub mod WalkLemmas
pub mod ClaimLemmas
pub mod NameLemmas
