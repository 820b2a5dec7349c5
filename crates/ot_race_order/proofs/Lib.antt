pub mod DependLemmas
pub mod EventLemmas
pub mod AlikeLemmas
pub mod LikeLemmas
