mod TurnLemmas
mod ShareLemmas
pub mod SendLemmas
