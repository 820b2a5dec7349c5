mod MarkLemmas
mod TurnLemmas
pub mod IndexLemmas
pub mod FloorLemmas
