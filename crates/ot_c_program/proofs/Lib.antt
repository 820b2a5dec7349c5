pub mod BodyLemmas
pub mod KnownLemmas
pub mod MainLemmas
pub mod TurnLemmas
