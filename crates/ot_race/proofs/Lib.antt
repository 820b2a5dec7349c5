mod SerialLemmas
mod EventLemmas
pub mod PlaceLemmas
pub mod DependsLemmas
pub mod OrderLemmas
pub mod StandingLemmas
pub mod RowLemmas
mod LaneLemmas
pub mod SiblingLemmas
pub mod NoteLemmas
pub mod HistoryLemmas
