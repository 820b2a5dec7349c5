mod OutlineLemmas
pub mod StepLemmas
pub mod FollowLemmas
mod ApartLemmas
pub mod AskedLemmas
