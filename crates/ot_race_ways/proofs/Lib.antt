pub mod BranchLemmas
pub mod WayLemmas
pub mod NumberLemmas
pub mod AlikeLemmas
pub mod FollowLemmas
pub mod TellLemmas
pub mod RunLemmas
pub mod StraightLemmas
