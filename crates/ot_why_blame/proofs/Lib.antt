pub mod WalkLemmas
pub mod TouchLemmas
pub mod AwaitsLemmas
pub mod FollowLemmas
pub mod FindLemmas
