pub mod HeardLemmas
pub mod SizesLemmas
pub mod GivenLemmas
pub mod FollowsLemmas
pub mod StoreLemmas
pub mod RemarksLemmas
