pub mod WordLemmas
pub mod PlayLemmas
pub mod TalkLemmas
