pub mod TalkLemmas
pub mod StreamLemmas
pub mod TallyLemmas
