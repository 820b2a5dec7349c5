pub mod ReplyLemmas
pub mod KeepLemmas
pub mod BodyLemmas
pub mod LineLemmas
pub mod FileLemmas
