mod Profiles
mod SerialLemmas
mod OffenceLemmas
mod ReadingLemmas
