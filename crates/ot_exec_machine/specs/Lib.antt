pub mod State
pub mod Steps
pub mod View
pub mod Runs
pub mod Stable
pub mod Telling
