pub mod Faults
pub mod Places
pub mod Sentences
pub mod Runs
