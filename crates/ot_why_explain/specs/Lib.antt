pub mod Explaining
pub mod Listening
pub mod Remarks
