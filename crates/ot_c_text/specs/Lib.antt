pub mod Reasons
pub mod Settling
pub mod Reading
pub mod Judging
pub mod Requests
pub mod Session
