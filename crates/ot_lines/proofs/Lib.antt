pub mod Counting
pub mod Passing
pub mod Cutting
pub mod Hearing
pub mod Listening
