pub mod Serving
pub mod Writing
pub mod Session
pub mod Turns
