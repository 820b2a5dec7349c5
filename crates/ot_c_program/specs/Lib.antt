pub mod Statements
pub mod Turns
pub mod Regions
pub mod Files
