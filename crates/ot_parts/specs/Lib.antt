-- what callers read
pub mod Parts
pub mod Assigns
pub mod Modes
pub mod Bytes
pub mod Steps
-- what only this crate knows
pub mod Left
