pub mod Lines
pub mod Assignments
pub mod Extremes
