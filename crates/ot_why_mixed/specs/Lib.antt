pub mod Mixed
pub mod Rows
