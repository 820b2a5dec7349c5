pub mod Arithmetic
pub mod Values
pub mod Stores
