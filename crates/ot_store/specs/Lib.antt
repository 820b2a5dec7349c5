pub mod Refusals
pub mod Arrays
