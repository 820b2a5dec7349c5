pub mod Each
pub mod Arrays
pub mod Places
pub mod Pointers
