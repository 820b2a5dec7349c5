pub mod Tree
pub mod Serial
pub mod Upward
pub mod Offences
pub mod Copies
pub mod Programs
