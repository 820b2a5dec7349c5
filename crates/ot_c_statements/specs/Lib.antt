pub mod Faults
pub mod Tree
pub mod Reading
pub mod Loops
pub mod Directives
pub mod Simple
pub mod Statements
