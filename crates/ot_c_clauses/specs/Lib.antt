pub mod Operations
pub mod Sections
pub mod Portions
pub mod Owns
pub mod Cells
pub mod Clauses
