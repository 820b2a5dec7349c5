pub mod Signs
pub mod Tree
pub mod Reading
pub mod Clauses
pub mod Spelling
pub mod Laws
