pub mod Statements
pub mod Programs
pub mod Named
pub mod Laws
