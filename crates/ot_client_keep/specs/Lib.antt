pub mod Files
pub mod Questions
pub mod Asked
pub mod Arrays
pub mod Saving
pub mod Answers
