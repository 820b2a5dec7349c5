-- How one walk of a body, with the children of each cell, knows what the paths say. For this crate, and for the laws that tie
-- it to the paths.
pub mod Walk
pub mod Rows
pub mod States
